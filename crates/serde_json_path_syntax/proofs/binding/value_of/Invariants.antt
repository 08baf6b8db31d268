use Rattle.serde_json_path_syntax.proofs.Words.{◌≡◌, drop}
use Rattle.serde_json_path_syntax.specs.Words.{pairs_of, value_in}
use Rattle.serde_json_path_syntax.proofs.binding.value_of.Given as goal

abbrev pub invariant-loop-binding : goal.invariant-loop-binding
invariant-loop-binding l = value_in (pairs_of l.bindings) l.text ≡ value_in (pairs_of (drop l.binding-index l.bindings)) l.text
