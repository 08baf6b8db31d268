use Rattle.serde_json_path_syntax.specs.Bindings.{pairs_of}
use Rattle.jpq_program.proofs.Words.{◌≡◌, take, value_pairs}
use Rattle.jpq_program.proofs.bindings.bindings_of.Given as goal

abbrev pub invariant-loop-named : goal.invariant-loop-named
invariant-loop-named l = pairs_of l.bindings.items ≡ value_pairs (take l.named-index l.values)
