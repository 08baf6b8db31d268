use Rattle.jpq_program.proofs.Words.{◌∙◌, ap, take_all, value_pairs}
use Rattle.jpq_program.proofs.Bound.{map_reverse}
use Rattle.serde_json_path_syntax.specs.Bindings.{pairs_of}
use Rattle.serde_json_path_syntax.specs.declared.binding.Binding.{Binding}
use Rattle.std.specs.Prelude.{reverse}
use Rattle.jpq_program.proofs.bindings.bindings_of.Goals as goal

pub returns : goal.returns
returns c =
    ap pairs_of c.reverse.ensures.items
    ∙ map_reverse (λ (binding : Binding). (binding.text.now, binding.value.now)) c.loop-named.bindings.items
    ∙ ap reverse (c.loop-named.invariant ∙ ap value_pairs (take_all c.loop-named.named-index c.args.values.now c.loop-named-test.false))
