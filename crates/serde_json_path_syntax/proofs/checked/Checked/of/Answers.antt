use Rattle.serde_json_path_syntax.proofs.Words.{arith, nat_tests, common_steps, calls_among, part_query}
use Rattle.serde_json_path_syntax.proofs.Names.Once.{called_once, signature-once}
use Rattle.serde_json_path_syntax.proofs.Typing.TypedByNames.{typed_by_names}
use Rattle.serde_json_path_syntax.proofs.checked.Checked.of.Goals as goal

pub invariant_of-result-clause-typed : goal.invariant_of-result-clause-typed
invariant_of-result-clause-typed c = grind (arith, nat_tests, common_steps, signature-once, typed_by_names)

pub invariant_of-result-clause-called : goal.invariant_of-result-clause-called
invariant_of-result-clause-called c = ∣ called_once (calls_among c.args.arena.nodes.items) (part_query c.args.arena.nodes.items c.args.part) c.requires.complete.called ∣₁

pub invariant_of-result-clause-agreed : goal.invariant_of-result-clause-agreed
invariant_of-result-clause-agreed c = c.requires.complete.agreed
