use Rattle.serde_json_path_tests.proofs.Words.{arith, common_steps}
use Rattle.serde_json_path_syntax.specs.Tree as tree
use Rattle.serde_json_path_tests.proofs.tests.built.tells_the_result_of_a_call.Goals as goal

pub call-requires : goal.call-requires
call-requires g c = (tree.no_arguments, grind (arith, common_steps))

pub called-requires : goal.called-requires
called-requires g c = (_, c.in_ok-call.ensures.made tree.no_arguments (grind (arith, common_steps)))

pub argument-told-requires : goal.argument-told-requires
argument-told-requires g c = (tree.operand (tree.called _), c.in_ok-operand.ensures.made _ (c.in_ok-call.ensures.made tree.no_arguments (grind (arith, common_steps))))
