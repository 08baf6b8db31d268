use Rattle.serde_json_path_nodes.proofs.Words.{arith, common_steps}
use Rattle.serde_json_path_nodes.proofs.Pointers.{pointer_more}
use Rattle.serde_json_path_nodes.proofs.normalized_path.push_in_pointer.Goals as goal

pub loop-c-preserved-in-Continue-1 : goal.loop-c-preserved-in-Continue-1
loop-c-preserved-in-Continue-1 c = grind (arith, common_steps)

pub loop-c-preserved-in-Continue-branch-2 : goal.loop-c-preserved-in-Continue-branch-2
loop-c-preserved-in-Continue-branch-2 c = grind (arith, common_steps)

pub loop-c-preserved : goal.loop-c-preserved
loop-c-preserved c = grind (arith, pointer_more)
