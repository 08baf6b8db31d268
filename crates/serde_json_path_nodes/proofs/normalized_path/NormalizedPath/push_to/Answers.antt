use Rattle.serde_json_path_nodes.proofs.Words.{nat_tests, arith, common_steps}
use Rattle.serde_json_path_nodes.proofs.TextsApart.{in_decimal-decimal}
use Rattle.serde_json_path_nodes.proofs.Steps.{normal_more}
use Rattle.serde_json_path_nodes.proofs.normalized_path.NormalizedPath.push_to.Goals as goal

pub loop-element-preserved : goal.loop-element-preserved
loop-element-preserved c = grind (arith, nat_tests, common_steps, in_decimal-decimal, normal_more)
