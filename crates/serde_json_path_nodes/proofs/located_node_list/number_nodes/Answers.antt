use Rattle.serde_json_path_nodes.proofs.Words.{nat_tests, arith, common_steps, get_or-set_other, map-set_same}
use Rattle.serde_json_path_nodes.proofs.located_node_list.number_nodes.Goals as goal

pub loop-number-preserved : goal.loop-number-preserved
loop-number-preserved c = grind (arith, nat_tests, common_steps, get_or-set_other, map-set_same)
