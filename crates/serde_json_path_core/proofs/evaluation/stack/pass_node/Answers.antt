use Rattle.serde_json_path_core.proofs.Words.{◌-◌, take, option_map, ap, sym, ◌∙◌, length-map, take-map, step_view, frame_view, frames_view, without_node, arith, nat_tests, common_steps}
use Rattle.serde_json_path_core.proofs.evaluation.stack.pass_node.Goals as goal

pub returns-in-None : goal.returns-in-None
returns-in-None c = grind (arith, nat_tests, common_steps, take-map, length-map)
