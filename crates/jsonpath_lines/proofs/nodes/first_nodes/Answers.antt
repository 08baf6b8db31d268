use Rattle.jsonpath_lines.proofs.Words.{arith, nat_tests, common_steps, take-map}
use Rattle.jsonpath_lines.proofs.nodes.first_nodes.Goals as goal

pub returns-in-Some : goal.returns-in-Some
returns-in-Some c = grind (arith, nat_tests, common_steps, take-map)
