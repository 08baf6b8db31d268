use Rattle.jsonpath_lines.proofs.Words.{arith, nat_tests, common_steps, length-map}
use Rattle.jsonpath_lines.proofs.Chosen.{pushed_so_far}
use Rattle.jsonpath_lines.proofs.EachOnce.{first_of_enough}
use Rattle.jsonpath_lines.proofs.nodes.push_unique.Goals as goal

pub returns-clause-pushed : goal.returns-clause-pushed
returns-clause-pushed g c = grind (arith, nat_tests, common_steps, length-map, pushed_so_far, first_of_enough)
