use Rattle.serde_json_path_tests.proofs.Words.{arith, common_steps}
use Rattle.serde_json_path_syntax.specs.Tree as tree
use Rattle.serde_json_path_tests.proofs.tests.built.tells_a_singular_query.Goals as goal

pub query-requires : goal.query-requires
query-requires g c = (tree.no_segments, grind (arith, common_steps))

pub is_singular-requires : goal.is_singular-requires
is_singular-requires g c = (tree.query tree.root tree.no_segments, grind (arith, common_steps, c.in_ok-query.ensures.made tree.no_segments))
