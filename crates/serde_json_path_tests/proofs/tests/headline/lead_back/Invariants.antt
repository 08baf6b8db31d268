use Rattle.serde_json_path_tests.proofs.Words.{◌≡◌, Some, view, Located, at, located_nodes_left, IsIn}
use Rattle.serde_json_path_tests.proofs.tests.headline.lead_back.Given as goal

-- each node that is left is where its location leads to
abbrev pub invariant-loop-node : goal.invariant-loop-node
invariant-loop-node g l = (n : Located) → IsIn n (located_nodes_left l.node-iterator) → at (view l.document) n.location ≡ Some n.value
