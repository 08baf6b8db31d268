use Rattle.jsonpath_c.proofs.Words.{map, take, located, AreWithin}
use Rattle.jsonpath_c.proofs.selected.first_of.Given as goal

abbrev pub invariant-loop-node : goal.invariant-loop-node
invariant-loop-node l = AreWithin l.limits l.bounded_list.left (map located (take l.node-index l.found)) l.bounded_list.nodes
