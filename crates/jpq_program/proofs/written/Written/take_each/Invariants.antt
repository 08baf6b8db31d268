use Rattle.jpq_program.proofs.Words.{map, take, located, TookNodes}
use Rattle.jpq_program.proofs.written.Written.take_each.Given as goal

abbrev pub invariant-loop-node : goal.invariant-loop-node
invariant-loop-node g l = TookNodes g.W.Write.contents l.initial.self (map located (take l.node-index l.nodes)) l.self
