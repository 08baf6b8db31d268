use Rattle.jpq_program.proofs.Words.{◌∙◌, [], ◌∷◌, ap, arith, map-append, take-append-drop, Bool, List, Located, sym, subst, map, take, drop, suc, located, TookNodes, FilledNodes, WritesNode}
use Rattle.jpq_program.proofs.Nodes.{begins_done, begins_first, filled_by_one, further_mapped, split_mapped, took_one}
use Rattle.jpq_program.proofs.written.Written.take_each.Goals as goal

pub returns-then-not-branch-clause-filled : goal.returns-then-not-branch-clause-filled
returns-then-not-branch-clause-filled g c =
    let index = c.loop-node.node-index in
    let done = map located (take index c.args.nodes.now) in
    let step = subst (λ (more : Bool). WritesNode g.W.Write.contents (located c.node-item.result) more c.loop-node.self c.take_node.new.self) c.if-not-branch.true c.in_ok-take_node.ensures.taken in
    subst (λ (ns : List Located). FilledNodes g.W.Write.contents c.args.self.now ns c.take_node.new.self) (sym (split_mapped located c.args.nodes.now index c.node-item.result c.loop-node-test.true c.node-item.is))
    (filled_by_one g.W.Write.contents c.args.self.now done (located c.node-item.result) (map located (drop (suc index) c.args.nodes.now)) c.loop-node.self c.take_node.new.self c.loop-node.invariant step)

pub loop-node-preserved : goal.loop-node-preserved
loop-node-preserved g c =
    let index = c.loop-node.node-index in
    let done = map located (take index c.args.nodes.now) in
    let step = subst (λ (more : Bool). WritesNode g.W.Write.contents (located c.node-item.result) more c.loop-node.self c.take_node.new.self) c.if-not-branch.false c.in_ok-take_node.ensures.taken in
    subst (λ (ns : List Located). TookNodes g.W.Write.contents c.args.self.now ns c.take_node.new.self) (sym (further_mapped located c.args.nodes.now index c.node-item.result c.loop-node-test.true c.node-item.is))
    (took_one g.W.Write.contents c.args.self.now done (located c.node-item.result) c.loop-node.self c.take_node.new.self c.loop-node.invariant step)

pub returns-clause-begun : goal.returns-clause-begun
returns-clause-begun g c =
    let index = c.loop-node.node-index in
    begins_done g.W.Write.contents c.args.self.now c.loop-node.self (map located c.args.nodes.now) (map located (take index c.args.nodes.now)) (map located (drop index c.args.nodes.now)) c.loop-node.invariant
    (ap (map located) (sym (take-append-drop index c.args.nodes.now)) ∙ map-append located (take index c.args.nodes.now) (drop index c.args.nodes.now))

pub returns-then-not-branch-clause-begun : goal.returns-then-not-branch-clause-begun
returns-then-not-branch-clause-begun g c =
    let index = c.loop-node.node-index in
    begins_first g.W.Write.contents c.args.self.now c.loop-node.self c.take_node.new.self (map located c.args.nodes.now) (map located (take index c.args.nodes.now)) (located c.node-item.result ∷ []) (map located (drop (suc index) c.args.nodes.now))
    c.loop-node.invariant c.in_ok-take_node.ensures.begun (omega arith) (split_mapped located c.args.nodes.now index c.node-item.result c.loop-node-test.true c.node-item.is)

pub returns-in_err-take_node-clause-begun : goal.returns-in_err-take_node-clause-begun
returns-in_err-take_node-clause-begun g c =
    let index = c.loop-node.node-index in
    begins_first g.W.Write.contents c.args.self.now c.loop-node.self c.take_node.new.self (map located c.args.nodes.now) (map located (take index c.args.nodes.now)) [] (located c.node-item.result ∷ map located (drop (suc index) c.args.nodes.now))
    c.loop-node.invariant c.in_err-take_node.ensures.unwritten (omega arith) (split_mapped located c.args.nodes.now index c.node-item.result c.loop-node-test.true c.node-item.is)
