use Rattle.jpq_program.proofs.Words.{[], IfErr-weaker, inl, inr, refl, Bool, List, Located, IfOk-weaker, ap, sym, subst, map, located, rest, first_places, once, AreEnough, FilledNodes, arith, common_steps}
use Rattle.jpq_program.proofs.Nodes.{begins_found, begins_nothing, filled_by_enough, took_none}
use Rattle.jpq_program.proofs.Shown.{of_any_error}
use Rattle.jpq_program.proofs.answering.Answering.write_nodes.Goals as goal

pub returns-then-self-clause-filled : goal.returns-then-self-clause-filled
returns-then-self-clause-filled g c =
    let nodes = rest c.in_ok-walk.walk in
    let before = c.args.written.now in
    let unique = ap (λ (u : Bool). once u nodes) (sym c.if-self.true) in
    let enough = subst (λ (ns : _). AreEnough before.limit (first_places nodes) (map located ns)) (sym c.deref.ensures.value) c.in_ok-nodes.ensures.nodes in
    IfOk-weaker c.take_each.result _ _ (λ _ filled. (
      nodes,
      c.in_ok-walk.ensures.selects,
      subst (λ (ns : List Located). FilledNodes g.W.Write.contents before ns c.take_each.new.self) unique
          (filled_by_enough g.W.Write.contents before (first_places nodes) (map located c.deref.result.now) c.take_each.new.self enough filled),
    )) c.take_each.ensures.filled

pub returns-clause-filled : goal.returns-clause-filled
returns-clause-filled g c =
    let nodes = rest c.in_ok-walk.walk in
    let all = ap (λ (u : Bool). once u nodes) (sym c.if-self.false) in
    IfOk-weaker c.take_rest.result _ _ (λ _ filled. (
      nodes,
      c.in_ok-walk.ensures.selects,
      subst (λ (ns : List Located). FilledNodes g.W.Write.contents c.args.written.now ns c.take_rest.new.self) all filled,
    )) c.take_rest.ensures.filled

-- ---- what was written before a query is refused, and of what a beginning is out

pub returns-in_err-walk-clause-begun : goal.returns-in_err-walk-clause-begun
returns-in_err-walk-clause-begun g c = ([], inl refl, begins_nothing g.W.Write.contents c.args.written.now)

pub returns-then-is_reached-clause-begun : goal.returns-then-is_reached-clause-begun
returns-then-is_reached-clause-begun g c = ([], inl refl, begins_nothing g.W.Write.contents c.args.written.now)

pub returns-in_err-nodes-clause-begun : goal.returns-in_err-nodes-clause-begun
returns-in_err-nodes-clause-begun g c = ([], inl refl, begins_nothing g.W.Write.contents c.args.written.now)

pub returns-in_err-nodes-clause-before : goal.returns-in_err-nodes-clause-before
returns-in_err-nodes-clause-before g c =
    of_any_error c.from_residual-in_err-nodes.result _ (λ _ _. (
      [],
      inl refl,
      record {
        first = [];
        others = [];
        split = refl;
        took = took_none g.W.Write.contents c.args.written.now c.requires.goes_on (grind (arith, common_steps, c.is_reached.ensures, c.if-is_reached.false, c.requires.none));
      },
    ))

pub returns-then-self-clause-begun : goal.returns-then-self-clause-begun
returns-then-self-clause-begun g c =
    let nodes = rest c.in_ok-walk.walk in
    let before = c.args.written.now in
    let unique = ap (λ (u : Bool). once u nodes) (sym c.if-self.true) in
    let enough = subst (λ (ns : _). AreEnough before.limit (first_places nodes) (map located ns)) (sym c.deref.ensures.value) c.in_ok-nodes.ensures.nodes in (
      first_places nodes,
      inr (nodes, c.in_ok-walk.ensures.selects, unique),
      begins_found g.W.Write.contents before c.take_each.new.self (first_places nodes) (map located c.deref.result.now) enough c.take_each.ensures.begun,
    )

pub returns-clause-begun : goal.returns-clause-begun
returns-clause-begun g c =
    let nodes = rest c.in_ok-walk.walk in
    (nodes, inr (nodes, c.in_ok-walk.ensures.selects, ap (λ (u : Bool). once u nodes) (sym c.if-self.false)), c.take_rest.ensures.begun)

pub returns-clause-before : goal.returns-clause-before
returns-clause-before g c =
    let nodes = rest c.in_ok-walk.walk in
    IfErr-weaker c.take_rest.result _ _ (λ _ before pattern. (nodes, inr (nodes, c.in_ok-walk.ensures.selects, ap (λ (u : Bool). once u nodes) (sym c.if-self.false)), before pattern)) c.take_rest.ensures.before
