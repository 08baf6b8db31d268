use Rattle.jpq_program.proofs.Words.{◌≡◌, ◌∙◌, ◌+◌, ◌++◌, [], ◌∷◌, ℕ, Bool, List, Located, ap, append-nil, drop, length, length-append, append_assoc, arith, located, refl, rest, subst, sym, FilledNodes, TookNodes, WritesNode}
use Rattle.jpq_program.proofs.Nodes.{begins_done, begins_first, filled_by_all, filled_by_one, took_one}
use Rattle.jpq_program.proofs.Shown.{of_any_error}
use Rattle.jpq_program.proofs.written.Written.take_rest.Goals as goal

pub nodes-init : goal.nodes-init
nodes-init g c = record {
  set = refl;
  query = refl;
  document = refl;
  given = ([], c.requires, refl);
}

pub nodes-preserved : goal.nodes-preserved
nodes-preserved g c =
    let before = c.nodes.invariant in
    let done = before.given.0 in
    let node = located c.in-Some.node in
    let left = rest c.next_into.new.self in
    let step = subst (λ (more : Bool). WritesNode g.W.Write.contents node more c.nodes.self c.take_node.new.self) c.if-not-branch.false c.in_ok-take_node.ensures.taken in
    record {
      set = c.next_into.ensures.set ∙ before.set;
      query = c.next_into.ensures.query ∙ before.query;
      document = c.next_into.ensures.document ∙ before.document;
      given = (
        done ++ node ∷ [],
        took_one g.W.Write.contents c.args.self.now done node c.nodes.self c.take_node.new.self before.given.1 step,
        before.given.2 ∙ ap (λ more. done ++ more) (rw c.in-Some.is at c.in_ok-node.ensures.given) ∙ sym (append_assoc done (node ∷ []) left),
      );
    }

pub returns-then-not-branch-clause-filled : goal.returns-then-not-branch-clause-filled
returns-then-not-branch-clause-filled g c =
    let before = c.nodes.invariant in
    let done = before.given.0 in
    let node = located c.in-Some.node in
    let left = rest c.next_into.new.self in
    let step = subst (λ (more : Bool). WritesNode g.W.Write.contents node more c.nodes.self c.take_node.new.self) c.if-not-branch.true c.in_ok-take_node.ensures.taken in
    subst (λ (ns : List Located). FilledNodes g.W.Write.contents c.args.self.now ns c.take_node.new.self) (sym (before.given.2 ∙ ap (λ more. done ++ more) (rw c.in-Some.is at c.in_ok-node.ensures.given)))
    (filled_by_one g.W.Write.contents c.args.self.now done node left c.nodes.self c.take_node.new.self before.given.1 step)

pub returns-clause-filled : goal.returns-clause-filled
returns-clause-filled g c =
    let before = c.nodes.invariant in
    let done = before.given.0 in
    let none = rw c.in_default.is at c.in_ok-node.ensures.given in
    let all : done ≡ rest c.args.walk.now = sym (before.given.2 ∙ ap (λ more. done ++ more) none.0 ∙ append-nil done) in
    filled_by_all g.W.Write.contents c.args.self.now (rest c.args.walk.now) c.nodes.self (subst (λ (ns : List Located). TookNodes g.W.Write.contents c.args.self.now ns c.nodes.self) all before.given.1)

-- the walk stands after the nodes that were written
left_after : (done left : List Located) (count before : ℕ) → count ≡ before + length done → before ≡ 0 → left ≡ drop count (done ++ left)
left_after done left count before many none = sym (ap (λ n. drop n (done ++ left)) (counted count before (length done) many none) ∙ past done)
  where
    counted : (count before many : ℕ) → count ≡ before + many → before ≡ 0 → count ≡ many
    counted count before many is none = grind arith

    past : (done : List Located) → drop (length done) (done ++ left) ≡ left
    past [] = refl
    past (n ∷ ns) = past ns

pub returns-clause-stands : goal.returns-clause-stands
returns-clause-stands g c = λ none.
    let before = c.nodes.invariant in
    let ended = rw c.in_default.is at c.in_ok-node.ensures.given in
    ended.1 ∙ left_after before.given.0 [] c.nodes.self.count c.args.self.now.count before.given.1.count none ∙ ap (drop c.nodes.self.count) (ap (λ more. before.given.0 ++ more) (sym ended.0) ∙ sym before.given.2)

pub returns-then-not-branch-clause-stands : goal.returns-then-not-branch-clause-stands
returns-then-not-branch-clause-stands g c = λ none.
    let before = c.nodes.invariant in
    let done = before.given.0 in
    let node = located c.in-Some.node in
    let left = rest c.next_into.new.self in
    let all = before.given.2 ∙ ap (λ more. done ++ more) (rw c.in-Some.is at c.in_ok-node.ensures.given) ∙ sym (append_assoc done (node ∷ []) left) in
    left_after (done ++ node ∷ []) left c.take_node.new.self.count c.args.self.now.count (c.in_ok-take_node.ensures.taken.count ∙ ap (λ n. n + 1) before.given.1.count ∙ one_more c.args.self.now.count done node) none
    ∙ ap (drop c.take_node.new.self.count) (sym all)
  where
    one_more : (count : ℕ) (done : List Located) (node : Located) → (count + length done) + 1 ≡ count + length (done ++ node ∷ [])
    one_more count done node = grind (arith, length-append)

pub returns-clause-begun : goal.returns-clause-begun
returns-clause-begun g c =
    let before = c.nodes.invariant in
    begins_done g.W.Write.contents c.args.self.now c.nodes.self (rest c.args.walk.now) before.given.0 (rest c.nodes.walk) before.given.1 before.given.2

pub returns-in_err-node-clause-before : goal.returns-in_err-node-clause-before
returns-in_err-node-clause-before g c =
    let before = c.nodes.invariant in
    of_any_error c.from_residual.result _ (λ _ _. record { first = before.given.0; others = rest c.nodes.walk; split = before.given.2; took = before.given.1 })

pub returns-in_err-node-clause-begun : goal.returns-in_err-node-clause-begun
returns-in_err-node-clause-begun g c =
    let before = c.nodes.invariant in
    begins_done g.W.Write.contents c.args.self.now c.nodes.self (rest c.args.walk.now) before.given.0 (rest c.nodes.walk) before.given.1 before.given.2

pub returns-then-not-branch-clause-begun : goal.returns-then-not-branch-clause-begun
returns-then-not-branch-clause-begun g c =
    let before = c.nodes.invariant in
    let node = located c.in-Some.node in
    let left = rest c.next_into.new.self in
    begins_first g.W.Write.contents c.args.self.now c.nodes.self c.take_node.new.self (rest c.args.walk.now) before.given.0 (node ∷ []) left before.given.1 c.in_ok-take_node.ensures.begun (omega arith)
    (before.given.2 ∙ ap (λ more. before.given.0 ++ more) (rw c.in-Some.is at c.in_ok-node.ensures.given))

pub returns-in_err-take_node-clause-begun : goal.returns-in_err-take_node-clause-begun
returns-in_err-take_node-clause-begun g c =
    let before = c.nodes.invariant in
    begins_first g.W.Write.contents c.args.self.now c.nodes.self c.take_node.new.self (rest c.args.walk.now) before.given.0 [] (rest c.nodes.walk) before.given.1 c.in_err-take_node.ensures.unwritten (omega arith) before.given.2
