use Rattle.jsonpath_c.proofs.Words.{◌≡◌, ◌∙◌, Ok, [], ◌∷◌, ◌++◌, ap, append_assoc, false, located, rest, rules, sym, true}
use Rattle.jsonpath_c.proofs.Firsts.{node_taken}
use Rattle.jsonpath_c.proofs.selected.first_nodes.Goals as goal

pub returns-then-not-branch-clause-stops : goal.returns-then-not-branch-clause-stops
returns-then-not-branch-clause-stops g c =
    let given = c.nodes.invariant.given in
    let step = rw c.in-Some.is at c.in_ok-node.ensures.given in
    let refused : c.push.result ≡ Ok false = search rules in
    let full = c.push.ensures.full refused in
    (given.0, full.1 ∙ given.1.same, (located c.in-Some.node, given.2 ∙ ap (λ more. given.0 ++ more) step))

pub nodes-preserved : goal.nodes-preserved
nodes-preserved g c =
    let before = c.nodes.invariant in
    let given = before.given in
    let node = located c.in-Some.node in
    let step = rw c.in-Some.is at c.in_ok-node.ensures.given in
    let pushed : c.push.result ≡ Ok true = search rules in
    record {
      set = c.next_into.ensures.set ∙ before.set;
      query = c.next_into.ensures.query ∙ before.query;
      document = c.next_into.ensures.document ∙ before.document;
      given = (
        given.0 ++ node ∷ [],
        node_taken _ _ _ given.0 node _ _ given.1 (c.push.ensures.pushed pushed),
        given.2 ∙ ap (λ more. given.0 ++ more) step ∙ sym (append_assoc given.0 (node ∷ []) (rest c.next_into.new.self)),
      );
    }
