use Rattle.jsonpath_c.proofs.Words.{◌≡◌, ◌∙◌, Form, IsLineOfEach, Ok, [], ◌∷◌, ◌++◌, ap, append_assoc, compact_lines, false, located, rest, rules, string_bytes, subst, sym, true}
use Rattle.jsonpath_c.proofs.bounded.first_lines.Goals as goal

pub returns-then-not-branch-clause-stops : goal.returns-then-not-branch-clause-stops
returns-then-not-branch-clause-stops g c =
    let before = c.nodes.invariant in
    let given = before.given in
    let step = rw c.in-Some.is at c.in_ok-node.ensures.given in
    let refused : c.push.result ≡ Ok false = search rules in
    let lines : IsLineOfEach (compact_lines c.args.form) [] given.0 (string_bytes c.push.new.self.text) =
    rw (c.push.ensures.kept refused) (subst (λ (f : Form). IsLineOfEach (compact_lines f) [] given.0 (string_bytes c.nodes.lines.text)) before.form given.1.lines) in
    (given.0, lines, (located c.in-Some.node, given.2 ∙ ap (λ more. given.0 ++ more) step))

pub nodes-preserved : goal.nodes-preserved
nodes-preserved g c =
    let before = c.nodes.invariant in
    let given = before.given in
    let node = located c.in-Some.node in
    let step = rw c.in-Some.is at c.in_ok-node.ensures.given in
    let pushed : c.push.result ≡ Ok true = search rules in
    record {
      set = c.next_into.ensures.set ∙ before.set;
      query = c.next_into.ensures.query ∙ before.query;
      document = c.next_into.ensures.document ∙ before.document;
      form = c.push.ensures.same.0 ∙ before.form;
      limits = ap (λ l. l.now) c.push.ensures.same.1 ∙ before.limits;
      given = (
        given.0 ++ node ∷ [],
        c.push.ensures.pushed pushed given.0 given.1,
        given.2 ∙ ap (λ more. given.0 ++ more) step ∙ sym (append_assoc given.0 (node ∷ []) (rest c.next_into.new.self)),
      );
    }
