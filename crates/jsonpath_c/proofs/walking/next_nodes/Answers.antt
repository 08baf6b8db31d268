use Rattle.jsonpath_c.proofs.Words.{◌∙◌, ◌++◌, ◌+◌, [], ◌∷◌, ap, append_assoc, kept, length_push, located, map-append, refl, rest, sym}
use Rattle.jsonpath_c.proofs.walking.next_nodes.Goals as goal

pub loop-init : goal.loop-init
loop-init g c = record {
  set = refl;
  query = refl;
  document = refl;
  given = ([], refl, c.new-nodes.ensures, refl);
}

pub loop-preserved : goal.loop-preserved
loop-preserved g c =
    let before = c.loop.invariant in
    let done = before.given.0 in
    let node = located c.in-Some.node in
    let left = rest c.next_into.new.self in
    let step = rw c.in-Some.is at c.in_ok-node.ensures.given in
    record {
      set = c.next_into.ensures.set ∙ before.set;
      query = c.next_into.ensures.query ∙ before.query;
      document = c.next_into.ensures.document ∙ before.document;
      given = (
        done ++ node ∷ [],
        before.given.1 ∙ ap (λ more. done ++ more) step ∙ sym (append_assoc done (node ∷ []) left),
        c.in_ok-push-in-Some.ensures.ok ∙ ap (λ nodes. nodes ++ kept node ∷ []) before.given.2 ∙ sym (map-append kept done (node ∷ [])),
        length_push done node ∙ ap (λ n. n + 1) before.given.3,
      );
    }
