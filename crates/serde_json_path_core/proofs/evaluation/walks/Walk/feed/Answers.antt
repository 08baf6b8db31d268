use Rattle.serde_json_path_core.proofs.Words.{[], ◌∷◌, ◌++◌, sym, ap, ◌∙◌, append_assoc, located, rest, arith, nat_tests, common_steps}
use Rattle.serde_json_path_core.proofs.evaluation.walks.Walk.feed.Goals as goal

pub nodes-preserved : goal.nodes-preserved
nodes-preserved g c =
    let before = c.nodes.invariant in
    let done = before.given.0 in
    let node = located c.in-Some.node in
    let left = rest c.next_into.new.self in
    record {
      set = c.next_into.ensures.set ∙ before.set;
      query = c.next_into.ensures.query ∙ before.query;
      document = c.next_into.ensures.document ∙ before.document;
      given = (
        done ++ node ∷ [],
        (rw c.in-More.is at c.in_ok-left.ensures.taken) c.args.sink.now done before.given.1,
        before.given.2 ∙ ap (λ more. done ++ more) (rw c.in-Some.is at c.in_ok-node.ensures.given) ∙ sym (append_assoc done (node ∷ []) left),
      );
    }
