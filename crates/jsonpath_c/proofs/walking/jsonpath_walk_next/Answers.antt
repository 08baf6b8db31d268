use Rattle.jsonpath_c.proofs.Words.{◌≡◌, ◌∙◌, Some, ap, sym}
use Rattle.jsonpath_c.proofs.walking.jsonpath_walk_next.Goals as goal

pub returns-in-Ok-hold-clause-done : goal.returns-in-Ok-hold-clause-done
returns-in-Ok-hold-clause-done c = λ done.
    let given = c.in-Ok.ensures in
    let before : c.args.walk.now.value ≡ Some c.deref_mut.result.now = c.in-Some.ensures.taken ∙ ap Some (sym c.deref_mut.ensures.value) in
    rw (before, c.put.ensures, c.in-Ok-hold.ensures.held)
    (given.nodes.0, given.nodes.1, given.nodes.3, given.nodes.4, given.nodes.2, (given.set, given.query, given.document))
