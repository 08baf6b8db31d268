use Rattle.jsonpath_c.proofs.Words.{◌≡◌, ◌+◌, ◌∙◌, ◌∷◌, ◌++◌, List, Ok, false, map, take, drop, sym, ap, subst, arith, rules, drop_more, map-append, take-append-drop, located, KeptNode, AreFirstNodes}
use Rattle.jsonpath_c.proofs.Firsts.{cut_within}
use Rattle.jsonpath_c.proofs.selected.first_of.Goals as goal

pub returns-then-not-branch : goal.returns-then-not-branch
returns-then-not-branch c =
    let found = c.args.found.now in
    let index = c.loop-node.node-index in
    let node = c.node-item.result in
    let limits = c.args.limits.now in
    let later = drop (index + 1) found in
    let refused : c.push.result ≡ Ok false = search rules in
    let full = c.push.ensures.full refused in
    let next : drop index found ≡ node ∷ later = drop_more found index node (omega arith) ∙ ap (λ n. n ∷ later) (sym c.node-item.is) in
    let all : map located found ≡ map located (take index found) ++ (located node ∷ map located later) =
    ap (map located) (sym (take-append-drop index found) ∙ ap (λ l. take index found ++ l) next) ∙ map-append located (take index found) (node ∷ later) in
    subst (λ (list : List KeptNode). AreFirstNodes limits (map located found) list false) (sym full.1)
    (cut_within limits c.loop-node.bounded_list.left (map located (take index found)) (located node) (map located later) (map located found) c.loop-node.bounded_list.nodes c.loop-node.invariant all full.0)
