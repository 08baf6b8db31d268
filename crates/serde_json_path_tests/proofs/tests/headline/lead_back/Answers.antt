use Rattle.serde_json_path_tests.proofs.Words.{◌≡◌, ◌∷◌, [], List, Some, Ok, inl, inr, refl, sym, subst, ap, ◌∙◌, true≢false, AllZip, Data, view, Located, at, exactly_one_of, same_steps_decides, located, located_nodes, located_nodes_left, IsIn, Query, query, root, current, FunctionSet, before_builtin, Triple, BelongsTo, IsResult, path_tree, with_rule_of}
use Rattle.serde_json_path_tests.proofs.tests.headline.lead_back.Goals as goal

-- a node that belongs to a derivation is where its location leads to
zip_stands : (top : Data) (ds : List (List Triple)) (ns : List Located) → AllZip (BelongsTo top) ds ns → (n : Located) → IsIn n ns → at top n.location ≡ Some n.value
zip_stands top ds [] zip n h = absurd h
zip_stands top [] (m ∷ ms) zip n h = absurd zip
zip_stands top (d ∷ ds) (m ∷ ms) zip n (inl e) = subst (λ (x : Located). at top x.location ≡ Some x.value) (sym e) zip.0.1
zip_stands top (d ∷ ds) (m ∷ ms) zip n (inr h) = zip_stands top ds ms zip.1 n h

result_stands : (F : FunctionSet) (top : Data) (q : Query) (ns : List Located) → IsResult F top q top ns → (n : Located) → IsIn n ns → at top n.location ≡ Some n.value
result_stands F top (query root segs) ns is = zip_stands top is.0 ns is.3
result_stands F top (query current segs) ns is = zip_stands top is.0 ns is.3

pub loop-node-init : goal.loop-node-init
loop-node-init g c = λ n h.
    let F = with_rule_of c.in_ok-path.path (before_builtin (g.F.Functions.set c.args.functions.now)) in
    let list = ap located_nodes_left c.into_iter-node-iterator.ensures.into_iter_gives ∙ c.iter-node-items.ensures in
    result_stands F (view c.args.document.now) (path_tree c.in_ok-path.path) (located_nodes c.in_ok-nodes.nodes) c.in_ok-nodes.ensures.selects n (subst (IsIn n) list h)

pub find_again-requires-clause-there : goal.find_again-requires-clause-there
find_again-requires-clause-there g c =
    let top = view c.args.document.now in
    let node = located c.in-Some.node.now in
    (node.value, ap (at top) c.location-in-loop-node.ensures ∙ c.loop-node.invariant node (subst (IsIn node) (sym c.in-Some.ensures.steps) (inl refl)))

pub loop-node-preserved : goal.loop-node-preserved
loop-node-preserved g c = λ n h. c.loop-node.invariant n (subst (IsIn n) (sym c.in-Some.ensures.steps) (inr h))

-- the only node of a list with one
only_one : (nodes : List Located) (one other : Located) → nodes ≡ one ∷ [] → exactly_one_of nodes ≡ Ok other → one ≡ other
only_one nodes one other is found = let both = sym (ap exactly_one_of is) ∙ found in cc

pub returns-then-not-same : goal.returns-then-not-same
returns-then-not-same g c =
    let node = located c.in-Some.node.now in
    let again = located c.in-Ok.again in
    let place = c.location-in-loop-node.result.now in
    let there = ap (at (view c.args.document.now)) c.location-in-loop-node.ensures ∙ c.loop-node.invariant node (subst (IsIn node) (sym c.in-Some.ensures.steps) (inl refl)) in
    let same = only_one (located_nodes c.in_ok-found.found) (record { location = place; value = node.value }) again (c.in_ok-found.ensures node.value there) c.in-Ok.ensures.ok in
    let equal = c.location-in-loop-node-2.ensures ∙ sym (ap (λ (n : Located). n.location) same) ∙ c.location-in-loop-node.ensures ∙ sym c.location-in-loop-node-3.ensures in
    absurd (true≢false (sym ((same_steps_decides c.location-in-loop-node-2.result.now c.location-in-loop-node-3.result.now).1 equal) ∙ sym c.eq-same.ensures ∙ c.if-not-same.true))

pub returns-in-Err : goal.returns-in-Err
returns-in-Err g c =
    let node = located c.in-Some.node.now in
    let there = ap (at (view c.args.document.now)) c.location-in-loop-node.ensures ∙ c.loop-node.invariant node (subst (IsIn node) (sym c.in-Some.ensures.steps) (inl refl)) in
    let both = sym (ap exactly_one_of (c.in_ok-found.ensures node.value there)) ∙ c.in-Err.ensures.err in
    absurd cc
