-- Where derivations end, and what is beneath.
use Rattle.serde_json_path_core.proofs.Words.{nat_tests, common_steps, ◌≡◌, suc, List, [], ◌∷◌, ◌++◌, map, flat_map, inl, inr, option_to_list, refl, sym, ap, ◌∙◌, arith, append_assoc, append-nil, map-append, flat_map-map, Data, Step, by_name, Located, StepBefore, DescentBefore, SegmentKind, child, descendant, Segments, no_segments, segment, Segment, dot_name, dot_wildcard, long_hand, Selectors, no_selectors, selector, Selector, name, wildcard, index, slice, filter, FunctionSet, Triple, location_of, SelectedBefore, TripleBefore, Before, beneath, IsIn, IsInOrder, child_by, item_at, itself, children, descents, reached, placed, results_from, chosen, chosen_by, selected, is_true, in_append, in_map, weaker, in_order-append, in_order-map, in_order-flat_map, in_order-keep, in_order-option, flat_map-same, flat_map-flat_map, map-flat_map, map-map}
use Rattle.serde_json_path_core.proofs.Meaning.ChildSteps.{children_ordered}
use Rattle.serde_json_path_core.proofs.Meaning.Descents.{descents_ordered}
use Rattle.serde_json_path_core.proofs.Meaning.SlicePositions.{sliced_ordered}

-- ---- the ends of a query's derivations, computed: each derivation with the value that it leads to, in the derivations' order

-- a derivation with the value that it leads to
abbrev pub End : Type 0
End = List Triple × Data

-- the triple of a child that the first selector selects, with the child
abbrev pub triple_at : List Step → Step × Data → Triple × Data
triple_at down c = (record { descent = down; number = 0; step = c.0 }, c.1)

-- the triple where one more selector is before that one
abbrev pub later : Triple × Data → Triple × Data
later t = (record { descent = t.0.descent; number = suc t.0.number; step = t.0.step }, t.1)

-- the derivation with that triple before it
abbrev pub after : Triple × Data → End → End
after t e = (t.0 ∷ e.0, e.1)

-- the values at which a segment's selectors are applied, as located from the value
abbrev pub levels : SegmentKind → Data → List Located
levels child v = itself v ∷ []
levels descendant v = descents v

-- the node of an end, where the derivation begins at a node
abbrev pub node_at : Located → End → Located
node_at n e = record { location = n.location ++ location_of e.0; value = e.1 }

-- the node of a triple
abbrev child_of : Located → Triple × Data → Located
child_of n t = record { location = n.location ++ (t.0.descent ++ t.0.step ∷ []); value = t.1 }

node_at-after : (n : Located) (t : Triple × Data) (es : List End) → map (node_at (child_of n t)) es ≡ map (node_at n) (map (after t) es)
node_at-after n t [] = refl
node_at-after n t (e ∷ es) = grind (arith, nat_tests, common_steps, node_at-after n t es)

child_of-triple : (n : Located) (down : List Step) (cs : List (Step × Data)) → map (child_of n) (map (triple_at down) cs) ≡ map (placed (n.location ++ down)) cs
child_of-triple n down [] = refl
child_of-triple n down (c ∷ cs) = rw (append_assoc n.location down (c.0 ∷ []), child_of-triple n down cs) refl

triple_place : (down : List Step) (cs : List (Step × Data)) (t : Triple × Data) → IsIn t (map (triple_at down) cs) → t.0.descent ≡ down
triple_place down cs t h = ap (λ (u : Triple × Data). u.0.descent) ((in_map (triple_at down) t cs).0 h).2

levels_reached : (kind : SegmentKind) (n : Located) → map (beneath n.location) (levels kind n.value) ≡ reached kind n
levels_reached kind n = grind (arith, nat_tests, common_steps)

module _ (F : FunctionSet) (top : Data) where
  -- the triples of what the selectors select
  abbrev pub picks_by : Selectors → List Step → Data → List (Triple × Data)
  picks_by no_selectors down v = []
  picks_by (selector sel more) down v = map (triple_at down) (selected F top sel v) ++ map later (picks_by more down v)

  -- the triples of what a segment selects there
  abbrev pub picks : Segment → List Step → Data → List (Triple × Data)
  picks (dot_name k) down v = map (triple_at down) (option_to_list (child_by v (by_name k)))
  picks dot_wildcard down v = map (triple_at down) (children v)
  picks (long_hand sels) down v = picks_by sels down v

  -- the triples of what a segment selects from a value
  abbrev pub through : SegmentKind → Segment → Data → List (Triple × Data)
  through kind seg v = flat_map (λ (m : Located). picks seg m.location m.value) (levels kind v)

  -- the ends of the derivations
  abbrev pub ends : Segments → Data → List End
  ends no_segments v = ([], v) ∷ []
  ends (segment kind seg more) v = flat_map (λ t. map (after t) (ends more t.1)) (through kind seg v)

  -- ---- order

  selected_ordered : (sel : Selector) (v : Data) → IsInOrder (λ (a b : Step × Data). SelectedBefore sel a.0 b.0) (selected F top sel v)
  selected_ordered (filter e) v = in_order-keep (λ (a b : Step × Data). StepBefore a.0 b.0) (λ c. is_true F top e c.1) (children v) (children_ordered v)
  selected_ordered sel v = grind (arith, nat_tests, common_steps, in_order-option, children_ordered, sliced_ordered, in_order-keep)

  -- a segment's triples are at the node where it is applied
  picks_by_place : (sels : Selectors) (down : List Step) (v : Data) (t : Triple × Data) → IsIn t (picks_by sels down v) → t.0.descent ≡ down
  picks_by_place no_selectors down v t h = absurd h
  picks_by_place (selector sel more) down v t h =
      elim ((in_append t (map (triple_at down) (selected F top sel v)) (map later (picks_by more down v))).0 h) [
        | inl g ↦ triple_place down (selected F top sel v) t g
        | inr g ↦ let k = (in_map later t (picks_by more down v)).0 g in ap (λ (u : Triple × Data). u.0.descent) k.2 ∙ picks_by_place more down v k.0 k.1
      ]

  picks_place : (seg : Segment) (down : List Step) (v : Data) (t : Triple × Data) → IsIn t (picks seg down v) → t.0.descent ≡ down
  picks_place seg down v t h = grind (arith, nat_tests, common_steps, triple_place, picks_by_place)

  picks_by_ordered : (sels : Selectors) (down : List Step) (v : Data) → IsInOrder (λ (t u : Triple × Data). TripleBefore (long_hand sels) t.0 u.0) (picks_by sels down v)
  picks_by_ordered no_selectors down v = tt
  picks_by_ordered (selector sel more) down v =
      in_order-append _ (map (triple_at down) (selected F top sel v)) (map later (picks_by more down v))
      (in_order-map _ (triple_at down) (selected F top sel v) (weaker _ _ (selected F top sel v) (λ a b h. inr (refl, inr (refl, h))) (selected_ordered sel v)))
      (in_order-map _ later (picks_by more down v)
      (weaker _ _ (picks_by more down v) (λ t u. elim [
        | inl before ↦ inl before
        | inr (same, rest) ↦ inr (same, elim rest [ inl less ↦ inl (omega arith) | inr (e, before) ↦ inr (ap suc e, before) ])
      ]) (picks_by_ordered more down v)))
      (λ t u h g.
      let c = (in_map (triple_at down) t (selected F top sel v)).0 h in
      let d = (in_map later u (picks_by more down v)).0 g in
      rw (c.2, d.2) (inr (sym (picks_by_place more down v d.0 d.1), inl (omega arith))))

  picks_ordered : (seg : Segment) (down : List Step) (v : Data) → IsInOrder (λ (t u : Triple × Data). TripleBefore seg t.0 u.0) (picks seg down v)
  picks_ordered seg down v = grind (arith, nat_tests, common_steps, in_order-map, in_order-option, weaker, children_ordered, picks_by_ordered)

  through_ordered : (kind : SegmentKind) (seg : Segment) (v : Data) → IsInOrder (λ (t u : Triple × Data). TripleBefore seg t.0 u.0) (through kind seg v)
  through_ordered kind seg v =
      let in_levels = elim kind as (λ k. IsInOrder (λ (m n : Located). DescentBefore m.location n.location) (levels k v)) [ child ↦ (λ y h. absurd h, tt) | descendant ↦ descents_ordered v ] in
      in_order-flat_map _ _ (λ (m : Located). picks seg m.location m.value) (levels kind v) in_levels (λ m h. picks_ordered seg m.location m.value)
      (λ m n t u before h g. inl (rw (picks_place seg m.location m.value t h, picks_place seg n.location n.value u g) before))

  -- the derivations stand in their order
  pub ends_ordered : (segs : Segments) (v : Data) → IsInOrder (λ (d e : End). Before segs d.0 e.0) (ends segs v)
  ends_ordered no_segments v = (λ y h. absurd h, tt)
  ends_ordered (segment kind seg more) v =
      in_order-flat_map _ _ (λ t. map (after t) (ends more t.1)) (through kind seg v) (through_ordered kind seg v)
      (λ t i. in_order-map _ (after t) (ends more t.1) (weaker _ _ (ends more t.1) (λ d e h. inr (refl, h)) (ends_ordered more t.1)))
      (λ t u d e before h g.
      let k = (in_map (after t) d (ends more t.1)).0 h in
      let l = (in_map (after u) e (ends more u.1)).0 g in
      rw (k.2, l.2) (inl before))

  -- ---- the nodes of the ends

  child_of-picks_by : (sels : Selectors) (n : Located) (down : List Step) (v : Data)
      → map (child_of n) (picks_by sels down v) ≡ map (placed (n.location ++ down)) (chosen_by F top sels v)
  child_of-picks_by no_selectors n down v = refl
  child_of-picks_by (selector sel more) n down v = grind (arith, nat_tests, common_steps, map-append, map-map, child_of-triple, child_of-picks_by more n down v)

  child_of-picks : (seg : Segment) (n : Located) (down : List Step) (v : Data) → map (child_of n) (picks seg down v) ≡ map (placed (n.location ++ down)) (chosen F top seg v)
  child_of-picks seg n down v = grind (arith, nat_tests, common_steps, child_of-triple, child_of-picks_by)

  -- the nodes that segments select from a node are those of the ends
  pub results-ends : (segs : Segments) (n : Located) → results_from F top segs n ≡ map (node_at n) (ends segs n.value)
  results-ends no_segments n = ap (λ l. record { location = l; value = n.value } ∷ []) (sym (append-nil n.location))
  results-ends (segment kind seg more) n =
      let ts = through kind seg n.value in
      let pick : Located → List (Triple × Data) = λ m. picks seg m.location m.value in
      let below : Located → List Located = λ m. flat_map (results_from F top more) (map (placed m.location) (chosen F top seg m.value)) in
      ap (flat_map below) (sym (levels_reached kind n))
      ∙ flat_map-map below (beneath n.location) (levels kind n.value)
      ∙ flat_map-same _ _ (λ m. ap (flat_map (results_from F top more)) (sym (child_of-picks seg n m.location m.value)) ∙ flat_map-map (results_from F top more) (child_of n) (pick m))
      (levels kind n.value)
      ∙ sym (flat_map-flat_map (λ t. results_from F top more (child_of n t)) pick (levels kind n.value))
      ∙ flat_map-same _ _ (λ t. results-ends more (child_of n t) ∙ node_at-after n t (ends more t.1)) ts
      ∙ sym (map-flat_map (node_at n) (λ t. map (after t) (ends more t.1)) ts)

  -- what segments select from a node is what they select from its value, below its location
  pub results_beneath : (segs : Segments) (n : Located) → results_from F top segs n ≡ map (beneath n.location) (results_from F top segs (itself n.value))
  results_beneath segs n = rw (results-ends segs n, results-ends segs (itself n.value), map-map (beneath n.location) (node_at (itself n.value)) (ends segs n.value)) refl
