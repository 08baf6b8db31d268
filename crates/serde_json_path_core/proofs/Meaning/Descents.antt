-- The computed values below a value are those at its locations, in document order.
use Rattle.serde_json_path_core.proofs.Words.{nat_tests, common_steps, ◌≡◌, ℕ, zero, suc, ◌+◌, ◌≤◌, max, length, List, [], ◌∷◌, ◌++◌, map, flat_map, Ordering, Less, nat_cmp, Some, option_and_then, ◌↔◌, inl, inr, refl, sym, ap, subst, ◌∙◌, arith, insert_entry, slice_cmp, match_ordering, same_Some, option_and_then_some, Data, array, object, Items, no_items, item, Members, no_members, member, put, Step, by_name, by_position, child_at, at, Located, DescentBefore, IsIn, IsInOrder, beneath, children, items_from, members_all, in_order, itself, below_member, descents, items_descents, members_descents, in_map, in_flat_map, weaker, in_order-map, in_order-flat_map}
use Rattle.serde_json_path_core.proofs.Meaning.ChildSteps.{in_children, children_ordered}

-- ---- child by child

-- a child and all below it, as located from its parent
abbrev pub below_child : Step × Data → List Located
below_child c = map (beneath (c.0 ∷ [])) (descents c.1)

items_descents-children : (position : ℕ) (items : Items) → items_descents position items ≡ flat_map below_child (items_from position items)
items_descents-children position no_items = refl
items_descents-children position (item d more) = ap (λ ns. below_child (by_position position, d) ++ ns) (items_descents-children (position + 1) more)

-- each member's name with the member and all below it, as they stand
abbrev blocks : Members → List (List ℕ × List Located)
blocks no_members = []
blocks (member k d more) = (k, descents d) ∷ blocks more

blocks-put : (k : List ℕ) (d : Data) (ms : Members) → insert_entry (slice_cmp nat_cmp) (blocks ms) k (descents d) ≡ blocks (put k d ms)
blocks-put k d no_members = refl
blocks-put k d (member l e more) = grind (arith, nat_tests, common_steps, blocks-put k d more)

members_descents-in_order : (ms : Members) → members_descents ms ≡ blocks (in_order ms)
members_descents-in_order no_members = refl
members_descents-in_order (member k d more) = grind (arith, nat_tests, common_steps, blocks-put, members_descents-in_order more)

blocks-children : (ms : Members) → flat_map below_member (blocks ms) ≡ flat_map below_child (members_all ms)
blocks-children no_members = refl
blocks-children (member k d more) = ap (λ ns. below_child (by_name k, d) ++ ns) (blocks-children more)

-- a value and all below it are the value, and each child and all below it
pub descents_are : (v : Data) → descents v ≡ itself v ∷ flat_map below_child (children v)
descents_are v = grind (arith, nat_tests, common_steps, itself, items_descents-children, members_descents-in_order, blocks-children)

-- ---- membership

-- what is below a child has the child's step first
in_below : (c : Step × Data) (s : Step) (location : List Step) (d : Data)
    → IsIn (record { location = s ∷ location; value = d }) (below_child c) ↔ ((c.0 ≡ s) × IsIn (record { location = location; value = d }) (descents c.1))
in_below c s location d =
    let i = in_map (beneath (c.0 ∷ [])) (record { location = s ∷ location; value = d }) (descents c.1) in (
      λ h.
          let (m, there, same) = i.0 h in
          let e : s ∷ location ≡ c.0 ∷ m.location = ap (λ (n : Located). n.location) same in
          let rest : m.location ≡ location = cc in
          (cc, subst (λ n. IsIn n (descents c.1)) (λ j. record { location = rest j; value = sym (ap (λ (n : Located). n.value) same) j }) there),
      λ h. i.1 (record { location = location; value = d }, h.1, λ j. record { location = sym h.0 j ∷ location; value = d }),
    )

-- the values below a value are those at its locations
in_at : (location : List Step) (v d : Data) → IsIn (record { location = location; value = d }) (descents v) ↔ (at v location ≡ Some d)
in_at [] v d = rw (descents_are v) (
  elim [
    | inl e ↦ ap (λ (n : Located). Some n.value) (sym e)
    | inr h ↦
        let c = (in_flat_map below_child (record { location = []; value = d }) (children v)).0 h in
        let m = (in_map (beneath (c.0.0 ∷ [])) (record { location = []; value = d }) (descents c.0.1)).0 c.2 in
        let e : [] ≡ c.0.0 ∷ m.0.location = ap (λ (n : Located). n.location) m.2 in absurd cc
  ],
  λ e. inl (ap itself (sym (same_Some v d e))),
)
in_at (s ∷ location) v d =
    let among = in_flat_map below_child (record { location = s ∷ location; value = d }) (children v) in
    rw (descents_are v) (
      elim [
        | inl e ↦ let f : s ∷ location ≡ [] = ap (λ (n : Located). n.location) e in absurd cc
        | inr h ↦
            let (c, child, below) = among.0 h in
            let (same, rest) = (in_below c s location d).0 below in
            rw (sym same, (in_children v c).0 child) ((in_at location c.1 d).0 rest)
      ],
      λ e. option_and_then_some (λ w. at w location) (child_at v s) d e
          (λ c f g. inr (among.1 ((s, c), (in_children v (s, c)).1 f, (in_below (s, c) s location d).1 (refl, (in_at location c d).1 g)))),
    )

pub in_descents : (v : Data) (n : Located) → IsIn n (descents v) ↔ (at v n.location ≡ Some n.value)
in_descents v n = in_at n.location v n.value

-- ---- the longest location

abbrev pub longest : List Located → ℕ
longest [] = 0
longest (n ∷ ns) = max (length n.location) (longest ns)

none_longer : (ns : List Located) (n : Located) → IsIn n ns → length n.location ≤ longest ns
none_longer [] n h = absurd h
none_longer (m ∷ ns) n (inl e) = let same : length n.location ≡ length m.location = ap (λ (x : Located). length x.location) e in omega arith
none_longer (m ∷ ns) n (inr h) = let later = none_longer ns n h in omega arith

-- no location in the value is longer
pub no_longer : (v : Data) (location : List Step) (w : Data) → at v location ≡ Some w → length location ≤ longest (descents v)
no_longer v location w e = let n : Located = record { location = location; value = w } in none_longer (descents v) n ((in_descents v n).1 e)

-- ---- order

abbrev StandsBefore : Located → Located → Type 0
StandsBefore m n = DescentBefore m.location n.location

-- the values below a value stand in document order where those below each child do
ordered_by_children : (v : Data) → ((s : Step) (c : Data) → child_at v s ≡ Some c → IsInOrder StandsBefore (descents c)) → IsInOrder StandsBefore (descents v)
ordered_by_children v below = subst (IsInOrder StandsBefore) (sym (descents_are v)) (
  λ n h.
      let c = (in_flat_map below_child n (children v)).0 h in
      let m = (in_map (beneath (c.0.0 ∷ [])) n (descents c.0.1)).0 c.2 in
      rw m.2 tt,
  in_order-flat_map _ _ below_child (children v) (children_ordered v)
      (λ c h. in_order-map _ (beneath (c.0 ∷ [])) (descents c.1) (weaker _ _ (descents c.1) (λ m n before. inr (refl, before)) (below c.0 c.1 ((in_children v c).0 h))))
      (λ x y a b before h g.
      let m = (in_map (beneath (x.0 ∷ [])) a (descents x.1)).0 h in
      let n = (in_map (beneath (y.0 ∷ [])) b (descents y.1)).0 g in
      rw (m.2, n.2) (inl before)),
)

ordered_within : (most : ℕ) (v : Data) → ((location : List Step) (w : Data) → at v location ≡ Some w → length location ≤ most) → IsInOrder StandsBefore (descents v)
ordered_within zero v within = ordered_by_children v (λ s c leads. let long = within (s ∷ []) c (ap (option_and_then (λ d. at d [])) leads) in absurd (omega arith))
ordered_within (suc most) v within =
    ordered_by_children v
    (λ s c leads. ordered_within most c (λ location w there. let long = within (s ∷ location) w (ap (option_and_then (λ d. at d location)) leads ∙ there) in omega arith))

pub descents_ordered : (v : Data) → IsInOrder (λ (m n : Located). DescentBefore m.location n.location) (descents v)
descents_ordered v = ordered_within (longest (descents v)) v (no_longer v)
