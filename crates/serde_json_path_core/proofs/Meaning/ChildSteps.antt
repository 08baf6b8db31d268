-- The computed children of a value are those that a step leads to, in document order.
use Rattle.serde_json_path_core.proofs.Words.{nat_tests, common_steps, ◌≡◌, ℕ, zero, suc, ◌+◌, ◌<◌, ℤ, List, Ordering, Less, Equal, Greater, nat_cmp, is_eq, false, bytes_eq, Option, Some, ◌↔◌, inl, inr, refl, sym, ap, subst, ◌∙◌, arith, true≢false, option_to_list, pos, negsuc, option_map, option_and_then, slice_cmp, ordering_reverse, match_ordering, nat_list_cmp_total, tied_itself, is_eq-slice_cmp, none-some, option_and_then_some, same_Some, bytes_eq-Decides, Data, array, object, Items, no_items, item, Members, no_members, member, put, get_item, get_member, get_member-put, get_member-put_other, Step, by_name, by_position, child_at, StepBefore, IsIn, IsInOrder, SelectsIndex, IsPositionOf, child_by, item_at, position_in, children, items_from, members_all, in_order, cases_Bool, in_option, items_len}

-- ---- the child at a step, and the item of an index

-- the child at a step, with that step
by_step : (v : Data) (s t : Step) (c : Data) → child_by v s ≡ Some (t, c) → (t ≡ s) × (child_at v s ≡ Some c)
by_step v s t c e = grind (arith, nat_tests, common_steps, none-some, same_Some)

pub in_child_by : (v : Data) (s : Step) (c : Step × Data) → IsIn c (option_to_list (child_by v s)) ↔ ((c.0 ≡ s) × (child_at v c.0 ≡ Some c.1))
in_child_by v s c = grind (arith, nat_tests, common_steps, in_option, by_step)

-- the position that an index means is the one that it selects
selects_index : (i : ℤ) (len p : ℕ) → (position_in i len ≡ Some p) ↔ SelectsIndex i len p
selects_index i len p = grind (arith, nat_tests, common_steps, same_Some, none-some, cases_Bool)

-- the one child at an index
pub in_item_at : (v : Data) (i : ℤ) (c : Step × Data) → IsIn c (option_to_list (item_at v i)) ↔ (IsPositionOf (SelectsIndex i) v c.0 × (child_at v c.0 ≡ Some c.1))
in_item_at (array items) i c = (
  λ h. option_and_then_some (λ p. child_by (array items) (by_position p)) (position_in i (items_len items)) c ((in_option c (item_at (array items) i)).0 h) (λ p f g.
      let b = by_step (array items) (by_position p) c.0 c.1 g in ((items, refl, p, b.0, (selects_index i (items_len items) p).0 f), ap (child_at (array items)) b.0 ∙ b.1)),
  λ ((same, e, p, is, selects), leads).
      let there = (selects_index i (items_len items) p).1 (subst (λ xs. SelectsIndex i (items_len xs) p) (sym (same_Some items same e)) selects) in
      (in_option c (item_at (array items) i)).1
      (ap (option_and_then (λ q. child_by (array items) (by_position q))) there ∙ ap (child_by (array items)) (sym is) ∙ ap (option_map (λ d. (c.0, d))) leads),
)
in_item_at _ i c = (λ h. absurd h, λ h. absurd (none-some h.0.0 h.0.1))

-- ---- items

in_items : (i : ℕ) (items : Items) (c : Step × Data) → IsIn c (items_from i items) → (p : ℕ) × (c.0 ≡ by_position (i + p)) × (get_item p items ≡ Some c.1)
in_items i no_items c h = absurd h
in_items i (item d more) c (inl e) = (0, ap (λ (x : Step × Data). x.0) e ∙ ap by_position (omega arith), ap (λ (x : Step × Data). Some x.1) (sym e))
in_items i (item d more) c (inr h) = let k = in_items (i + 1) more c h in (suc k.0, k.1 ∙ ap by_position (omega arith), k.2)

items_in : (i p : ℕ) (items : Items) (c : Data) → get_item p items ≡ Some c → IsIn {A = Step × Data} (by_position (i + p), c) (items_from i items)
items_in i p no_items c e = absurd (none-some c e)
items_in i zero (item d more) c e = grind (arith, nat_tests, common_steps, same_Some)
items_in i (suc p) (item d more) c e = grind (arith, nat_tests, common_steps, items_in (i + 1) p more c e)

items_ordered : (i : ℕ) (items : Items) → IsInOrder (λ (a b : Step × Data). StepBefore a.0 b.0) (items_from i items)
items_ordered i no_items = tt
items_ordered i (item d more) = (
  λ c h. let k = in_items (i + 1) more c h in let less : i < (i + 1) + k.0 = omega arith in subst (StepBefore (by_position i)) (sym k.1) less,
  items_ordered (i + 1) more,
)

-- ---- members in the order of their names

-- a member is found among those that it stands first of
pub found_here : (k : List ℕ) (d : Data) (ms : Members) → get_member k (member k d ms) ≡ Some d
found_here k d ms = let e : slice_cmp nat_cmp k k ≡ Equal = tied_itself nat_list_cmp_total k in rw e

either : (o : Ordering) (a b : Option Data) → is_eq o ≡ false → match_ordering o a b a ≡ a
either o a b e = grind (arith, nat_tests, common_steps)

found_later : (q k : List ℕ) (d : Data) (ms : Members) → bytes_eq q k ≡ false → get_member q (member k d ms) ≡ get_member q ms
found_later q k d ms e = either (slice_cmp nat_cmp q k) _ _ (is_eq-slice_cmp q k ∙ e)

apart : (q k : List ℕ) → bytes_eq q k ≡ false → q ≡ k → ⊥
apart q k e s = true≢false (sym ((bytes_eq-Decides q k).1 s) ∙ e)

-- a name finds the same among the members in order
get_member-in_order : (q : List ℕ) (ms : Members) → get_member q (in_order ms) ≡ get_member q ms
get_member-in_order q no_members = refl
get_member-in_order q (member k d ms) = grind (arith, nat_tests, common_steps, bytes_eq-Decides, get_member-put, get_member-put_other, cases_Bool, found_here, found_later, apart, get_member-in_order q ms)

-- the name is before each of the members' names
abbrev pub IsBelow : List ℕ → Members → Type 0
IsBelow k no_members = Unit {0}
IsBelow k (member l e ms) = (slice_cmp nat_cmp k l ≡ Less) × IsBelow k ms

-- each name is before those that follow
abbrev pub AreRising : Members → Type 0
AreRising no_members = Unit {0}
AreRising (member k d ms) = IsBelow k ms × AreRising ms

below_found : (k q : List ℕ) (ms : Members) (c : Data) → IsBelow k ms → get_member q ms ≡ Some c → slice_cmp nat_cmp k q ≡ Less
below_found k q no_members c a e = absurd (none-some c e)
below_found k q (member l d ms) c a e = elim (cases_Bool (bytes_eq q l)) [
  | inl f ↦ rw ((bytes_eq-Decides q l).0 f) a.0
  | inr f ↦ below_found k q ms c a.1 (sym (found_later q l d ms f) ∙ e)
]

in_members : (ms : Members) (c : Step × Data) → AreRising ms → IsIn c (members_all ms) → (k : List ℕ) × (c.0 ≡ by_name k) × (get_member k ms ≡ Some c.1)
in_members no_members c r h = absurd h
in_members (member k d ms) c r (inl e) = (k, ap (λ (x : Step × Data). x.0) e, found_here k d ms ∙ ap (λ (x : Step × Data). Some x.1) (sym e))
in_members (member k d ms) c r (inr h) = grind (arith, nat_tests, common_steps, nat_list_cmp_total, is_eq-slice_cmp, found_later, below_found, in_members ms c r.1 h)

members_in : (ms : Members) (k : List ℕ) (c : Data) → get_member k ms ≡ Some c → IsIn {A = Step × Data} (by_name k, c) (members_all ms)
members_in no_members k c e = absurd (none-some c e)
members_in (member l d ms) k c e = elim (cases_Bool (bytes_eq k l)) [
  | inl f ↦ let s = (bytes_eq-Decides k l).0 f in
      let same = same_Some d c (sym (found_here l d ms) ∙ subst (λ x. get_member x (member l d ms) ≡ Some c) s e) in inl (λ j. (by_name (s j), sym same j))
  | inr f ↦ inr (members_in ms k c (sym (found_later k l d ms f) ∙ e))
]

members_ordered : (ms : Members) → AreRising ms → IsInOrder (λ (a b : Step × Data). StepBefore a.0 b.0) (members_all ms)
members_ordered no_members r = tt
members_ordered (member k d ms) r =
    (λ c h. let g = in_members ms c r.1 h in subst (StepBefore (by_name k)) (sym g.1) (below_found k g.0 ms c.1 r.0 g.2), members_ordered ms r.1)

below_trans : (k l : List ℕ) (ms : Members) → slice_cmp nat_cmp k l ≡ Less → IsBelow l ms → IsBelow k ms
below_trans k l no_members h a = tt
below_trans k l (member m d ms) h a = (nat_list_cmp_total.trans k l m h a.0, below_trans k l ms h a.1)

below-put : (l k : List ℕ) (d : Data) (ms : Members) → slice_cmp nat_cmp l k ≡ Less → IsBelow l ms → IsBelow l (put k d ms)
below-put l k d no_members h a = (h, tt)
below-put l k d (member m e ms) h a = grind (arith, nat_tests, common_steps, below-put l k d ms h a.1)

rising-put : (k : List ℕ) (d : Data) (ms : Members) → AreRising ms → AreRising (put k d ms)
rising-put k d no_members r = (tt, tt)
rising-put k d (member l e ms) r = by (slice_cmp nat_cmp k l) refl (rising-put k d ms r.1)
  where
    by : (o : Ordering) → slice_cmp nat_cmp k l ≡ o → AreRising (put k d ms) → AreRising (match_ordering o (member k d (member l e ms)) (member l d ms) (member l e (put k d ms)))
    by Less is later = ((is, below_trans k l ms is r.0), r)
    by Equal is later = r
    by Greater is later = (below-put l k d ms (nat_list_cmp_total.antisymm l k ∙ ap ordering_reverse is) r.0, later)

rising-in_order : (ms : Members) → AreRising (in_order ms)
rising-in_order no_members = tt
rising-in_order (member k d ms) = rising-put k d (in_order ms) (rising-in_order ms)

put-below : (k : List ℕ) (d : Data) (ms : Members) → IsBelow k ms → put k d ms ≡ member k d ms
put-below k d no_members h = refl
put-below k d (member l e more) h = rw h.0

-- members that stand in order stay as they are
pub in_order-rising : (ms : Members) → AreRising ms → in_order ms ≡ ms
in_order-rising no_members r = refl
in_order-rising (member k d more) r = ap (put k d) (in_order-rising more r.1) ∙ put-below k d more r.0

-- ---- children

children_sound : (v : Data) (c : Step × Data) → IsIn c (children v) → child_at v c.0 ≡ Some c.1
children_sound (array items) c h = let k = in_items 0 items c h in ap (child_at (array items)) (k.1 ∙ ap by_position (omega arith)) ∙ k.2
children_sound (object ms) c h =
    let k = in_members (in_order ms) c (rising-in_order ms) h in
    ap (child_at (object ms)) k.1 ∙ sym (get_member-in_order k.0 ms) ∙ k.2
children_sound _ c h = absurd h

children_complete : (v : Data) (s : Step) (c : Data) → child_at v s ≡ Some c → IsIn {A = Step × Data} (s, c) (children v)
children_complete v s c e = grind (arith, nat_tests, common_steps, items_in, members_in, get_member-in_order, none-some)

-- the children are what the steps lead to
pub in_children : (v : Data) (c : Step × Data) → IsIn c (children v) ↔ (child_at v c.0 ≡ Some c.1)
in_children v c = (children_sound v c, children_complete v c.0 c.1)

-- the children stand in document order
pub children_ordered : (v : Data) → IsInOrder (λ (a b : Step × Data). StepBefore a.0 b.0) (children v)
children_ordered v = grind (arith, nat_tests, common_steps, items_ordered, members_ordered, rising-in_order)
