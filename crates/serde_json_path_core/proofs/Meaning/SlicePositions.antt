-- The computed children of a slice are those at the positions that it selects, in its order.
use Rattle.serde_json_path_core.proofs.Words.{nat_tests, common_steps, ◌≡◌, ℕ, zero, suc, ◌+◌, ◌-◌, ◌*◌, ◌<◌, ◌≤◌, ℤ, pos, negsuc, neg_ℤ, nat_abs, [], ◌∷◌, ◌↔◌, inl, inr, Bool, true, false, Option, Some, refl, sym, ap, subst, ◌∙◌, arith, suc-mul, le-div_iff_mul-le, mul-lt-mul_of_pos_right, ◌<ℤ◌, ◌≤ℤ◌, ◌+ℤ◌, ◌-ℤ◌, ◌*ℤ◌, option_map_or, ints, clamps, same_Some, none-some, Data, array, Items, no_items, item, get_item, Step, by_position, child_at, items_len, Slice, slice, step_of, bound_of, SelectsPosition, IsIn, IsInOrder, SelectedBefore, IsPositionOf, SlicePositions, count_within, strided, rising, falling, positions_by, sliced, next_position, int_max, int_min, pos-*ℤ-negsuc}

-- ---- items at positions

-- an item is there at each position below the count
item_there : (items : Items) (p : ℕ) → p < items_len items → (d : Data) × (get_item p items ≡ Some d)
item_there no_items p h = absurd (omega arith)
item_there (item d more) zero h = (d, refl)
item_there (item d more) (suc p) h = item_there more p (omega arith)

-- the position after so many strides
abbrev frame : Bool → ℕ → ℕ → ℕ → ℕ
frame upwards first stride zero = first
frame upwards first stride (suc j) = frame upwards (next_position upwards first stride) stride j

place_up : (first stride j : ℕ) → frame true first stride j ≡ first + j * stride
place_up first stride zero = omega arith
place_up first stride (suc j) = place_up (first + stride) stride j ∙ omega (arith, suc-mul j stride)

place_down : (first stride j : ℕ) → frame false first stride j ≡ first - j * stride
place_down first stride zero = omega arith
place_down first stride (suc j) = place_down (first - stride) stride j ∙ omega (arith, suc-mul j stride)

-- the child is at one of so many positions
abbrev IsPlaced : ℕ → Bool → ℕ → ℕ → Items → Step × Data → Type 0
IsPlaced count upwards first stride items c =
    (j : ℕ) × (j < count) × (c.0 ≡ by_position (frame upwards first stride j)) × (get_item (frame upwards first stride j) items ≡ Some c.1)

-- the first of so many positions, and the others
pub next_strided : (count : ℕ) (upwards : Bool) (first stride : ℕ) (items : Items) (o : Option Data) → get_item first items ≡ o
    → strided (suc count) upwards first stride items
    ≡ option_map_or (λ d. (by_position first, d) ∷ strided count upwards (next_position upwards first stride) stride items) o []
next_strided count upwards first stride items o e = grind (arith, nat_tests, common_steps)

-- the items there are those at these positions
in_strided : (count : ℕ) (upwards : Bool) (first stride : ℕ) (items : Items) → ((j : ℕ) → j < count → frame upwards first stride j < items_len items)
    → (c : Step × Data) → IsIn c (strided count upwards first stride items) ↔ IsPlaced count upwards first stride items c
in_strided zero upwards first stride items there c = (λ h. absurd h, λ h. let k = h.1 in absurd (omega arith))
in_strided (suc count) upwards first stride items there c =
    let next = next_position upwards first stride in
    let d = item_there items first (there 0 (omega arith)) in
    let later = in_strided count upwards next stride items (λ j k. there (suc j) (omega arith)) c in
    rw (next_strided count upwards first stride items (Some d.0) d.1) (
      elim [
        | inl f ↦ (0, omega arith, ap (λ (x : Step × Data). x.0) f, d.1 ∙ ap (λ (x : Step × Data). Some x.1) (sym f))
        | inr g ↦ let k = later.0 g in (suc k.0, omega arith, k.2, k.3)
      ],
      λ h.
          elim h.0 as (λ j. j < suc count → c.0 ≡ by_position (frame upwards first stride j) → get_item (frame upwards first stride j) items ≡ Some c.1
          → IsIn c ((by_position first, d.0) ∷ strided count upwards next stride items)) [
            | zero ↦ λ k f g. inl (λ i. (f i, same_Some c.1 d.0 (sym g ∙ d.1) i))
            | suc j ↦ λ k f g. inr (later.1 (j, omega arith, f, g))
          ] h.1 h.2 h.3,
    )

strided_ordered : (R : Step → Step → Type 0) (count : ℕ) (upwards : Bool) (first stride : ℕ) (items : Items) → ((j : ℕ) → j < count → frame upwards first stride j < items_len items)
    → ((j k : ℕ) → j < k → k < count → R (by_position (frame upwards first stride j)) (by_position (frame upwards first stride k)))
    → IsInOrder (λ (a b : Step × Data). R a.0 b.0) (strided count upwards first stride items)
strided_ordered R zero upwards first stride items there before = tt
strided_ordered R (suc count) upwards first stride items there before =
    let next = next_position upwards first stride in
    let fewer : (j : ℕ) → j < count → frame upwards next stride j < items_len items = λ j k. there (suc j) (omega arith) in
    let d = item_there items first (there 0 (omega arith)) in
    subst (IsInOrder (λ (a b : Step × Data). R a.0 b.0)) (sym (next_strided count upwards first stride items (Some d.0) d.1)) (
      (λ c h. let k = (in_strided count upwards next stride items fewer c).0 h in
          subst (R (by_position first)) (sym k.2) (before 0 (suc k.0) (omega arith) (omega arith))),
      strided_ordered R count upwards next stride items fewer (λ j k h g. before (suc j) (suc k) (omega arith) (omega arith)),
    )

-- ---- courses

-- j strides stay below the width exactly where j is below the count
counted_within : (j width stride : ℕ) → (j < count_within width (suc stride)) ↔ (j * suc stride < width)
counted_within j zero stride = (λ h. absurd (omega arith), λ h. absurd (omega arith))
counted_within j (suc width) stride =
    let many = le-div_iff_mul-le {k = suc stride} {x = j} {y = width} (omega arith) in
    (λ h. let k = many.0 (omega arith) in omega arith, λ h. let k = many.1 (omega arith) in omega arith)

counted : (z : ℤ) (len : ℕ) → pos 0 ≤ℤ z → z ≤ℤ pos len → (pos (nat_abs z) ≡ z) × (nat_abs z ≤ len)
counted z len low high = grind (arith, nat_tests, common_steps, ints)

-- a bound that is cut to an array's length counts items, and so does one that may lie before position 0, with 1 added
cut_counted : (len : ℕ) (x : ℤ) → let z = int_min (pos len) (int_max (pos 0) x) in (pos (nat_abs z) ≡ z) × (nat_abs z ≤ len)
cut_counted len x = counted (int_min (pos len) (int_max (pos 0) x)) len (omega (arith, ints, clamps)) (omega (arith, ints, clamps))

module _ (s : Slice) (len k : ℕ) where
  -- where rising positions begin (RFC 9535, section 2.3.4.2.2)
  abbrev low : ℤ
  low = bound_of (pos len) s.start (pos 0) (pos 0) (pos len)

  -- where rising positions end
  abbrev high : ℤ
  high = bound_of (pos len) s.end (pos len) (pos 0) (pos len)

  rising_bounds : (pos (nat_abs low) ≡ low) × (pos (nat_abs high) ≡ high) × (nat_abs high ≤ len)
  rising_bounds = grind (arith, nat_tests, common_steps, cut_counted)

  -- a position that is so many steps above the start and below the end
  rising_at : (p n : ℕ) → step_of s ≡ pos (suc k)
      → ((low ≤ℤ pos p) × (pos p <ℤ high) × (pos p ≡ (low +ℤ (pos n *ℤ step_of s))))
      ↔ ((n < (rising s len (suc k)).count) × (p ≡ frame true (nat_abs low) (suc k) n))
  rising_at p n e = grind (arith, nat_tests, common_steps, place_up, counted_within, rising_bounds, ints)

  -- the last position
  abbrev last : ℤ
  last = pos len -ℤ pos 1

  -- where falling positions begin
  abbrev top : ℤ
  top = bound_of (pos len) s.start last (pos 0 -ℤ pos 1) last

  -- where falling positions end
  abbrev bottom : ℤ
  bottom = bound_of (pos len) s.end ((pos 0 -ℤ pos len) -ℤ pos 1) (pos 0 -ℤ pos 1) last

  falling_bounds : (pos (nat_abs (top +ℤ pos 1)) ≡ (top +ℤ pos 1)) × (pos (nat_abs (bottom +ℤ pos 1)) ≡ (bottom +ℤ pos 1)) × (nat_abs (top +ℤ pos 1) ≤ len)
  falling_bounds = grind (arith, nat_tests, common_steps, clamps, counted)

  -- a position that is so many steps below the start and above the end
  falling_at : (p n : ℕ) → step_of s ≡ negsuc k
      → ((bottom <ℤ pos p) × (pos p ≤ℤ top) × (pos p ≡ (top +ℤ (pos n *ℤ step_of s))))
      ↔ ((n < (falling s len (suc k)).count) × (p ≡ frame false (nat_abs (top +ℤ pos 1) - 1) (suc k) n))
  falling_at p n e =
      let u = nat_abs (top +ℤ pos 1) in
      let l = nat_abs (bottom +ℤ pos 1) in
      let at = place_down (u - 1) (suc k) n in
      let count = counted_within n (u - l) k in
      let is = numbers top bottom u l (n * suc k) falling_bounds.0 falling_bounds.1 in
      rw (ap (λ z. pos n *ℤ z) e ∙ pos-*ℤ-negsuc n k) (λ h. let x = is.0 h in (count.1 x.0, x.1 ∙ sym at), λ h. is.1 (count.0 h.0, h.1 ∙ at))
    where
      numbers : (z b : ℤ) (u l m : ℕ) → pos u ≡ (z +ℤ pos 1) → pos l ≡ (b +ℤ pos 1)
          → ((b <ℤ pos p) × (pos p ≤ℤ z) × (pos p ≡ (z +ℤ neg_ℤ (pos m)))) ↔ ((m < u - l) × (p ≡ (u - 1) - m))
      numbers z b u l m f g =
          (λ (after, upto, is). (omega (arith, ints), omega (arith, ints)), λ (less, is). (omega (arith, ints), omega (arith, ints), omega (arith, ints)))

-- what positions with that step select, where they lie and in which order
record ArePositions (s : Slice) (len : ℕ) (c : SlicePositions) : Type 0 where
  selects : (p : ℕ) → SelectsPosition s len p ↔ ((j : ℕ) × (j < c.count) × (p ≡ frame c.upwards c.first c.stride j))
  there : (j : ℕ) → j < c.count → frame c.upwards c.first c.stride j < len
  before : (i j : ℕ) → i < j → j < c.count → SelectedBefore (slice s) (by_position (frame c.upwards c.first c.stride i)) (by_position (frame c.upwards c.first c.stride j))

strides_less : (i j k : ℕ) → i < j → i * suc k < j * suc k
strides_less i j k h = mul-lt-mul_of_pos_right h (omega arith)

is_course : (z : ℤ) (s : Slice) (len : ℕ) → step_of s ≡ z → ArePositions s len (positions_by z s len)
is_course (pos zero) s len e = grind (arith, nat_tests, common_steps)
is_course (pos (suc k)) s len e =
    let i = nat_abs (low s len k) in
    let w = nat_abs (high s len k) - i in
    let most = (rising_bounds s len k).2 in
    let up : pos 0 <ℤ step_of s = subst (λ z. pos 0 <ℤ z) (sym e) (omega (arith, ints)) in
    record {
      selects = λ p. (
        elim [
          | inl (_, from, before, n, is) ↦ let h = (rising_at s len k p n e).0 (from, before, is) in (n, h.0, h.1)
          | inr h ↦ absurd (let down = subst (λ z. z <ℤ pos 0) e h.0 in omega (arith, ints))
        ],
        λ (n, less, is). let h = (rising_at s len k p n e).1 (less, is) in inl (up, h.0, h.1, n, h.2),
      );
      there = λ j h. let less = (counted_within j w k).0 h in omega (arith, place_up i (suc k) j);
      before = λ a b h g. inl (up, omega (arith, place_up i (suc k) a, place_up i (suc k) b, strides_less a b k h));
    }
is_course (negsuc k) s len e =
    let u = nat_abs (top s len k +ℤ pos 1) in
    let w = u - nat_abs (bottom s len k +ℤ pos 1) in
    let most = (falling_bounds s len k).2 in
    let down : step_of s <ℤ pos 0 = subst (λ z. z <ℤ pos 0) (sym e) (omega (arith, ints)) in
    record {
      selects = λ p. (
        elim [
          | inl h ↦ absurd (let up = subst (λ z. pos 0 <ℤ z) e h.0 in omega (arith, ints))
          | inr (_, after, upto, n, is) ↦ let h = (falling_at s len k p n e).0 (after, upto, is) in (n, h.0, h.1)
        ],
        λ (n, less, is). let h = (falling_at s len k p n e).1 (less, is) in inr (down, h.0, h.1, n, h.2),
      );
      there = λ j h. let less = (counted_within j w k).0 h in omega (arith, place_down (u - 1) (suc k) j);
      before = λ a b h g. let less = (counted_within b w k).0 g in
          inr (down, omega (arith, place_down (u - 1) (suc k) a, place_down (u - 1) (suc k) b, strides_less a b k h));
    }

-- ---- slices

-- the children of a slice are those at the positions that it selects
pub in_sliced : (s : Slice) (v : Data) (x : Step × Data) → IsIn x (sliced s v) ↔ (IsPositionOf (SelectsPosition s) v x.0 × (child_at v x.0 ≡ Some x.1))
in_sliced s (array items) x =
    let c = positions_by (step_of s) s (items_len items) in
    let good = is_course (step_of s) s (items_len items) refl in (
      λ h.
          let k = (in_strided c.count c.upwards c.first c.stride items good.there x).0 h in
          let p = frame c.upwards c.first c.stride k.0 in
          ((items, refl, p, k.2, (good.selects p).1 (k.0, k.1, refl)), ap (child_at (array items)) k.2 ∙ k.3),
      λ h.
          let ((same, e, p, is, selects), found) = h in
          let k = (good.selects p).0 (subst (λ (xs : Items). SelectsPosition s (items_len xs) p) (sym (same_Some items same e)) selects) in
          (in_strided c.count c.upwards c.first c.stride items good.there x).1
          (k.0, k.1, is ∙ ap by_position k.2, ap (λ q. get_item q items) (sym k.2) ∙ ap (child_at (array items)) (sym is) ∙ found),
    )
in_sliced s _ x = (λ h. absurd h, λ h. absurd (none-some h.0.0 h.0.1))

-- the children of a slice stand in its order
pub sliced_ordered : (s : Slice) (v : Data) → IsInOrder (λ (a b : Step × Data). SelectedBefore (slice s) a.0 b.0) (sliced s v)
sliced_ordered s (array items) =
    let c = positions_by (step_of s) s (items_len items) in
    let good = is_course (step_of s) s (items_len items) refl in
    strided_ordered (SelectedBefore (slice s)) c.count c.upwards c.first c.stride items good.there good.before
sliced_ordered s _ = tt
