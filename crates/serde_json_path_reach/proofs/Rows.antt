-- What is asked at a value is pending there, by the rows of a plan.
use Rattle.serde_json_path_reach.proofs.Words.{AreRight, Bool, Data, Includes, IsIn, Leads, List, None, Option, Row, Segment, SegmentKind, Segments, Selector, Selectors, Shows, Some, Step, Then, [], and_comm, and_pow, any_may_admit, ap, arith, below, bit_and, bit_at, bit_at-suc, bit_at-zero, bit_at_and, bit_at_lowest, bit_at_or, bit_or, cases_Bool, child_at, current, descendant, false, filter, in_append, in_stead, inl, inr, is_end, is_place, is_whole, kind_of_row, long_hand, max, may_admit, may_admit_by_row, min, no_segments, no_selectors, none-some, null, onward, queries_in_segment, queries_in_selector, queries_in_selectors, query, refl, rest_of_row, same_from_bits, segment, segment_of_row, selector, selectors_list, selectors_of, selectors_of_row, sym, true, true≢false, ℕ, ◌%◌, ◌&&◌, ◌*◌, ◌/◌, ◌<◌, ◌==◌, ◌||◌, ◌∙◌, ◌≡◌, ◌⊎◌}
use Rattle.serde_json_path_reach.specs.Inside.Bits.{meets}
use Rattle.serde_json_path_reach.proofs.Shows.{AsksLess, AsksNothing, assembled, dropped, unasked}

-- ---- bits

smaller : (x y z : ℕ) → min (max x y) z ≡ 0 → min x z ≡ 0
smaller x y z e = omega arith

smaller_right : (x y z : ℕ) → min (max x y) z ≡ 0 → min y z ≡ 0
smaller_right x y z e = omega arith

-- where no bit of a is one of c, and the bits of a are among those of b
none_of : (a b c : ℕ) → ((i : ℕ) → min (bit_at b i) (bit_at c i) ≡ 0 → min (bit_at a i) (bit_at c i) ≡ 0) → bit_and b c ≡ 0 → bit_and a c ≡ 0
none_of a b c among none = same_from_bits (bit_and a c) 0 (λ i.
    bit_at_and a c i ∙ among i (sym (bit_at_and b c i) ∙ ap (λ n. bit_at n i) none ∙ bit_at-zero i) ∙ sym (bit_at-zero i))

meets_more : (a b c : ℕ) → (bit_and b c ≡ 0 → bit_and a c ≡ 0) → meets a c ≡ true → meets b c ≡ true
unfolding meets
meets_more a b c none h = elim (cases_Bool (bit_and b c == 0)) [
  | inl e ↦ let zero : bit_and b c ≡ 0 = grind (arith, e) in absurd (true≢false (sym (rw (none zero) at h)))
  | inr e ↦ rw e refl
]

pub meets_left : (a b c : ℕ) → meets a c ≡ true → meets (bit_or a b) c ≡ true
meets_left a b c h = meets_more a (bit_or a b) c (none_of a (bit_or a b) c (λ i e. smaller (bit_at a i) (bit_at b i) (bit_at c i) (ap (λ n. min n (bit_at c i)) (sym (bit_at_or a b i)) ∙ e))) h

pub meets_right : (a b c : ℕ) → meets b c ≡ true → meets (bit_or a b) c ≡ true
meets_right a b c h = meets_more b (bit_or a b) c (none_of b (bit_or a b) c (λ i e. smaller_right (bit_at a i) (bit_at b i) (bit_at c i) (ap (λ n. min n (bit_at c i)) (sym (bit_at_or a b i)) ∙ e))) h

least : (x : ℕ) → min x x ≡ x
least x = omega arith

pub meets_itself : (a : ℕ) → 0 < a → meets a a ≡ true
unfolding meets
meets_itself a some =
    let same : bit_and a a ≡ a = same_from_bits (bit_and a a) a (λ i. bit_at_and a a i ∙ least (bit_at a i)) in
    let unset : (a == 0) ≡ false = grind arith in
    rw (same, unset) refl

pub nothing_met : (a : ℕ) → meets 0 a ≡ false
unfolding meets
nothing_met a = refl

-- a multiple of four has not the bit of a place
pub place_apart : (n : ℕ) → n % 4 ≡ 0 → meets 2 n ≡ false
unfolding meets
place_apart n e =
    let even : (n / 2) % 2 ≡ 0 = omega (arith, e) in
    let none : bit_and 2 n ≡ 0 = and_comm 2 n ∙ and_pow n 1 ∙ ap (λ b. b * 2) (bit_at-suc n 0 ∙ bit_at_lowest (n / 2) ∙ even) in
    rw none refl

place_not_whole : is_whole 2 ≡ false
unfolding meets
place_not_whole = refl

pub place_two : is_place 2 ≡ true
unfolding meets
place_two = refl

pub whole_one : is_whole 1 ≡ true
unfolding meets
whole_one = refl

-- ---- what is pending

pub whole_ends : (places : Bool) (pending : ℕ) → is_whole pending ≡ true → is_end places pending ≡ true
whole_ends places pending h = rw h refl

pub place_ends : (places : Bool) (pending : ℕ) → places ≡ true → is_place pending ≡ true → is_end places pending ≡ true
place_ends places pending is h = rw (is, h) (either (is_whole pending))
  where
    either : (b : Bool) → (b || true) ≡ true
    either true = refl
    either false = refl

pub whole_or_place : (places : Bool) (pending : ℕ) → is_end places pending ≡ true → (is_whole pending ≡ true) ⊎ ((places ≡ true) × (is_place pending ≡ true))
whole_or_place places pending h = by (is_whole pending) places (is_place pending) h
  where
    by : (w p b : Bool) → (w || (p && b)) ≡ true → (w ≡ true) ⊎ ((p ≡ true) × (b ≡ true))
    by true p b h = inl refl
    by false true true h = inr (refl, refl)
    by false true false h = absurd (true≢false (sym h))
    by false false b h = absurd (true≢false (sym h))

pub includes_more : (rows others : List Row) (a b : ℕ) → ((row : Row) → IsIn row rows → IsIn row others) → ((m : ℕ) → meets a m ≡ true → meets b m ≡ true)
    → (places : Bool) (segs : Segments) → Includes rows a places segs → Includes others b places segs
includes_more rows others a b among more places no_segments h = elim (whole_or_place places a h) [
  | inl w ↦ whole_ends places b (more 1 w)
  | inr (is, p) ↦ place_ends places b is (more 2 p)
]
includes_more rows others a b among more places (segment kind seg rest) (inl h) = inl (more 1 h)
includes_more rows others a b among more places (segment kind seg rest) (inr (row, i, enough, met, is)) = inr (row, among row i, enough, more row.bit met, is)

pub includes_left : (rows : List Row) (a b : ℕ) (places : Bool) (segs : Segments) → Includes rows a places segs → Includes rows (bit_or a b) places segs
includes_left rows a b = includes_more rows rows a (bit_or a b) (λ row i. i) (meets_left a b)

pub includes_right : (rows : List Row) (a b : ℕ) (places : Bool) (segs : Segments) → Includes rows b places segs → Includes rows (bit_or a b) places segs
includes_right rows a b = includes_more rows rows b (bit_or a b) (λ row i. i) (meets_right a b)

all_included : (rows : List Row) (places : Bool) (pending : ℕ) (segs : Segments) → is_whole pending ≡ true → Includes rows pending places segs
all_included rows places pending no_segments h = whole_ends places pending h
all_included rows places pending (segment kind seg rest) h = inl h

-- ---- after a step

-- where a filter asks something, its selector admits each step
filter_admits : (sels : Selectors) (segs : Segments) (s : Step) → IsIn (query current segs) (queries_in_selectors sels) → any_may_admit (selectors_list sels) s ≡ true
filter_admits no_selectors segs s h = absurd h
filter_admits (selector sel sels) segs s h = elim ((in_append (query current segs) (queries_in_selector sel) (queries_in_selectors sels)).0 h) [
  | inl g ↦ rw (by sel g)
  | inr g ↦ let later = filter_admits sels segs s g in rw later (either (may_admit sel s))
]
  where
    by : (sel : Selector) → IsIn (query current segs) (queries_in_selector sel) → may_admit sel s ≡ true
    by (filter e) g = refl
    by _ g = absurd g

    either : (b : Bool) → (b || true) ≡ true
    either true = refl
    either false = refl

asked_admits : (seg : Segment) (segs : Segments) (s : Step) → IsIn (query current segs) (queries_in_segment seg) → any_may_admit (selectors_of seg) s ≡ true
asked_admits (long_hand sels) segs s h = filter_admits sels segs s h
asked_admits _ segs s h = absurd h

next_met : (row : Row) (s : Step) (m : ℕ) → may_admit_by_row row s ≡ true → meets row.next m ≡ true → meets (onward row s) m ≡ true
next_met row s m may h = rw may (meets_right row.again row.next m h)

again_met : (row : Row) (s : Step) (m : ℕ) → meets row.again m ≡ true → meets (onward row s) m ≡ true
again_met row s m h = elim (cases_Bool (may_admit_by_row row s)) [
  | inl e ↦ rw e (meets_left row.again row.next m h)
  | inr e ↦ rw e h
]

pub all_led : (rows : List Row) (s : Step) (pending : ℕ) → is_whole pending ≡ true → Leads rows s pending 1
all_led rows s pending whole = record { stays = λ w. whole_one; by_rows = λ row m e i met on. absurd (true≢false (sym whole ∙ e)) }

-- where values are asked at the end of a query, all is kept
pub whole_asked : (pending : ℕ) → is_end false pending ≡ true → is_whole pending ≡ true
whole_asked pending h = elim (whole_or_place false pending h) [ inl w ↦ w | inr (is, p) ↦ absurd (true≢false (sym is)) ]

module _ (rows : List Row) (right : AreRight rows) (s : Step) (pending next : ℕ) (leads : Leads rows s pending next) where
  -- what a row's `next` includes is pending where the row's segment may admit the step
  from_next : (row : Row) (places : Bool) (segs : Segments) → is_whole pending ≡ false → IsIn row rows → meets pending row.bit ≡ true → any_may_admit (selectors_of_row row) s ≡ true
      → Includes rows row.next places segs → Includes rows next places segs
  from_next row places segs e i met may = includes_more rows rows row.next next (λ r j. j) (λ m g. leads.by_rows row m e i met (next_met row s m ((right row i).named s may) g)) places segs

  -- what is asked at a child is pending there
  pub led : AsksLess (Then s (Includes rows pending)) (Includes rows next)
  led places segs asked = elim (cases_Bool (is_whole pending)) [
    | inl whole ↦ all_included rows places next segs (leads.stays whole)
    | inr e ↦ by e asked
  ]
    where
      by : is_whole pending ≡ false → Then s (Includes rows pending) places segs → Includes rows next places segs
      by e (inl (kind, seg, inl whole, may)) = absurd (true≢false (sym whole ∙ e))
      by e (inl (kind, seg, inr (row, i, enough, met, is), may)) =
          let here : segment_of_row row ≡ seg = cc in
          let rest : rest_of_row row ≡ segs = cc in
          from_next row places segs e i met (rw here may) (rw (← rest, ← enough) (right row i).next.rest)
      by e (inr (inl (seg, more, is, h))) = rw is (again seg more (rw is at h))
        where
          again : (seg : Segment) (more : Segments) → Includes rows pending places (segment descendant seg more) → Includes rows next places (segment descendant seg more)
          again seg more (inl whole) = absurd (true≢false (sym whole ∙ e))
          again seg more (inr (row, i, enough, met, is)) =
              let down : kind_of_row row ≡ descendant = cc in
              inr (row, i, enough, leads.by_rows row row.bit e i met (again_met row s row.bit ((right row i).again down)), is)
      by e (inr (inr (is, (ends, kind, seg, more, inl whole, j)))) = absurd (true≢false (sym whole ∙ e))
      by e (inr (inr (is, (ends, kind, seg, more, inr (row, i, enough, met, same), j)))) =
          let here : segment_of_row row ≡ seg = cc in
          let asked : IsIn (query current segs) (queries_in_segment (segment_of_row row)) = rw here j in
          rw is (from_next row false segs e i met (asked_admits (segment_of_row row) segs s asked) ((right row i).next.asked segs asked))

-- ---- where nothing is pending, or a place alone

module _ (rows : List Row) where
  pub nothing_pending : AsksNothing (Includes rows 0)
  nothing_pending places no_segments h = elim (whole_or_place places 0 h) [ inl w ↦ true≢false (sym w ∙ nothing_met 1) | inr (is, p) ↦ true≢false (sym p ∙ nothing_met 2) ]
  nothing_pending places (segment kind seg more) (inl w) = true≢false (sym w ∙ nothing_met 1)
  nothing_pending places (segment kind seg more) (inr (row, i, enough, met, is)) = true≢false (sym met ∙ nothing_met row.bit)

  place_alone : (places : Bool) (kind : SegmentKind) (seg : Segment) (more : Segments) → Includes rows 2 places (segment kind seg more) → ⊥
  place_alone places kind seg more (inl w) = true≢false (sym w ∙ place_not_whole)
  place_alone places kind seg more (inr (row, i, enough, met, is)) = true≢false (sym met ∙ row.apart)

  then_nothing : (s : Step) → AsksNothing (Then s (Includes rows 2))
  then_nothing s places segs (inl (kind, seg, h, may)) = place_alone places kind seg segs h
  then_nothing s places segs (inr (inl (seg, more, is, h))) = place_alone places descendant seg more (rw is at h)
  then_nothing s places segs (inr (inr (is, (ends, kind, seg, more, h, i)))) = place_alone ends kind seg more h

  -- what stands for a value of whose children nothing is shown
  pub stead_shown : (pending : ℕ) (d : Data) → is_whole pending ≡ false → ((s : Step) → Shows (Then s (Includes rows pending)) (child_at d s) None) → Shows (Includes rows pending) (Some d) (in_stead pending)
  stead_shown pending d e kids = elim (cases_Bool (is_place pending)) [
    | inl p ↦ rw p (assembled (Includes rows pending) d null kids (λ ends. absurd (true≢false (sym (whole_asked pending ends) ∙ e))) (λ s c to. absurd (none-some c to)))
    | inr p ↦ rw p (dropped (Includes rows pending) d kids (λ places ends. elim (whole_or_place places pending ends) [ inl w ↦ true≢false (sym w ∙ e) | inr (is, q) ↦ true≢false (sym q ∙ p) ]))
  ]

  pub bare_shown : (pending : ℕ) (d : Data) → (pending ≡ 0) ⊎ (pending ≡ 2) → Shows (Includes rows pending) (Some d) (in_stead pending)
  bare_shown pending d (inl is) = rw is (unasked (Includes rows 0) (Some d) (in_stead 0) nothing_pending)
  bare_shown pending d (inr is) = rw is (stead_shown 2 d place_not_whole (λ s. unasked (Then s (Includes rows 2)) (child_at d s) None (then_nothing s)))

  -- where the whole value is asked, it is what is shown
  pub whole_shown : (pending : ℕ) (d : Data) (o : Option Data) → is_whole pending ≡ true → Shows (Includes rows pending) (Some d) o → o ≡ Some d
  whole_shown pending d o w l = let (e, there, values) = l.ends [] false d (whole_ends false pending w) refl in by o e there (values refl)
    where
      by : (o : Option Data) (e : Data) → below o [] ≡ Some e → e ≡ d → o ≡ Some d
      by None e there is = absurd (none-some e there)
      by (Some x) e there is = there ∙ ap Some is
