-- What is asked at the end of a derivation.
use Rattle.serde_json_path_reach.proofs.Words.{Admits, AdmitsBy, AdmitsIn, Bool, Data, Derives, FunctionSet, List, MayDescend, Segment, SegmentKind, Segments, Selector, Selectors, SelectsIndex, Some, Step, Then, Triple, [], along, any_may_admit, arith, at, by_position, bytes_eq-Decides, child, descendant, dot_name, dot_wildcard, eq-eqb, false, filter, index, inl, inr, ints, items_len, location_of, long_hand, may_admit, name, negsuc, no_segments, no_selectors, pos, refl, segment, selector, selectors_list, selectors_of, slice, suc, true, wildcard, zero, ℕ, ℤ, ◌++◌, ◌||◌, ◌∙◌, ◌∷◌, ◌≡◌}
use Rattle.serde_json_path_reach.proofs.Shows.{along_joined, along_less, at_joined, at_step}

-- ---- a step that is admitted may be

selects_may : (i : ℤ) (len p : ℕ) → SelectsIndex i len p → may_admit (index i) (by_position p) ≡ true
selects_may (pos i) len p (inl e) = let same : i ≡ p = cc in eq-eqb i p same
selects_may (pos i) len p (inr h) = absurd (let below = h.0 in omega (arith, ints))
selects_may (negsuc i) len p h = refl

module _ (F : FunctionSet) (top : Data) where
  admits_may : (sel : Selector) (v : Data) (s : Step) → Admits F top sel v s → may_admit sel s ≡ true
  admits_may (name k) v s h = rw h ((bytes_eq-Decides k k).1 refl)
  admits_may wildcard v s h = refl
  admits_may (index i) v s (items, e, p, is, selects) = rw is (selects_may i (items_len items) p selects)
  admits_may (slice r) v s (items, e, p, is, selects) = rw is
  admits_may (filter e) v s h = refl

  admits_by : (sels : Selectors) (n : ℕ) (v : Data) (s : Step) → AdmitsBy F top sels n v s → any_may_admit (selectors_list sels) s ≡ true
  admits_by no_selectors n v s h = absurd h
  admits_by (selector sel sels) zero v s h = rw (admits_may sel v s h)
  admits_by (selector sel sels) (suc n) v s h = let later = admits_by sels n v s h in rw later (either (may_admit sel s))
    where
      either : (b : Bool) → (b || true) ≡ true
      either true = refl
      either false = refl

  pub admits_any : (seg : Segment) (n : ℕ) (v : Data) (s : Step) → AdmitsIn F top seg n v s → any_may_admit (selectors_of seg) s ≡ true
  admits_any (dot_name k) n v s h = rw (admits_may (name k) v s h.1)
  admits_any dot_wildcard n v s h = refl
  admits_any (long_hand sels) n v s h = admits_by sels n v s h

-- ---- derivations

-- a descendant segment is asked all the way down
pub still : (kind : SegmentKind) (seg : Segment) (more : Segments) (descent : List Step) (A : Bool → Segments → Type 0) (places : Bool) → MayDescend kind descent
    → A places (segment kind seg more) → along descent A places (segment kind seg more)
still child seg more descent A places may h = rw may h
still descendant seg more [] A places may h = h
still descendant seg more (s ∷ descent) A places may h = still descendant seg more descent (Then s A) places tt (inr (inl (seg, more, refl, h)))

-- where a derivation ends, the end of the query is asked
pub end_asked : (F : FunctionSet) (top : Data) (places : Bool) (segs : Segments) (A : Bool → Segments → Type 0) (v : Data) (xs : List Triple) → A places segs → Derives F top segs v xs
    → (c : Data) × (at v (location_of xs) ≡ Some c) × along (location_of xs) A places no_segments
end_asked F top places no_segments A v xs h e = rw e (v, refl, h)
end_asked F top places (segment kind seg more) A v [] h e = absurd e
end_asked F top places (segment kind seg more) A v (x ∷ xs) h (may, (d, down, admits, (c, to, rest))) =
    let here : Bool → Segments → Type 0 = along x.descent A in
    let now = still kind seg more x.descent A places may h in
    let (e, there, asked) = end_asked F top places more (Then x.step here) c xs (inl (kind, seg, now, admits_any F top seg x.number d x.step admits)) rest in
    let to_child = at_joined x.descent (x.step ∷ []) v d down ∙ at_step x.step d c to in (
      e,
      at_joined (x.descent ++ x.step ∷ []) (location_of xs) v c to_child ∙ there,
      along_joined (x.descent ++ x.step ∷ []) (location_of xs) A places no_segments
          (along_less (location_of xs) _ _ (λ p segs. along_joined x.descent (x.step ∷ []) A p segs) places no_segments asked),
    )
