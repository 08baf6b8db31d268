-- Queries select the same from a value that shows what they ask.
use Rattle.serde_json_path_reach.proofs.Words.{Admits, AdmitsBy, AdmitsIn, AllZip, Answers, AnswersYes, AreArguments, Argument, Arguments, Basic, BelongsTo, Bool, Call, Compared, Data, Derives, Exists, FunctionSet, Holds, HoldsAll, HoldsBasic, HoldsTest, IsArgument, IsComparedAs, IsIn, IsPositionOf, IsResult, IsTakenAs, IsTruthOf, Items, Kind, List, Located, LogicalAnd, LogicalOr, MayDescend, None, NotIf, Operand, Option, Query, Segment, SegmentKind, Segments, Selector, Selectors, Selects, SelectsIndex, SelectsPlaces, SelectsPosition, Shows, Some, Step, Term, Then, Triple, [], along, and, ap, argument, array_len, as_array, at, call, called, child_at, current, dot_name, dot_wildcard, false, filter, in_append, index, inl, inr, items_len, literal, location_of, logical_argument, long_hand, map, name, no_and, no_arguments, no_or, no_segments, no_selectors, none-some, of_logical, of_nodes, of_value, operand, option_map, or, params_of, paren, queried, queries_in_and, queries_in_argument, queries_in_arguments, queries_in_basic, queries_in_call, queries_in_operand, queries_in_or, queries_in_segment, queries_in_segments, queries_in_selector, queries_in_selectors, queries_of, query, refl, relation, root, same_Some, segment, segments_of, selector, slice, subst, suc, sym, test, true, value, wildcard, zero, ℕ, ◌++◌, ◌↔◌, ◌∙◌, ◌∷◌, ◌≡◌, ◌⊎◌}
use Rattle.serde_json_path_reach.proofs.Pending.{admits_any, end_asked, still}
use Rattle.serde_json_path_reach.proofs.Shows.{at_split, at_step, shown_at, shown_child, step_at}

-- ---- facts that hold together

either_same : {P Q R S : Type 0} → P ↔ Q → R ↔ S → (P ⊎ R) ↔ (Q ⊎ S)
either_same e f = (elim [ inl h ↦ inl (e.0 h) | inr h ↦ inr (f.0 h) ], elim [ inl h ↦ inl (e.1 h) | inr h ↦ inr (f.1 h) ])

both_same : {P Q R S : Type 0} → P ↔ Q → R ↔ S → (P × R) ↔ (Q × S)
both_same e f = (λ h. (e.0 h.0, f.0 h.1), λ h. (e.1 h.0, f.1 h.1))

not_if_same : {P Q : Type 0} (negated : Bool) → P ↔ Q → NotIf negated P ↔ NotIf negated Q
not_if_same true e = (λ h q. h (e.1 q), λ h p. h (e.0 p))
not_if_same false e = e

truth_same : {P Q : Type 0} (t : Term) → P ↔ Q → IsTruthOf P t ↔ IsTruthOf Q t
truth_same t e = (
  λ h. (h.0, h.1, (λ b. e.0 (h.2.0 b), λ q. h.2.1 (e.1 q))),
  λ h. (h.0, h.1, (λ b. e.1 (h.2.0 b), λ p. h.2.1 (e.0 p))),
)

zip_same : {A B : Type 0} (R S : A → B → Type 0) (xs : List A) (ys : List B) → ((x : A) (y : B) → IsIn x xs → R x y → S x y) → AllZip R xs ys → AllZip S xs ys
zip_same R S [] [] f h = tt
zip_same R S [] (y ∷ ys) f h = absurd h
zip_same R S (x ∷ xs) [] f h = absurd h
zip_same R S (x ∷ xs) (y ∷ ys) f h = (f x y (inl refl) h.0, zip_same R S xs ys (λ a b i. f a b (inr i)) h.1)

-- ---- positions of arrays that are as long

same_len : (o : Option Items) (n : ℕ) → option_map items_len o ≡ Some n → (items : Items) × (o ≡ Some items) × (items_len items ≡ n)
same_len None n e = absurd (none-some n e)
same_len (Some items) n e = (items, refl, same_Some (items_len items) n e)

position_same : (Picks : ℕ → ℕ → Type 0) (v w : Data) (s : Step) → array_len w ≡ array_len v → IsPositionOf Picks v s → IsPositionOf Picks w s
position_same Picks v w s lens (items, is, p, step, picks) =
    let (others, there, len) = same_len (as_array w) (items_len items) (lens ∙ ap (option_map items_len) is) in
    (others, there, p, step, rw len picks)

-- ---- derivations

module _ (F : FunctionSet) (top base : Data) (Root : Bool → Segments → Type 0) where
  -- each `$` query among some is asked at the root
  abbrev AreAsked : List Query → Type 0
  AreAsked qs = (segs : Segments) → IsIn (query root segs) qs → Root false segs

  -- and each `@` query at hand
  abbrev AreAskedAt : (Bool → Segments → Type 0) → List Query → Type 0
  AreAskedAt A qs = AreAsked qs × ((segs : Segments) → IsIn (query current segs) qs → A false segs)

  first_asked : (qs rs : List Query) → AreAsked (qs ++ rs) → AreAsked qs
  first_asked qs rs h segs i = h segs ((in_append (query root segs) qs rs).1 (inl i))

  rest_asked : (qs rs : List Query) → AreAsked (qs ++ rs) → AreAsked rs
  rest_asked qs rs h segs i = h segs ((in_append (query root segs) qs rs).1 (inr i))

  first_at : (A : Bool → Segments → Type 0) (qs rs : List Query) → AreAskedAt A (qs ++ rs) → AreAskedAt A qs
  first_at A qs rs h = (first_asked qs rs h.0, λ segs i. h.1 segs ((in_append (query current segs) qs rs).1 (inl i)))

  rest_at : (A : Bool → Segments → Type 0) (qs rs : List Query) → AreAskedAt A (qs ++ rs) → AreAskedAt A rs
  rest_at A qs rs h = (rest_asked qs rs h.0, λ segs i. h.1 segs ((in_append (query current segs) qs rs).1 (inr i)))

  -- a step from a value to a child, and from what shows the value to what shows the child
  record Linked (A : Bool → Segments → Type 0) (v w : Data) (s : Step) (c e : Data) : Type 0 where
    lens : array_len w ≡ array_len v
    here : child_at v s ≡ Some c
    there : child_at w s ≡ Some e
    shown : Shows A (Some c) (Some e)

  -- what a query's result is, where its derivations are the same
  result_same : (segs : Segments) (A : Bool → Segments → Type 0) (v w : Data) (ns : List Located) → A false segs → Shows A (Some v) (Some w)
      → ((xs : List Triple) → Derives F top segs v xs ↔ Derives F base segs w xs)
      → IsResult F top (query current segs) v ns ↔ IsResult F base (query current segs) w ns
  result_same segs A v w ns asked l same = (
    λ h. (
      h.0,
      h.1,
      λ xs. ((λ g. (same xs).0 ((h.2 xs).0 g)), (λ g. (h.2 xs).1 ((same xs).1 g))),
      zip_same (BelongsTo v) (BelongsTo w) h.0 ns (λ xs n g b. (b.0, sym (at_end xs n ((h.2 xs).0 g) b.0) ∙ b.1)) h.3,
    ),
    λ h. (
      h.0,
      h.1,
      λ xs. ((λ g. (same xs).1 ((h.2 xs).0 g)), (λ g. (h.2 xs).1 ((same xs).0 g))),
      zip_same (BelongsTo w) (BelongsTo v) h.0 ns (λ xs n g b. (b.0, at_end xs n ((same xs).1 ((h.2 xs).0 g)) b.0 ∙ b.1)) h.3,
    ),
  )
    where
      at_end : (xs : List Triple) (n : Located) → Derives F top segs v xs → n.location ≡ location_of xs → at v n.location ≡ at w n.location
      at_end xs n h e =
          let (c, there, ends) = end_asked F top false segs A v xs asked h in
          let (x, shown, values) = l.ends (location_of xs) false c ends there in
          rw e (there ∙ sym (shown ∙ ap Some (values refl)))

  step_same : (places : Bool) (kind : SegmentKind) (seg : Segment) (more : Segments) (A : Bool → Segments → Type 0) (v w : Data) (x : Triple) (xs : List Triple)
      → AreAsked (queries_in_segment seg) → A places (segment kind seg more) → Shows A (Some v) (Some w)
      → ((B : Bool → Segments → Type 0) (c e : Data) → B places more → Shows B (Some c) (Some e) → Derives F top more c xs ↔ Derives F base more e xs)
      → ((B : Bool → Segments → Type 0) (d u c e : Data) → AreAskedAt B (queries_in_segment seg) → Linked B d u x.step c e
      → AdmitsIn F top seg x.number d x.step ↔ AdmitsIn F base seg x.number u x.step)
      → Derives F top (segment kind seg more) v (x ∷ xs) ↔ Derives F base (segment kind seg more) w (x ∷ xs)
  step_same places kind seg more A v w x xs asks i l same admit = (forward, back)
    where
      Here : Bool → Segments → Type 0
      Here = along x.descent A

      Next : Bool → Segments → Type 0
      Next = Then x.step Here

      now : MayDescend kind x.descent → Here places (segment kind seg more)
      now may = still kind seg more x.descent A places may i

      asks_next : Here places (segment kind seg more) → AreAskedAt Next (queries_in_segment seg)
      asks_next h = (asks, λ segs j. inr (inr (refl, (places, kind, seg, more, h, j))))

      link : (d u c e : Data) → Here places (segment kind seg more) → at v x.descent ≡ Some d → at w x.descent ≡ Some u → child_at d x.step ≡ Some c → child_at u x.step ≡ Some e
          → Linked Next d u x.step c e
      link d u c e h down there leads to =
          let here = shown_at x.descent A v w d u l down there in
          record { lens = here.lens [] places (segment kind seg more) d u e x.step h refl refl to; here = leads; there = to; shown = shown_child Here d u x.step c e here leads to }

      forward : Derives F top (segment kind seg more) v (x ∷ xs) → Derives F base (segment kind seg more) w (x ∷ xs)
      forward (may, (d, down, admits, (c, leads, rest))) =
          let (z, stands, ends) = end_asked F top places (segment kind seg more) A v (x ∷ xs) i (may, (d, down, admits, (c, leads, rest))) in
          let (y, shown, values) = l.ends (location_of (x ∷ xs)) places z ends stands in
          let (b, at_child, later) = at_split (x.descent ++ x.step ∷ []) (location_of xs) w y shown in
          let (u, there, at_b) = at_split x.descent (x.step ∷ []) w b at_child in
          let k = link d u c b (now may) down there leads (step_at x.step u b at_b) in
          let next = inl (kind, seg, now may, admits_any F top seg x.number d x.step admits) in
          (may, (u, there, (admit Next d u c b (asks_next (now may)) k).0 admits, (b, k.there, (same Next c b next k.shown).0 rest)))

      back : Derives F base (segment kind seg more) w (x ∷ xs) → Derives F top (segment kind seg more) v (x ∷ xs)
      back (may, (u, there, admits, (e, to, rest))) =
          let (d, down) = l.back x.descent places (segment kind seg more) u (now may) there in
          let here = shown_at x.descent A v w d u l down there in
          let next = inl (kind, seg, now may, admits_any F base seg x.number u x.step admits) in
          let (c, at_c) = here.back (x.step ∷ []) places more e next (at_step x.step u e to) in
          let leads = step_at x.step d c at_c in
          let k = link d u c e (now may) down there leads to in
          (may, (d, down, (admit Next d u c e (asks_next (now may)) k).1 admits, (c, leads, (same Next c e next k.shown).1 rest)))

  answers_yes : (c : Call) (v w : Data) → ((t : Term) → Answers F top c v t ↔ Answers F base c w t)
      → ((t : Term) × Answers F top c v t × AnswersYes t) ↔ ((t : Term) × Answers F base c w t × AnswersYes t)
  answers_yes c v w same = (λ h. (h.0, (same h.0).0 h.1, h.2), λ h. (h.0, (same h.0).1 h.1, h.2))

  module _ (root_shown : Shows Root (Some top) (Some base)) where
    mutual
      derives : (places : Bool) (segs : Segments) (A : Bool → Segments → Type 0) (v w : Data) (xs : List Triple) → AreAsked (queries_in_segments segs) → A places segs → Shows A (Some v) (Some w)
          → Derives F top segs v xs ↔ Derives F base segs w xs
      derives places no_segments A v w xs asks i l = (λ h. h, λ h. h)
      derives places (segment kind seg more) A v w [] asks i l = (λ h. h, λ h. h)
      derives places (segment kind seg more) A v w (x ∷ xs) asks i l =
          step_same places kind seg more A v w x xs (first_asked (queries_in_segment seg) (queries_in_segments more) asks) i l
          (λ B c e. derives places more B c e xs (rest_asked (queries_in_segment seg) (queries_in_segments more) asks))
          (λ B d u c e. admits_in seg x.number B d u x.step c e)

      admits_in : (seg : Segment) (n : ℕ) (A : Bool → Segments → Type 0) (v w : Data) (s : Step) (c e : Data) → AreAskedAt A (queries_in_segment seg) → Linked A v w s c e
          → AdmitsIn F top seg n v s ↔ AdmitsIn F base seg n w s
      admits_in (dot_name k) n A v w s c e asks l = (λ h. h, λ h. h)
      admits_in dot_wildcard n A v w s c e asks l = (λ h. h, λ h. h)
      admits_in (long_hand sels) n A v w s c e asks l = admits_by sels n A v w s c e asks l

      admits_by : (sels : Selectors) (n : ℕ) (A : Bool → Segments → Type 0) (v w : Data) (s : Step) (c e : Data) → AreAskedAt A (queries_in_selectors sels) → Linked A v w s c e
          → AdmitsBy F top sels n v s ↔ AdmitsBy F base sels n w s
      admits_by no_selectors n A v w s c e asks l = (λ h. h, λ h. h)
      admits_by (selector sel more) zero A v w s c e asks l = admits sel A v w s c e (first_at A (queries_in_selector sel) (queries_in_selectors more) asks) l
      admits_by (selector sel more) (suc n) A v w s c e asks l = admits_by more n A v w s c e (rest_at A (queries_in_selector sel) (queries_in_selectors more) asks) l

      admits : (sel : Selector) (A : Bool → Segments → Type 0) (v w : Data) (s : Step) (c e : Data) → AreAskedAt A (queries_in_selector sel) → Linked A v w s c e
          → Admits F top sel v s ↔ Admits F base sel w s
      admits (name k) A v w s c e asks l = (λ h. h, λ h. h)
      admits wildcard A v w s c e asks l = (λ h. h, λ h. h)
      admits (index j) A v w s c e asks l = (position_same (SelectsIndex j) v w s l.lens, position_same (SelectsIndex j) w v s (sym l.lens))
      admits (slice r) A v w s c e asks l = (position_same (SelectsPosition r) v w s l.lens, position_same (SelectsPosition r) w v s (sym l.lens))
      admits (filter f) A v w s c e asks l =
          let same = holds f A c e asks l.shown in (
            λ h. (e, l.there, same.0 (subst (Holds F top f) (same_Some h.0 c (sym h.1 ∙ l.here)) h.2)),
            λ h. (c, l.here, same.1 (subst (Holds F base f) (same_Some h.0 e (sym h.1 ∙ l.there)) h.2)),
          )

      holds : (e : LogicalOr) (A : Bool → Segments → Type 0) (v w : Data) → AreAskedAt A (queries_in_or e) → Shows A (Some v) (Some w) → Holds F top e v ↔ Holds F base e w
      holds no_or A v w asks l = (λ h. h, λ h. h)
      holds (or a more) A v w asks l =
          either_same (holds_all a A v w (first_at A (queries_in_and a) (queries_in_or more) asks) l) (holds more A v w (rest_at A (queries_in_and a) (queries_in_or more) asks) l)

      holds_all : (a : LogicalAnd) (A : Bool → Segments → Type 0) (v w : Data) → AreAskedAt A (queries_in_and a) → Shows A (Some v) (Some w) → HoldsAll F top a v ↔ HoldsAll F base a w
      holds_all no_and A v w asks l = (λ h. h, λ h. h)
      holds_all (and b more) A v w asks l =
          both_same (holds_basic b A v w (first_at A (queries_in_basic b) (queries_in_and more) asks) l) (holds_all more A v w (rest_at A (queries_in_basic b) (queries_in_and more) asks) l)

      holds_basic : (b : Basic) (A : Bool → Segments → Type 0) (v w : Data) → AreAskedAt A (queries_in_basic b) → Shows A (Some v) (Some w) → HoldsBasic F top b v ↔ HoldsBasic F base b w
      holds_basic (paren negated e) A v w asks l = not_if_same negated (holds e A v w asks l)
      holds_basic (relation a op b) A v w asks l =
          let one = λ (x : Compared). compared a A v w x (first_at A (queries_in_operand a) (queries_in_operand b) asks) l in
          let two = λ (x : Compared). compared b A v w x (rest_at A (queries_in_operand a) (queries_in_operand b) asks) l in (
            λ h. (h.0, h.1, (one h.0).0 h.2, (two h.1).0 h.3, h.4),
            λ h. (h.0, h.1, (one h.0).1 h.2, (two h.1).1 h.3, h.4),
          )
      holds_basic (test negated t) A v w asks l = not_if_same negated (holds_test t A v w asks l)

      holds_test : (t : Operand) (A : Bool → Segments → Type 0) (v w : Data) → AreAskedAt A (queries_in_operand t) → Shows A (Some v) (Some w) → HoldsTest F top t v ↔ HoldsTest F base t w
      holds_test (literal own) A v w asks l = (λ h. h, λ h. h)
      holds_test (queried q) A v w asks l = exists q A v w asks l
      holds_test (called c) A v w asks l = answers_yes c v w (λ t. answers c A v w t asks l)

      exists : (q : Query) (A : Bool → Segments → Type 0) (v w : Data) → AreAskedAt A (queries_of q) → Shows A (Some v) (Some w) → Exists F top q v ↔ Exists F base q w
      exists (query root segs) A v w asks l =
          let same = λ (xs : List Triple). derives false segs Root top base xs (λ s i. asks.0 s (inr i)) (asks.0 segs (inl refl)) root_shown in
          (λ h. (h.0, (same h.0).0 h.1), λ h. (h.0, (same h.0).1 h.1))
      exists (query current segs) A v w asks l =
          let same = λ (xs : List Triple). derives false segs A v w xs (λ s i. asks.0 s (inr i)) (asks.1 segs (inl refl)) l in
          (λ h. (h.0, (same h.0).0 h.1), λ h. (h.0, (same h.0).1 h.1))

      result : (q : Query) (A : Bool → Segments → Type 0) (v w : Data) (ns : List Located) → AreAskedAt A (queries_of q) → Shows A (Some v) (Some w)
          → IsResult F top q v ns ↔ IsResult F base q w ns
      result (query root segs) A v w ns asks l =
          result_same segs Root top base ns (asks.0 segs (inl refl)) root_shown (λ xs. derives false segs Root top base xs (λ s i. asks.0 s (inr i)) (asks.0 segs (inl refl)) root_shown)
      result (query current segs) A v w ns asks l =
          result_same segs A v w ns (asks.1 segs (inl refl)) l (λ xs. derives false segs A v w xs (λ s i. asks.0 s (inr i)) (asks.1 segs (inl refl)) l)

      compared : (a : Operand) (A : Bool → Segments → Type 0) (v w : Data) (x : Compared) → AreAskedAt A (queries_in_operand a) → Shows A (Some v) (Some w)
          → IsComparedAs F top a v x ↔ IsComparedAs F base a w x
      compared (literal own) A v w x asks l = (λ h. h, λ h. h)
      compared (queried q) A v w x asks l =
          let same = λ (ns : List Located). result q A v w ns asks l in
          (λ h. (h.0, (same h.0).0 h.1, h.2), λ h. (h.0, (same h.0).1 h.1, h.2))
      compared (called c) A v w x asks l =
          let same = λ (t : Term). answers c A v w t asks l in
          (λ h. (h.0, (same (value h.0)).0 h.1, h.2), λ h. (h.0, (same (value h.0)).1 h.1, h.2))

      answers : (c : Call) (A : Bool → Segments → Type 0) (v w : Data) (t : Term) → AreAskedAt A (queries_in_call c) → Shows A (Some v) (Some w)
          → Answers F top c v t ↔ Answers F base c w t
      answers (call f args) A v w t asks l =
          let same = λ (ts : List Term). arguments args (params_of (F.signature f)) A v w ts asks l in
          (λ h. (h.0, (same h.0).0 h.1, h.2), λ h. (h.0, (same h.0).1 h.1, h.2))

      arguments : (args : Arguments) (kinds : List Kind) (A : Bool → Segments → Type 0) (v w : Data) (ts : List Term) → AreAskedAt A (queries_in_arguments args) → Shows A (Some v) (Some w)
          → AreArguments F top args kinds v ts ↔ AreArguments F base args kinds w ts
      arguments no_arguments kinds A v w ts asks l = (λ h. h, λ h. h)
      arguments (argument a more) (kind ∷ kinds) A v w (t ∷ ts) asks l =
          both_same (as_argument a kind A v w t (first_at A (queries_in_argument a) (queries_in_arguments more) asks) l)
          (arguments more kinds A v w ts (rest_at A (queries_in_argument a) (queries_in_arguments more) asks) l)
      arguments (argument a more) [] A v w ts asks l = (λ h. h, λ h. h)
      arguments (argument a more) (kind ∷ kinds) A v w [] asks l = (λ h. h, λ h. h)

      as_argument : (a : Argument) (kind : Kind) (A : Bool → Segments → Type 0) (v w : Data) (t : Term) → AreAskedAt A (queries_in_argument a) → Shows A (Some v) (Some w)
          → IsArgument F top a kind v t ↔ IsArgument F base a kind w t
      as_argument (operand x) kind A v w t asks l = taken x kind A v w t asks l
      as_argument (logical_argument e) kind A v w t asks l = truth_same t (holds e A v w asks l)

      taken : (a : Operand) (kind : Kind) (A : Bool → Segments → Type 0) (v w : Data) (t : Term) → AreAskedAt A (queries_in_operand a) → Shows A (Some v) (Some w)
          → IsTakenAs F top a kind v t ↔ IsTakenAs F base a kind w t
      taken (literal own) kind A v w t asks l = (λ h. h, λ h. h)
      taken (queried q) of_value A v w t asks l =
          let same = λ (ns : List Located). result q A v w ns asks l in (λ h. (h.0, (same h.0).0 h.1, h.2), λ h. (h.0, (same h.0).1 h.1, h.2))
      taken (queried q) of_nodes A v w t asks l =
          let same = λ (ns : List Located). result q A v w ns asks l in (λ h. (h.0, (same h.0).0 h.1, h.2), λ h. (h.0, (same h.0).1 h.1, h.2))
      taken (queried q) of_logical A v w t asks l = truth_same t (exists q A v w asks l)
      taken (called c) of_value A v w t asks l = answers c A v w t asks l
      taken (called c) of_nodes A v w t asks l = answers c A v w t asks l
      taken (called c) of_logical A v w t asks l =
          let same = λ (u : Term). answers c A v w u asks l in (λ h. (h.0, (same h.0).0 h.1, h.2), λ h. (h.0, (same h.0).1 h.1, h.2))

-- ---- places alone

-- what stands at the ends of derivations
stand_at : (v : Data) (xss : List (List Triple)) → ((xs : List Triple) → IsIn xs xss → (e : Data) × (at v (location_of xs) ≡ Some e)) → (ns : List Located) × AllZip (BelongsTo v) xss ns
stand_at v [] there = ([], tt)
stand_at v (xs ∷ xss) there =
    let (e, is) = there xs (inl refl) in
    let (ns, belong) = stand_at v xss (λ ys i. there ys (inr i)) in
    (record { location = location_of xs; value = e } ∷ ns, ((refl, is), belong))

zipped_places : (v w : Data) (xss : List (List Triple)) (ns ms : List Located) → AllZip (BelongsTo v) xss ns → AllZip (BelongsTo w) xss ms → map (λ n. n.location) ns ≡ map (λ n. n.location) ms
zipped_places v w [] [] [] f g = refl
zipped_places v w (xs ∷ xss) (n ∷ ns) (m ∷ ms) f g =
    let first : n.location ≡ m.location = f.0.0 ∙ sym g.0.0 in
    ap (λ l. l ∷ map (λ n. n.location) ns) first ∙ ap (λ ls. m.location ∷ ls) (zipped_places v w xss ns ms f.1 g.1)
zipped_places v w [] (n ∷ ns) ms f g = absurd f
zipped_places v w [] [] (m ∷ ms) f g = absurd g
zipped_places v w (xs ∷ xss) [] ms f g = absurd f
zipped_places v w (xs ∷ xss) (n ∷ ns) [] f g = absurd g

-- where derivations are the same, and something stands at their ends, the places of results are
places_moved : (F : FunctionSet) (t u : Data) (segs : Segments) (v w : Data) (places : List (List Step)) → ((xs : List Triple) → Derives F t segs v xs ↔ Derives F u segs w xs)
    → ((xs : List Triple) → Derives F u segs w xs → (e : Data) × (at w (location_of xs) ≡ Some e))
    → (ns : List Located) × IsResult F t (query current segs) v ns × (map (λ n. n.location) ns ≡ places)
    → (ns : List Located) × IsResult F u (query current segs) w ns × (map (λ n. n.location) ns ≡ places)
places_moved F t u segs v w places same stands (ns, h, is) =
    let (ms, belong) = stand_at w h.0 (λ xs i. stands xs ((same xs).0 ((h.2 xs).0 i))) in (
      ms,
      (h.0, h.1, (λ xs. ((λ g. (same xs).0 ((h.2 xs).0 g)), (λ g. (h.2 xs).1 ((same xs).1 g)))), belong),
      zipped_places w v h.0 ms ns belong h.3 ∙ is,
    )

-- ---- queries at the document

module _ (F : FunctionSet) (document reached : Data) (A : Bool → Segments → Type 0) (l : Shows A (Some document) (Some reached)) where
  module _ (segs : Segments) (asks : (more : Segments) → IsIn (query root more) (queries_in_segments segs) → A false more) where
    values_same : (ns : List Located) → A false segs → IsResult F document (query current segs) document ns ↔ IsResult F reached (query current segs) reached ns
    values_same ns first = result_same F document reached A segs A document reached ns first l (λ xs. derives F document reached A l false segs A document reached xs asks first l)

    module _ (first : A true segs) where
      moves : (xs : List Triple) → Derives F document segs document xs ↔ Derives F reached segs reached xs
      moves xs = derives F document reached A l true segs A document reached xs asks first l

      ends : (xs : List Triple) → Derives F document segs document xs → (c : Data) × (at document (location_of xs) ≡ Some c) × along (location_of xs) A true no_segments
      ends xs h = end_asked F document true segs A document xs first h

      stands : (xs : List Triple) → Derives F reached segs reached xs → (e : Data) × (at reached (location_of xs) ≡ Some e)
      stands xs h =
          let (c, there, end) = ends xs ((moves xs).1 h) in
          let (e, shown, values) = l.ends (location_of xs) true c end there in (e, shown)

      places_same : (places : List (List Step))
          → ((ns : List Located) × IsResult F document (query current segs) document ns × (map (λ n. n.location) ns ≡ places))
          ↔ ((ns : List Located) × IsResult F reached (query current segs) reached ns × (map (λ n. n.location) ns ≡ places))
      places_same places = (
        places_moved F document reached segs document reached places moves stands,
        places_moved F reached document segs reached document places (λ xs. ((moves xs).1, (moves xs).0)) (λ xs h. let (c, there, end) = ends xs h in (c, there)),
      )

  -- a query whose segments are asked, and those of each `$` query in its filters, selects the same from what shows the document
  pub selects_shown : (q : Query) (ns : List Located) → A false (segments_of q) → ((segs : Segments) → IsIn (query root segs) (queries_in_segments (segments_of q)) → A false segs)
      → Selects F q document ns ↔ Selects F q reached ns
  selects_shown (query root segs) ns first asks = values_same segs asks ns first
  selects_shown (query current segs) ns first asks = values_same segs asks ns first

  -- and where its places are asked, the same places
  pub selects_places : (q : Query) (places : List (List Step)) → A true (segments_of q) → ((segs : Segments) → IsIn (query root segs) (queries_in_segments (segments_of q)) → A false segs)
      → SelectsPlaces F q document places ↔ SelectsPlaces F q reached places
  selects_places (query root segs) places first asks = places_same segs asks first places
  selects_places (query current segs) places first asks = places_same segs asks first places
