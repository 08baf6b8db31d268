-- Derivations are in an order: never do two stand before each other, and a list in that order is fixed by its members.
use Rattle.serde_json_path_core.proofs.Words.{nat_tests, common_steps, ◌≡◌, ℕ, zero, suc, ◌<◌, List, [], ◌∷◌, ◌⊎◌, inl, inr, Less, Greater, refl, sym, ap, subst, ◌∙◌, arith, AllZip, same_Some, ordering_reverse, nat_list_cmp_total, ints, Data, Step, by_name, by_position, StepBefore, DescentBefore, Located, Query, query, Segments, segment, Segment, long_hand, Selectors, no_selectors, selector, Selector, slice, FunctionSet, Triple, start_of, BelongsTo, SelectedBefore, SelectedBeforeBy, SelectedBeforeIn, TripleBefore, Before, IsIn, IsInOrder, IsResult}

-- ---- never both

pub step_once : (s t : Step) → StepBefore s t → StepBefore t s → ⊥
step_once (by_name k) (by_name l) h g = let e : Less ≡ Greater = sym h ∙ nat_list_cmp_total.antisymm k l ∙ ap ordering_reverse g in cc
step_once s t h g = grind (arith, nat_tests, common_steps)

-- where what comes first decides, and otherwise what follows
first_once : {A P Q : Type 0} (R : A → A → Type 0) (once : (x y : A) → R x y → R y x → ⊥) (x y : A) → (x ≡ y → P → Q → ⊥) → R x y ⊎ ((x ≡ y) × P) → R y x ⊎ ((y ≡ x) × Q) → ⊥
first_once R once x y rest h g = grind (arith, nat_tests, common_steps)

descent_once : (xs ys : List Step) → DescentBefore xs ys → DescentBefore ys xs → ⊥
descent_once (s ∷ ss) (t ∷ ts) h g = first_once StepBefore step_once s t (λ e. descent_once ss ts) h g
descent_once xs ys h g = grind (arith, nat_tests, common_steps, first_once, step_once)

selected_once_by : (sels : Selectors) (n : ℕ) (s t : Step) → SelectedBeforeBy sels n s t → SelectedBeforeBy sels n t s → ⊥
selected_once_by (selector sel more) (suc n) s t h g = selected_once_by more n s t h g
selected_once_by sels n s t h g = first_of (assumption, grind (arith, nat_tests, common_steps, step_once, ints))

selected_once_in : (seg : Segment) (n : ℕ) (s t : Step) → SelectedBeforeIn seg n s t → SelectedBeforeIn seg n t s → ⊥
selected_once_in seg n s t h g = grind (arith, nat_tests, common_steps, selected_once_by, step_once)

triple_once : (seg : Segment) (x y : Triple) → TripleBefore seg x y → TripleBefore seg y x → ⊥
triple_once seg x y h g = grind (arith, nat_tests, common_steps, first_once, descent_once, selected_once_in)

-- of two lists of triples never both stand before the other
pub before_once : (segs : Segments) (xs ys : List Triple) → Before segs xs ys → Before segs ys xs → ⊥
before_once (segment kind seg more) (x ∷ xs) (y ∷ ys) h g = first_once (TripleBefore seg) (triple_once seg) x y (λ e. before_once more xs ys) h g
before_once _ _ _ h g = h

-- ---- a list in order is fixed by its members

in_rest : {A : Type 0} (R : A → A → Type 0) (once : (x y : A) → R x y → R y x → ⊥) (x y z : A) (xs ys : List A)
    → x ≡ y → IsInOrder R (x ∷ xs) → IsIn z xs → IsIn z (y ∷ ys) → IsIn z ys
in_rest R once x y z xs ys e o h g = grind (arith, nat_tests, common_steps)

pub in_order_once : {A : Type 0} (R : A → A → Type 0) (once : (x y : A) → R x y → R y x → ⊥) (xs ys : List A)
    → IsInOrder R xs → IsInOrder R ys → ((z : A) → IsIn z xs → IsIn z ys) → ((z : A) → IsIn z ys → IsIn z xs) → xs ≡ ys
in_order_once R once [] [] o p f g = refl
in_order_once R once [] (y ∷ ys) o p f g = absurd (g y (inl refl))
in_order_once R once (x ∷ xs) [] o p f g = absurd (f x (inl refl))
in_order_once R once (x ∷ xs) (y ∷ ys) o p f g =
    let e : x ≡ y = elim (f x (inl refl)) [ inl e ↦ e | inr h ↦ elim (g y (inl refl)) [ inl e ↦ sym e | inr k ↦ absurd (once x y (o.0 y k) (p.0 x h)) ] ] in
    let t = in_order_once R once xs ys o.1 p.1
    (λ z h. in_rest R once x y z xs ys e o h (f z (inr h))) (λ z h. in_rest R once y x z ys xs (sym e) p h (g z (inr h))) in
    ap (λ w. w ∷ xs) e ∙ ap (λ ws. y ∷ ws) t

-- of two members of a list in order, one comes before the other unless they are the same
pub in_order_total : {A : Type 0} (R : A → A → Type 0) (xs : List A) (x y : A) → IsInOrder R xs → IsIn x xs → IsIn y xs → (x ≡ y) ⊎ (R x y ⊎ R y x)
in_order_total R [] x y o h g = elim h [ ]
in_order_total R (z ∷ zs) x y o (inl e) (inl f) = inl (e ∙ sym f)
in_order_total R (z ∷ zs) x y o (inl e) (inr g) = inr (inl (subst (λ w. R w y) (sym e) (o.0 y g)))
in_order_total R (z ∷ zs) x y o (inr h) (inl f) = inr (inr (subst (λ w. R w x) (sym f) (o.0 x h)))
in_order_total R (z ∷ zs) x y o (inr h) (inr g) = in_order_total R zs x y o.1 h g

-- ---- results

same_pair : (start : Data) (xs : List Triple) (n m : Located) → BelongsTo start xs n → BelongsTo start xs m → n ≡ m
same_pair start xs n m h g = grind (arith, nat_tests, common_steps, same_Some)

same_pairs : (start : Data) (ds : List (List Triple)) (ns ms : List Located) → AllZip (BelongsTo start) ds ns → AllZip (BelongsTo start) ds ms → ns ≡ ms
same_pairs start (d ∷ ds) (n ∷ ns) (m ∷ ms) h g = grind (arith, nat_tests, common_steps, same_pair, same_pairs start ds ns ms h.1 g.1)
same_pairs start ds ns ms h g = grind (arith, nat_tests, common_steps, same_pair)

-- a query has one result at most
pub result_once : (F : FunctionSet) (top : Data) (q : Query) (v : Data) (ns ms : List Located) → IsResult F top q v ns → IsResult F top q v ms → ns ≡ ms
result_once F top (query kind segs) v ns ms h g =
    let same : h.0 ≡ g.0 = in_order_once (Before segs) (before_once segs) h.0 g.0 h.1 g.1
    (λ z k. (g.2 z).1 ((h.2 z).0 k)) (λ z k. (h.2 z).1 ((g.2 z).0 k)) in
    same_pairs (start_of kind top v) g.0 ns ms (subst (λ ds. AllZip (BelongsTo (start_of kind top v)) ds ns) same h.3) g.3
