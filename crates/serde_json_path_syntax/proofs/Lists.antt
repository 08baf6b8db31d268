-- Members of lists, and lists in order.
use Rattle.serde_json_path_syntax.proofs.Words.{true, false, refl, sym, true≢false, ◌≡◌, List, [], ◌∷◌, ◌++◌, map, flat_map, keep, ◌⊎◌, ◌↔◌, inl, inr, Bool, Option, Some, None, option_to_list, ap, subst, ◌∙◌, Decides, cases_Bool, flat_map-append, map-append, none-some, same_Some, IsIn, IsInOrder, arith, nat_tests, common_steps}

-- ---- tests that always hold, and that never do

-- a test that fails decides what nothing proves
pub never : Decides false ⊥
never = (λ e. true≢false (sym e), λ h. absurd h)

pub always : Decides true (Unit {0})
always = (λ e. tt, λ h. refl)

-- ---- membership

-- what is in two lists joined is in one of them
pub in_append : {A : Type 0} (x : A) (xs ys : List A) → IsIn x (xs ++ ys) ↔ (IsIn x xs ⊎ IsIn x ys)
in_append x [] ys = (λ h. inr h, λ h. elim h [ inl g ↦ absurd g | inr g ↦ g ])
in_append x (z ∷ xs) ys =
    let later = in_append x xs ys in (
      elim [ inl e ↦ inl (inl e) | inr h ↦ elim (later.0 h) [ inl g ↦ inl (inr g) | inr g ↦ inr g ] ],
      elim [ inl h ↦ elim h [ inl e ↦ inl e | inr g ↦ inr (later.1 (inl g)) ] | inr h ↦ inr (later.1 (inr h)) ],
    )

-- what is in a mapped list is the image of a member
pub in_map : {A B : Type 0} (f : A → B) (y : B) (xs : List A) → IsIn y (map f xs) ↔ ((x : A) × IsIn x xs × (y ≡ f x))
in_map f y [] = (λ h. absurd h, λ h. h.1)
in_map f y (x ∷ xs) =
    let later = in_map f y xs in (
      elim [ inl e ↦ (x, inl refl, e) | inr h ↦ let g = later.0 h in (g.0, inr g.1, g.2) ],
      λ h. elim h.1 [ inl e ↦ inl (h.2 ∙ ap f e) | inr g ↦ inr (later.1 (h.0, g, h.2)) ],
    )

-- the image of a member is in the mapped list
pub map_in : {A B : Type 0} (f : A → B) (x : A) (xs : List A) → IsIn x xs → IsIn (f x) (map f xs)
map_in f x xs h = (in_map f (f x) xs).1 (x, h, refl)

-- what is in lists joined for the members of a list is in the list of one of them
pub in_flat_map : {A B : Type 0} (f : A → List B) (y : B) (xs : List A) → IsIn y (flat_map f xs) ↔ ((x : A) × IsIn x xs × IsIn y (f x))
in_flat_map f y [] = (λ h. absurd h, λ h. h.1)
in_flat_map f y (x ∷ xs) =
    let later = in_flat_map f y xs in
    let here = in_append y (f x) (flat_map f xs) in (
      λ h. elim (here.0 h) [ inl g ↦ (x, inl refl, g) | inr g ↦ let k = later.0 g in (k.0, inr k.1, k.2) ],
      λ h. here.1 (elim h.1 [ inl e ↦ inl (subst (λ z. IsIn y (f z)) e h.2) | inr g ↦ inr (later.1 (h.0, g, h.2)) ]),
    )

-- what is in a sifted list is in the list, and passes
pub in_keep : {A : Type 0} (p : A → Bool) (x : A) (xs : List A) → IsIn x (keep p xs) ↔ (IsIn x xs × (p x ≡ true))
in_keep p x [] = (λ h. absurd h, λ h. h.0)
in_keep p x (z ∷ xs) = let later = in_keep p x xs in elim (cases_Bool (p z)) [
  | inl e ↦ rw e (
    elim [ inl g ↦ (inl g, ap p g ∙ e) | inr g ↦ let k = later.0 g in (inr k.0, k.1) ],
    λ h. elim h.0 [ inl g ↦ inl g | inr g ↦ inr (later.1 (g, h.1)) ],
  )
  | inr e ↦ rw e (
    λ g. let k = later.0 g in (inr k.0, k.1),
    λ h. elim h.0 [ inl g ↦ absurd (true≢false (sym h.1 ∙ ap p g ∙ e)) | inr g ↦ later.1 (g, h.1) ],
  )
]

-- what is in an option's list is its value
pub in_option : {A : Type 0} (x : A) (o : Option A) → IsIn x (option_to_list o) ↔ (o ≡ Some x)
in_option x o = grind (arith, nat_tests, common_steps, none-some, same_Some)

-- ---- order

-- a list in an order is in each weaker order
pub weaker : {A : Type 0} (R S : A → A → Type 0) (xs : List A) → ((x y : A) → R x y → S x y) → IsInOrder R xs → IsInOrder S xs
weaker R S [] f o = tt
weaker R S (x ∷ xs) f o = (λ y h. f x y (o.0 y h), weaker R S xs f o.1)

-- two lists in order, the members of the first before those of the second
pub in_order-append : {A : Type 0} (R : A → A → Type 0) (xs ys : List A) → IsInOrder R xs → IsInOrder R ys
    → ((x y : A) → IsIn x xs → IsIn y ys → R x y) → IsInOrder R (xs ++ ys)
in_order-append R [] ys o p f = p
in_order-append R (x ∷ xs) ys o p f =
    (λ y h. elim ((in_append y xs ys).0 h) [ inl g ↦ o.0 y g | inr g ↦ f x y (inl refl) g ], in_order-append R xs ys o.1 p (λ a b h g. f a b (inr h) g))

-- a mapped list
pub in_order-map : {A B : Type 0} (R : B → B → Type 0) (f : A → B) (xs : List A) → IsInOrder (λ x y. R (f x) (f y)) xs → IsInOrder R (map f xs)
in_order-map R f [] o = tt
in_order-map R f (x ∷ xs) o = (λ y h. let k = (in_map f y xs).0 h in subst (R (f x)) (sym k.2) (o.0 k.0 k.1), in_order-map R f xs o.1)

-- lists in order, joined for the members of a list in order
pub in_order-flat_map : {A B : Type 0} (Q : A → A → Type 0) (R : B → B → Type 0) (f : A → List B) (xs : List A) → IsInOrder Q xs
    → ((x : A) → IsIn x xs → IsInOrder R (f x)) → ((x y : A) (a b : B) → Q x y → IsIn a (f x) → IsIn b (f y) → R a b) → IsInOrder R (flat_map f xs)
in_order-flat_map Q R f [] o each apart = tt
in_order-flat_map Q R f (x ∷ xs) o each apart =
    in_order-append R (f x) (flat_map f xs) (each x (inl refl)) (in_order-flat_map Q R f xs o.1 (λ y h. each y (inr h)) apart)
    (λ a b h g. let k = (in_flat_map f b xs).0 g in apart x k.0 a b (o.0 k.0 k.1) h k.2)

-- a sifted list
pub in_order-keep : {A : Type 0} (R : A → A → Type 0) (p : A → Bool) (xs : List A) → IsInOrder R xs → IsInOrder R (keep p xs)
in_order-keep R p [] o = tt
in_order-keep R p (x ∷ xs) o = let later = in_order-keep R p xs o.1 in elim (cases_Bool (p x)) [
  | inl e ↦ rw e (λ y h. o.0 y ((in_keep p y xs).0 h).0, later)
  | inr e ↦ rw e later
]

-- an option's list
pub in_order-option : {A : Type 0} (R : A → A → Type 0) (o : Option A) → IsInOrder R (option_to_list o)
in_order-option R o = grind (arith, nat_tests, common_steps)

-- ---- one after the other

-- the same function on each member makes the same list
pub flat_map-same : {A B : Type 0} (f g : A → List B) → ((x : A) → f x ≡ g x) → (xs : List A) → flat_map f xs ≡ flat_map g xs
flat_map-same f g e [] = refl
flat_map-same f g e (x ∷ xs) = ap (λ ys. ys ++ flat_map f xs) (e x) ∙ ap (λ ys. g x ++ ys) (flat_map-same f g e xs)

-- lists joined, then joined again
pub flat_map-flat_map : {A B C : Type 0} (g : B → List C) (f : A → List B) (xs : List A) → flat_map g (flat_map f xs) ≡ flat_map (λ x. flat_map g (f x)) xs
flat_map-flat_map g f [] = refl
flat_map-flat_map g f (x ∷ xs) = flat_map-append g (f x) (flat_map f xs) ∙ ap (λ ys. flat_map g (f x) ++ ys) (flat_map-flat_map g f xs)

-- lists joined, then mapped
pub map-flat_map : {A B C : Type 0} (h : B → C) (f : A → List B) (xs : List A) → map h (flat_map f xs) ≡ flat_map (λ x. map h (f x)) xs
map-flat_map h f [] = refl
map-flat_map h f (x ∷ xs) = map-append h (f x) (flat_map f xs) ∙ ap (λ ys. map h (f x) ++ ys) (map-flat_map h f xs)
