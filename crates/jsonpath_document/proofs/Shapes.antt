-- The parts of a number that has begun: its sign, its digits, those after a point, and its exponent.
use Rattle.std.proofs.Common.{◌≡◌, ◌==◌, ℕ, Bool, true, false, ◌&&◌, List, [], ◌∷◌, ◌++◌, Option, Some, refl, sym, ap, ◌∙◌, subst, ◌⊎◌, inl, inr, append_assoc, append-nil, if◌then◌else◌}
use Rattle.std.proofs.lemmas.Bool.{and_from, and_parts, eqb-true}
use Rattle.std.proofs.lemmas.Option.{none-some, same_Some}
use Rattle.std.specs.Char.{is_ascii_digit}
use Rattle.jsonpath_document.specs.Reading.{after_number, is_exponent, is_sign, some_if}
use Rattle.jsonpath_document.specs.declared.reading.Number.{Number}
use Rattle.jsonpath_document.specs.declared.reading.Number.TheVariants.{Minus, Zero, Whole, Point, Fraction, Exponent, ExponentSign, Power}

abbrev pub all_digits : List ℕ → Bool
all_digits [] = true
all_digits (x ∷ xs) = is_ascii_digit x && all_digits xs

-- a point and digits, or nothing
pub data IsPointPart : List ℕ → Type 0 where
  no_point : IsPointPart []
  a_point : (f : List ℕ) → all_digits f ≡ true → IsPointPart (46 ∷ f)

-- what a number has come to, by its digits, by a point and what follows it, and by its exponent
pub data Shape : Number → List ℕ → List ℕ → List ℕ → Type 0 where
  a_minus : Shape Minus [] [] []
  a_zero : (w : List ℕ) → all_digits w ≡ true → Shape Zero w [] []
  a_whole : (w : List ℕ) → all_digits w ≡ true → Shape Whole w [] []
  with_point : (w : List ℕ) → all_digits w ≡ true → Shape Point w (46 ∷ []) []
  with_fraction : (w f : List ℕ) → all_digits w ≡ true → all_digits f ≡ true → Shape Fraction w (46 ∷ f) []
  with_mark : (w p : List ℕ) (e : ℕ) → all_digits w ≡ true → IsPointPart p → is_exponent e ≡ true → Shape Exponent w p (e ∷ [])
  with_sign : (w p : List ℕ) (e s : ℕ) → all_digits w ≡ true → IsPointPart p → is_exponent e ≡ true → is_sign s ≡ true → Shape ExponentSign w p (e ∷ s ∷ [])
  with_power : (w p : List ℕ) (e d : ℕ) (ds : List ℕ) → all_digits w ≡ true → IsPointPart p → is_exponent e ≡ true → all_digits (d ∷ ds) ≡ true → Shape Power w p (e ∷ d ∷ ds)
  with_signed_power : (w p : List ℕ) (e s d : ℕ) (ds : List ℕ) → all_digits w ≡ true → IsPointPart p → is_exponent e ≡ true → is_sign s ≡ true → all_digits (d ∷ ds) ≡ true
      → Shape Power w p (e ∷ s ∷ d ∷ ds)

pub record HasShape (n : Number) (begun : List ℕ) : Type 0 where
  pub minus : List ℕ
  pub whole : List ℕ
  pub point : List ℕ
  pub power : List ℕ
  pub signed : (minus ≡ []) ⊎ (minus ≡ 45 ∷ [])
  pub shaped : Shape n whole point power
  pub is : begun ≡ minus ++ (whole ++ (point ++ power))

pub all_more : (w : List ℕ) (b : ℕ) → all_digits w ≡ true → is_ascii_digit b ≡ true → all_digits (w ++ b ∷ []) ≡ true
all_more [] b h d = and_from _ _ d refl
all_more (x ∷ xs) b h d = let both = and_parts _ _ h in and_from _ _ both.0 (all_more xs b both.1 d)

pub some_if_is : {A : Type 0} (c : Bool) (x y : A) → some_if c x ≡ Some y → (c ≡ true) × (x ≡ y)
some_if_is true x y e = (refl, same_Some x y e)
some_if_is false x y e = absurd (none-some y e)

or_is : {A : Type 0} (c : Bool) (x y : A) (o : Option A) → (if c then Some x else o) ≡ Some y → ((c ≡ true) × (x ≡ y)) ⊎ (o ≡ Some y)
or_is true x y o e = inl (refl, same_Some x y e)
or_is false x y o e = inr e

-- one byte more, in each of the parts
module _ (b : ℕ) (minus w p q : List ℕ) where
  last_power : (minus ++ (w ++ (p ++ q))) ++ b ∷ [] ≡ minus ++ (w ++ (p ++ (q ++ b ∷ [])))
  last_power = append_assoc minus _ (b ∷ []) ∙ ap (λ t. minus ++ t) (append_assoc w _ (b ∷ []) ∙ ap (λ t. w ++ t) (append_assoc p q (b ∷ [])))

  last_point : (minus ++ (w ++ (p ++ []))) ++ b ∷ [] ≡ minus ++ (w ++ ((p ++ b ∷ []) ++ []))
  last_point = append_assoc minus _ (b ∷ []) ∙ ap (λ t. minus ++ t) (append_assoc w _ (b ∷ []) ∙ ap (λ t. w ++ t) (ap (λ t. t ++ b ∷ []) (append-nil p) ∙ sym (append-nil (p ++ b ∷ []))))

  last_whole : (minus ++ (w ++ ([] ++ []))) ++ b ∷ [] ≡ minus ++ ((w ++ b ∷ []) ++ ([] ++ []))
  last_whole = append_assoc minus _ (b ∷ []) ∙ ap (λ t. minus ++ t) (ap (λ t. t ++ b ∷ []) (append-nil w) ∙ sym (append-nil (w ++ b ∷ [])))

module _ (begun : List ℕ) (b : ℕ) (minus : List ℕ) (signed : (minus ≡ []) ⊎ (minus ≡ 45 ∷ [])) where
  shaped_as : (n m : Number) (w p q : List ℕ) → n ≡ m → Shape n w p q → begun ++ b ∷ [] ≡ minus ++ (w ++ (p ++ q)) → HasShape m (begun ++ b ∷ [])
  shaped_as n m w p q f s e = subst (λ k. HasShape k (begun ++ b ∷ [])) f (record { minus = minus; whole = w; point = p; power = q; signed = signed; shaped = s; is = e })

  after_whole : (m : Number) (v : List ℕ) → all_digits v ≡ true → begun ≡ minus ++ (v ++ ([] ++ [])) → (if b == 46 then Some Point else some_if (is_exponent b) Exponent) ≡ Some m
      → HasShape m (begun ++ b ∷ [])
  after_whole m v ds is e =
      elim (or_is (b == 46) Point m _ e) [
        | inl h ↦ shaped_as Point m v (46 ∷ []) [] h.1 (with_point v ds)
            (ap (λ t. t ++ b ∷ []) is ∙ last_point b minus v [] [] ∙ ap (λ x. minus ++ (v ++ ((x ∷ []) ++ []))) (eqb-true b 46 h.0))
        | inr h ↦ let k = some_if_is (is_exponent b) Exponent m h in
            shaped_as Exponent m v [] (b ∷ []) k.1 (with_mark v [] b ds no_point k.0) (ap (λ t. t ++ b ∷ []) is ∙ last_power b minus v [] [])
      ]

  shape_more : (n m : Number) (w p q : List ℕ) → Shape n w p q → begun ≡ minus ++ (w ++ (p ++ q)) → after_number n b ≡ Some m → HasShape m (begun ++ b ∷ [])
  shape_more n m w p q a_minus is e =
      let on = ap (λ t. t ++ b ∷ []) is ∙ last_whole b minus [] [] [] in
      elim (or_is (b == 48) Zero m _ e) [
        | inl h ↦ shaped_as Zero m (b ∷ []) [] [] h.1 (a_zero (b ∷ []) (and_from _ _ (ap is_ascii_digit (eqb-true b 48 h.0)) refl)) on
        | inr h ↦ let k = some_if_is (is_ascii_digit b) Whole m h in shaped_as Whole m (b ∷ []) [] [] k.1 (a_whole (b ∷ []) (and_from _ _ k.0 refl)) on
      ]
  shape_more n m w p q (a_zero v ds) is e = after_whole m v ds is e
  shape_more n m w p q (a_whole v ds) is e =
      elim (or_is (is_ascii_digit b) Whole m _ e) [
        | inl h ↦ shaped_as Whole m (v ++ b ∷ []) [] [] h.1 (a_whole (v ++ b ∷ []) (all_more v b ds h.0)) (ap (λ t. t ++ b ∷ []) is ∙ last_whole b minus v [] [])
        | inr h ↦ after_whole m v ds is h
      ]
  shape_more n m w p q (with_point v ds) is e =
      let k = some_if_is (is_ascii_digit b) Fraction m e in
      shaped_as Fraction m v (46 ∷ b ∷ []) [] k.1 (with_fraction v (b ∷ []) ds (and_from _ _ k.0 refl)) (ap (λ t. t ++ b ∷ []) is ∙ last_point b minus v (46 ∷ []) [])
  shape_more n m w p q (with_fraction v f ds fs) is e =
      elim (or_is (is_ascii_digit b) Fraction m _ e) [
        | inl h ↦ shaped_as Fraction m v (46 ∷ (f ++ b ∷ [])) [] h.1 (with_fraction v (f ++ b ∷ []) ds (all_more f b fs h.0)) (ap (λ t. t ++ b ∷ []) is ∙ last_point b minus v (46 ∷ f) [])
        | inr h ↦ let k = some_if_is (is_exponent b) Exponent m h in
            shaped_as Exponent m v (46 ∷ f) (b ∷ []) k.1 (with_mark v (46 ∷ f) b ds (a_point f fs) k.0) (ap (λ t. t ++ b ∷ []) is ∙ last_power b minus v (46 ∷ f) [])
      ]
  shape_more n m w p q (with_mark v pt x ds pp ex) is e =
      elim (or_is (is_sign b) ExponentSign m _ e) [
        | inl h ↦ shaped_as ExponentSign m v pt (x ∷ b ∷ []) h.1 (with_sign v pt x b ds pp ex h.0) (ap (λ t. t ++ b ∷ []) is ∙ last_power b minus v pt (x ∷ []))
        | inr h ↦ let k = some_if_is (is_ascii_digit b) Power m h in
            shaped_as Power m v pt (x ∷ b ∷ []) k.1 (with_power v pt x b [] ds pp ex (and_from _ _ k.0 refl)) (ap (λ t. t ++ b ∷ []) is ∙ last_power b minus v pt (x ∷ []))
      ]
  shape_more n m w p q (with_sign v pt x s ds pp ex sg) is e =
      let k = some_if_is (is_ascii_digit b) Power m e in
      shaped_as Power m v pt (x ∷ s ∷ b ∷ []) k.1 (with_signed_power v pt x s b [] ds pp ex sg (and_from _ _ k.0 refl)) (ap (λ t. t ++ b ∷ []) is ∙ last_power b minus v pt (x ∷ s ∷ []))
  shape_more n m w p q (with_power v pt x d es ds pp ex all) is e =
      let k = some_if_is (is_ascii_digit b) Power m e in
      shaped_as Power m v pt (x ∷ d ∷ (es ++ b ∷ [])) k.1 (with_power v pt x d (es ++ b ∷ []) ds pp ex (all_more (d ∷ es) b all k.0)) (ap (λ t. t ++ b ∷ []) is ∙ last_power b minus v pt (x ∷ d ∷ es))
  shape_more n m w p q (with_signed_power v pt x s d es ds pp ex sg all) is e =
      let k = some_if_is (is_ascii_digit b) Power m e in
      shaped_as Power m v pt (x ∷ s ∷ d ∷ (es ++ b ∷ [])) k.1 (with_signed_power v pt x s d (es ++ b ∷ []) ds pp ex sg (all_more (d ∷ es) b all k.0))
      (ap (λ t. t ++ b ∷ []) is ∙ last_power b minus v pt (x ∷ s ∷ d ∷ es))

pub shape_after : (n m : Number) (begun : List ℕ) (b : ℕ) → HasShape n begun → after_number n b ≡ Some m → HasShape m (begun ++ b ∷ [])
shape_after n m begun b h e = shape_more begun b h.minus h.signed n m h.whole h.point h.power h.shaped h.is e

pub shape_minus : HasShape Minus (45 ∷ [])
shape_minus = record { minus = 45 ∷ []; whole = []; point = []; power = []; signed = inr refl; shaped = a_minus; is = refl }

pub shape_zero : HasShape Zero (48 ∷ [])
shape_zero = record { minus = []; whole = 48 ∷ []; point = []; power = []; signed = inl refl; shaped = a_zero (48 ∷ []) refl; is = refl }

pub shape_digit : (b : ℕ) → is_ascii_digit b ≡ true → HasShape Whole (b ∷ [])
shape_digit b h = record { minus = []; whole = b ∷ []; point = []; power = []; signed = inl refl; shaped = a_whole (b ∷ []) (and_from _ _ h refl); is = refl }
