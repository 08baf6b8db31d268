-- A number that can only grow stays beyond the floats.
use Rattle.std.proofs.Common.{◌≡◌, ◌==◌, ◌+◌, ◌*◌, ◌^◌, ◌<◌, ◌≤◌, ℕ, not, Bool, true, false, ◌&&◌, ◌||◌, List, [], ◌∷◌, ◌++◌, length, take, drop, slice_index, Option, Some, None, option_map, inl, inr, T, refl, sym, ap, ◌∙◌, subst, arith, ◌⊎◌, if◌then◌else◌}
use Rattle.std.proofs.lemmas.Bool.{and_from, and_parts, and_right, or_cases, eqb-true, false_from_ne_true, false≢true}
use Rattle.std.proofs.lemmas.Bool.Decides.{nat_tests}
use Rattle.std.proofs.Math.Nat.{mul-le-mul_left, mul-le-mul_right, pow-le-pow_right}
use Rattle.std.specs.Char.{is_ascii_digit}
use Rattle.std.specs.Float.{float_is_finite}
use Rattle.std.specs.Float.Ieee.{Float, binary64, round, le}
use Rattle.std.specs.List.{prefix_len}
use Rattle.std.specs.Option.{is_some}
use Rattle.std.specs.Str.Parse.{digits_value}
use lib.Ieee.Order.{round_mono}
use Rattle.serde_json.specs.Read.{number_of}
use Rattle.serde_json_path_numbers.proofs.Finite.{finite_rounded}
use Rattle.jsonpath_document.specs.Reading.{accepts, accepts_from, after_byte, after_number, before_byte, begun_with, ends_before, is_exponent, may_end, only_grows, with_levels}
use Rattle.jsonpath_document.proofs.Endings.{all_taken, appended, is_within, last_is, marks, negative_of, plain_value, value-append}
use Rattle.jsonpath_document.proofs.Numbers.{at_end, begun_more, ended}
use Rattle.jsonpath_document.proofs.Shapes.{IsPointPart, Shape, a_minus, a_whole, a_zero, all_digits, all_more, shape_after, some_if_is, with_fraction, with_mark, with_point, with_power, with_sign, with_signed_power}
use Rattle.jsonpath_document.proofs.Steps.{IsStanding, steps}
use Rattle.json.specs.Lex.{after_value, in_word, lex, punctuate}
use Rattle.jsonpath_document.specs.Completes.{completes}
use Rattle.jsonpath_document.specs.declared.reading.Level.{Level}
use Rattle.jsonpath_document.specs.declared.reading.Next.TheVariants as next
use Rattle.jsonpath_document.specs.declared.reading.Number.{Number}
use Rattle.jsonpath_document.specs.declared.reading.Number.TheVariants.{ExponentSign, Power}
use Rattle.jsonpath_document.proofs.Range.{tens_some}
use Rattle.jsonpath_document.proofs.Scans.{fraction_of, is_power, power_digits}

-- between two finite floats all are finite
sandwiched : (x y z : Float) → float_is_finite x ≡ true → float_is_finite z ≡ true → T (le x y) → T (le y z) → float_is_finite y ≡ true
unfolding le float_is_finite
sandwiched x y z f g h k = grind (arith, nat_tests)

pub shrinks : (digits less more den : ℕ) → less ≤ more → 0 < den → float_is_finite (round binary64 false (digits * 10 ^ more) den) ≡ true
    → float_is_finite (round binary64 false (digits * 10 ^ less) den) ≡ true
shrinks digits less more den h some fine =
    let tens : 10 ^ less ≤ 10 ^ more = pow-le-pow_right {n = 10} (omega arith) h in
    let order : digits * 10 ^ less * den ≤ digits * 10 ^ more * den = mul-le-mul_right den (mul-le-mul_left digits tens) in
    sandwiched (round binary64 false 0 1) (round binary64 false (digits * 10 ^ less) den) (round binary64 false (digits * 10 ^ more) den)
    (finite_rounded false 0 1 (omega arith) (omega arith)) fine (round_mono binary64 0 1 (digits * 10 ^ less) den (omega arith) some (omega arith)) (round_mono binary64 (digits * 10 ^ less) den (digits * 10 ^ more) den some some order)

pub is_within-less : (w p : List ℕ) (less more : ℕ) → less ≤ more → is_within w p more ≡ true → is_within w p less ≡ true
is_within-less w p less more h fine = shrinks (digits_value 10 (w ++ fraction_of p)) less more (10 ^ (length (fraction_of p) + 0)) h (tens_some (length (fraction_of p) + 0)) fine

-- ---- an exponent without a minus sign

data Form : Number → List ℕ → Type 0 where
  plus : (e : ℕ) → is_exponent e ≡ true → Form ExponentSign (e ∷ 43 ∷ [])
  power : (e d : ℕ) (ds : List ℕ) → is_exponent e ≡ true → all_digits (d ∷ ds) ≡ true → Form Power (e ∷ d ∷ ds)
  plus_power : (e d : ℕ) (ds : List ℕ) → is_exponent e ≡ true → all_digits (d ∷ ds) ≡ true → Form Power (e ∷ 43 ∷ d ∷ ds)

abbrev Marks : List ℕ → Type 0
Marks q = ((is_ascii_digit (slice_index q 0) ≡ false) × ((slice_index q 0 == 46) ≡ false) × ((slice_index q 0 == 45) ≡ false)) × ((slice_index q 1 == 45) ≡ false)

form_marks : (n : Number) (q : List ℕ) → Form n q → Marks q
form_marks n q (plus e ex) = (marks e ex, refl)
form_marks n q (power e d ds ex all) =
    let digit : is_ascii_digit d ≡ true = (and_parts (is_ascii_digit d) (all_digits ds) all).0 in
    let other : (d == 45) ≡ false = grind (arith, nat_tests) in
    (marks e ex, other)
form_marks n q (plus_power e d ds ex all) = (marks e ex, refl)

abbrev power_of : List ℕ → ℕ
power_of q = digits_value 10 (power_digits q)

no_power : (e : ℕ) → power_of (e ∷ 43 ∷ []) ≡ 0
no_power e = elim (e == 101 || e == 69) as (λ z. digits_value 10 (if z && false then take 0 [] else []) ≡ 0) [ true ↦ refl | false ↦ refl ]

module _ (e d : ℕ) (ds : List ℕ) (ex : is_exponent e ≡ true) (all : all_digits (d ∷ ds) ≡ true) where
  found_digits : (z : Bool) → z ≡ true → (if z then take (prefix_len is_ascii_digit (d ∷ ds)) (d ∷ ds) else []) ≡ d ∷ ds
  found_digits z h = ap (λ z. if z then take (prefix_len is_ascii_digit (d ∷ ds)) (d ∷ ds) else []) h ∙ all_taken (d ∷ ds) all

  both : is_exponent e && is_ascii_digit d ≡ true
  both = and_from _ _ ex (and_parts (is_ascii_digit d) (all_digits ds) all).0

  plus_digits : power_digits (e ∷ 43 ∷ d ∷ ds) ≡ d ∷ ds
  plus_digits = found_digits (is_exponent e && is_ascii_digit d) both

  plain_digits : power_digits (e ∷ d ∷ ds) ≡ d ∷ ds
  plain_digits =
      let digit : is_ascii_digit d ≡ true = (and_parts (is_ascii_digit d) (all_digits ds) all).0 in
      let unsigned : (d == 45 || d == 43) ≡ false = grind (arith, nat_tests) in
      let q = e ∷ d ∷ ds in
      ap (λ z. let k = if z then 2 else 1 in
      if is_exponent e && is_ascii_digit (slice_index q k) then take (prefix_len is_ascii_digit (drop k q)) (drop k q) else []) unsigned
      ∙ found_digits (is_exponent e && is_ascii_digit d) both

value_more : (xs : List ℕ) (b : ℕ) → digits_value 10 xs ≤ digits_value 10 (xs ++ b ∷ [])
value_more xs b = omega (arith, value-append 0 xs (b ∷ []))

form_more : (n m : Number) (q : List ℕ) (b : ℕ) → Form n q → after_number n b ≡ Some m → Form m (q ++ b ∷ []) × (power_of q ≤ power_of (q ++ b ∷ []))
form_more n m q b (plus e ex) f =
    let k = some_if_is (is_ascii_digit b) Power m f in
    (subst (λ x. Form x (e ∷ 43 ∷ b ∷ [])) k.1 (plus_power e b [] ex (and_from _ _ k.0 refl)), omega (arith, no_power e))
form_more n m q b (power e d ds ex all) f =
    let k = some_if_is (is_ascii_digit b) Power m f in
    let more = all_more (d ∷ ds) b all k.0 in (
      subst (λ x. Form x (e ∷ d ∷ (ds ++ b ∷ []))) k.1 (power e d (ds ++ b ∷ []) ex more),
      omega (arith, value_more (d ∷ ds) b, ap (λ x. digits_value 10 x) (plain_digits e d ds ex all), ap (λ x. digits_value 10 x) (plain_digits e d (ds ++ b ∷ []) ex more)),
    )
form_more n m q b (plus_power e d ds ex all) f =
    let k = some_if_is (is_ascii_digit b) Power m f in
    let more = all_more (d ∷ ds) b all k.0 in (
      subst (λ x. Form x (e ∷ 43 ∷ d ∷ (ds ++ b ∷ []))) k.1 (plus_power e d (ds ++ b ∷ []) ex more),
      omega (arith, value_more (d ∷ ds) b, ap (λ x. digits_value 10 x) (plus_digits e d ds ex all), ap (λ x. digits_value 10 x) (plus_digits e d (ds ++ b ∷ []) ex more)),
    )

-- such a number
record IsUpward (n : Number) (begun : List ℕ) : Type 0 where
  minus : List ℕ
  whole : List ℕ
  point : List ℕ
  mark : List ℕ
  signed : (minus ≡ []) ⊎ (minus ≡ 45 ∷ [])
  digits : all_digits whole ≡ true
  pointed : IsPointPart point
  formed : Form n mark
  is : begun ≡ minus ++ (whole ++ (point ++ mark))

upward_more : (n m : Number) (begun : List ℕ) (b : ℕ) → IsUpward n begun → after_number n b ≡ Some m → is_some (number_of begun) ≡ false
    → IsUpward m (begun ++ b ∷ []) × (is_some (number_of (begun ++ b ∷ [])) ≡ false)
upward_more n m begun b up e none =
    let more = form_more n m up.mark b up.formed e in
    let joined = ap (λ t. t ++ b ∷ []) up.is ∙ appended up.minus up.whole up.point up.mark (b ∷ []) in
    let old = form_marks n up.mark up.formed in
    let new = form_marks m (up.mark ++ b ∷ []) more.0 in
    let before = plain_value begun up.minus up.signed up.whole up.point up.mark up.digits up.pointed old.0 old.1 begun up.is in
    let after = plain_value begun up.minus up.signed up.whole up.point (up.mark ++ b ∷ []) up.digits up.pointed new.0 new.1 (begun ++ b ∷ []) joined in (
      record { minus = up.minus; whole = up.whole; point = up.point; mark = up.mark ++ b ∷ []; signed = up.signed; digits = up.digits; pointed = up.pointed; formed = more.0; is = joined },
      false_from_ne_true _ (λ t. false≢true (sym none ∙ before ∙ is_within-less up.whole up.point (power_of up.mark) (power_of (up.mark ++ b ∷ [])) more.1 (sym after ∙ t))),
    )

module _ (begun minus : List ℕ) (signed : (minus ≡ []) ⊎ (minus ≡ 45 ∷ [])) where
  upward : (n : Number) (w p q : List ℕ) → Shape n w p q → begun ≡ minus ++ (w ++ (p ++ q)) → only_grows n begun ≡ true → IsUpward n begun
  upward n w p q a_minus is h = absurd (false≢true h)
  upward n w p q (a_zero v vs) is h = absurd (false≢true h)
  upward n w p q (a_whole v vs) is h = absurd (false≢true h)
  upward n w p q (with_point v vs) is h = absurd (false≢true h)
  upward n w p q (with_fraction v f vs fs) is h = absurd (false≢true h)
  upward n w p q (with_mark v pt e vs pp ex) is h = absurd (false≢true h)
  upward n w p q (with_sign v pt e s vs pp ex sg) is h =
      let s_is : s ≡ 43 = sym (last_is begun minus signed v pt e s is) ∙ eqb-true _ 43 h in
      record { minus = minus; whole = v; point = pt; mark = e ∷ 43 ∷ []; signed = signed; digits = vs; pointed = pp; formed = plus e ex; is = is ∙ ap (λ x. minus ++ (v ++ (pt ++ (e ∷ x ∷ [])))) s_is }
  upward n w p q (with_power v pt e d ds vs pp ex all) is h =
      record { minus = minus; whole = v; point = pt; mark = e ∷ d ∷ ds; signed = signed; digits = vs; pointed = pp; formed = power e d ds ex all; is = is }
  upward n w p q (with_signed_power v pt e s d ds vs pp ex sg all) is h =
      elim (or_cases (s == 45) (s == 43) sg) [
        | inl k ↦
            let negative = negative_of begun minus signed v pt (e ∷ s ∷ d ∷ ds) vs pp (marks e ex) is
            ∙ ap (λ x. is_power (e ∷ x ∷ d ∷ ds) && (x == 45)) (eqb-true s 45 k) ∙ ap (λ z. z && true) (both e d ds ex all) in
            absurd (false≢true (ap not (sym negative) ∙ h))
        | inr k ↦ record { minus = minus; whole = v; point = pt; mark = e ∷ 43 ∷ d ∷ ds; signed = signed; digits = vs; pointed = pp; formed = plus_power e d ds ex all; is = is ∙ ap (λ x. minus ++ (v ++ (pt ++ (e ∷ x ∷ d ∷ ds)))) (eqb-true s 43 k) }
      ]

-- ---- no text makes a document of it

grows_on : (levels : List Level) (r : List ℕ) (n : Number) (begun : List ℕ) → IsStanding levels (next.Number n) begun → IsUpward n begun → is_some (number_of begun) ≡ false
    → accepts levels (next.Number n) begun r ≡ false
unfolding accepts
grows_on levels [] n begun h up none =
    ap (λ z. z && completes (punctuate after_value (lex in_word [])) false levels)
    (ended n begun [] h.0 (at_end n) ∙ ap (λ z. may_end n && (true && z)) none ∙ and_right (may_end n) _ refl)
grows_on levels (b ∷ r) n begun h up none =
    let stays : before_byte (next.Number n) b begun ≡ next.Number n = ap (λ z. if z then next.AfterValue else next.Number n) (and_right (ends_before n b) _ none) in
    let goal : Option Number → Type 0 = λ o. accepts_from (with_levels levels (option_map next.Number o)) (begun ++ b ∷ []) r ≡ false in
    let each : (o : Option Number) → after_number n b ≡ o → goal o = λ o. elim o as (λ o. after_number n b ≡ o → goal o) [
      | None ↦ λ e. refl
      | Some m ↦ λ e. let more = upward_more n m begun b up e none in
          grows_on levels r m (begun ++ b ∷ []) (begun_more n m begun b h.0 e, shape_after n m begun b h.1 e) more.0 more.1
    ] in
    steps levels (next.Number n) begun b r h ∙ ap (λ k. accepts_from (after_byte levels k b) (begun_with k b begun) r) stays ∙ each (after_number n b) refl

pub never_smaller : (levels : List Level) (n : Number) (begun : List ℕ) → IsStanding levels (next.Number n) begun → only_grows n begun ≡ true → is_some (number_of begun) ≡ false
    → (r : List ℕ) → accepts levels (next.Number n) begun r ≡ false
never_smaller levels n begun h grows none r = grows_on levels r n begun h (upward begun h.1.minus h.1.signed n h.1.whole h.1.point h.1.power h.1.shaped h.1.is grows) none
