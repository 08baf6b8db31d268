-- A number that has begun can end within the floats, unless it can only grow and is beyond them.
use Rattle.std.proofs.Common.{◌≡◌, ◌==◌, ◌+◌, ◌*◌, ◌^◌, ◌<◌, ◌≤◌, ℕ, zero, suc, ◌-◌, not, Bool, true, false, ◌&&◌, ◌||◌, cond, List, [], ◌∷◌, ◌++◌, length, take, drop, slice_index, Some, refl, sym, ap, ap₂, ◌∙◌, subst, arith, ◌⊎◌, inl, inr, if◌then◌else◌, append_assoc, length-append, mul_assoc, mul_comm}
use Rattle.std.proofs.lemmas.Bool.{and_from, and_parts, and_right, cases_Bool, true≢false, eqb-true, or_cases}
use Rattle.std.proofs.lemmas.Bool.Decides.{nat_tests}
use Rattle.std.proofs.Math.Nat.{mul-le-mul_right, pow-le-pow_right, pow-suc}
use Rattle.std.proofs.Math.Seq.{take-length}
use Rattle.std.specs.Char.{digit_value, is_ascii_digit}
use Rattle.std.specs.Float.{float_is_finite}
use Rattle.std.specs.Float.Ieee.{binary64, round}
use Rattle.std.specs.List.{prefix_len}
use Rattle.std.specs.Option.{is_some}
use Rattle.std.specs.Str.Parse.{digits_value, digits_value_after}
use Rattle.fast_float.specs.Text.{Parts, digits_of, nearest, scan, tens_down, tens_up}
use Rattle.serde_json.specs.Read.{number_of}
use Rattle.serde_json_path_numbers.proofs.Finite.{finite_rounded}
use Rattle.jsonpath_document.specs.Reading.{is_exponent, is_sign, only_grows, without_sign}
use Rattle.jsonpath_document.specs.declared.reading.Number.{Number}
use Rattle.jsonpath_document.specs.declared.reading.Number.TheVariants.{Minus, Zero, Whole, Point, Fraction, Exponent, ExponentSign, Power}
use Rattle.jsonpath_document.proofs.Fills.{CanEnd, ended_so, run}
use Rattle.jsonpath_document.proofs.Range.{in_range, tens_some}
use Rattle.jsonpath_document.proofs.Scans.{at, fraction_of, is_power, power_digits, scanned}
use Rattle.jsonpath_document.proofs.Shapes.{HasShape, IsPointPart, Shape, a_minus, a_point, a_whole, a_zero, all_digits, no_point, with_fraction, with_mark, with_point, with_power, with_sign, with_signed_power}

-- ---- the value of digits

digit_at_most : (c : ℕ) → digit_value c ≤ 36
digit_at_most c = grind (arith, nat_tests)

-- the digits after n write less than as many tens
below_tens : (n : ℕ) (ds : List ℕ) → digits_value_after 10 n ds + 4 ≤ (n + 4) * 10 ^ length ds
below_tens n [] = omega arith
below_tens n (c ∷ cs) =
    let later = below_tens (n * 10 + digit_value c) cs in
    let step = mul-le-mul_right {m = n * 10 + digit_value c + 4} {n = (n + 4) * 10} (10 ^ length cs) (omega (arith, digit_at_most c)) in
    let same : (n + 4) * 10 ^ length (c ∷ cs) ≡ (n + 4) * 10 * 10 ^ length cs = ap (λ p. (n + 4) * p) (pow-suc 10 (length cs) ∙ mul_comm (10 ^ length cs) 10) ∙ sym (mul_assoc (n + 4) 10 (10 ^ length cs)) in
    omega (arith, later, step, same)

-- nines
abbrev nines : ℕ → List ℕ
nines zero = []
nines (suc k) = 57 ∷ nines k

nines_value : (k n : ℕ) → n + k ≤ digits_value_after 10 n (nines k)
nines_value zero n = omega arith
nines_value (suc k) n = omega (arith, nines_value k (n * 10 + 9))

pub value-append : (n : ℕ) (a b : List ℕ) → digits_value_after 10 n (a ++ b) ≡ digits_value_after 10 (digits_value_after 10 n a) b
value-append n [] b = refl
value-append n (x ∷ xs) b = value-append (n * 10 + digit_value x) xs b

nines_digits : (k : ℕ) → all_digits (nines k) ≡ true
nines_digits zero = refl
nines_digits (suc k) = nines_digits k

digits-append : (a b : List ℕ) → all_digits a ≡ true → all_digits b ≡ true → all_digits (a ++ b) ≡ true
digits-append [] b h k = k
digits-append (x ∷ xs) b h k = let both = and_parts _ _ h in and_from _ _ both.0 (digits-append xs b both.1 k)

whole_prefix : (xs : List ℕ) → all_digits xs ≡ true → prefix_len is_ascii_digit xs ≡ length xs
whole_prefix [] h = refl
whole_prefix (x ∷ xs) h =
    let both = and_parts _ _ h in
    let more = whole_prefix xs both.1 in
    ap (λ z. cond z (1 + prefix_len is_ascii_digit xs) 0) both.0 ∙ omega (arith, more)

pub all_taken : (xs : List ℕ) → all_digits xs ≡ true → take (prefix_len is_ascii_digit xs) xs ≡ xs
all_taken xs h = ap (λ n. take n xs) (whole_prefix xs h) ∙ take-length xs

-- ---- a number with a negative exponent

-- of these parts no exponent makes more than there are digits before the point
small_finite : (p : Parts) → p.exponent_negative ≡ true → length p.whole ≤ digits_value 10 p.exponent → float_is_finite (nearest binary64 false p) ≡ true
small_finite p negative enough =
    let up : tens_up p ≡ 0 = ap (λ z. if z then 0 else digits_value 10 p.exponent) negative in
    let down : tens_down p ≡ length p.fraction + digits_value 10 p.exponent = ap (λ z. length p.fraction + (if z then digits_value 10 p.exponent else 0)) negative in
    let few : length (p.whole ++ p.fraction) ≤ tens_down p = omega (arith, length-append p.whole p.fraction, down) in
    let most : 10 ^ length (p.whole ++ p.fraction) ≤ 10 ^ tens_down p = pow-le-pow_right {n = 10} (omega arith) few in
    let bound : digits_of p * 10 ^ tens_up p < 2 ^ 64 * 10 ^ tens_down p = rw up (omega (arith, below_tens 0 (p.whole ++ p.fraction), most)) in
    finite_rounded false (digits_of p * 10 ^ tens_up p) (10 ^ tens_down p) (tens_some (tens_down p)) bound

-- no number without its sign begins with one
pub not_minus : (w p q : List ℕ) → all_digits w ≡ true → IsPointPart p → (slice_index q 0 == 45) ≡ false → (slice_index (w ++ (p ++ q)) 0 == 45) ≡ false
not_minus [] p q h no_point e = e
not_minus [] p q h (a_point f fs) e = refl
not_minus (x ∷ xs) p q h pp e = let d : is_ascii_digit x ≡ true = (and_parts (is_ascii_digit x) (all_digits xs) h).0 in grind (arith, nat_tests)

pub unsigned : (minus body : List ℕ) → (minus ≡ []) ⊎ (minus ≡ 45 ∷ []) → (slice_index body 0 == 45) ≡ false → without_sign (minus ++ body) ≡ body
unsigned minus body (inl e) h = ap (λ m. without_sign (m ++ body)) e ∙ ap (λ z. if z then drop 1 body else body) h
unsigned minus body (inr e) h = ap (λ m. without_sign (m ++ body)) e

pub marks : (e : ℕ) → is_exponent e ≡ true → (is_ascii_digit e ≡ false) × ((e == 46) ≡ false) × ((e == 45) ≡ false)
marks e h = (grind (arith, nat_tests), grind (arith, nat_tests), grind (arith, nat_tests))

-- a number with such an exponent is read
pub negative_read : (minus w p : List ℕ) (e d : ℕ) (ds : List ℕ) → (minus ≡ []) ⊎ (minus ≡ 45 ∷ []) → all_digits w ≡ true → IsPointPart p → is_exponent e ≡ true → all_digits (d ∷ ds) ≡ true
    → length w ≤ digits_value 10 (d ∷ ds) → is_some (number_of (minus ++ (w ++ (p ++ (e ∷ 45 ∷ d ∷ ds))))) ≡ true
negative_read minus w p e d ds signed ws pp ex all enough =
    let q = e ∷ 45 ∷ d ∷ ds in
    let none = marks e ex in
    let found = scanned w p q ws pp none.0 none.1 in
    let power : is_power q ≡ true = and_from _ _ ex (and_parts _ _ all).0 in
    let digits : power_digits q ≡ d ∷ ds = ap (λ z. if z then take (prefix_len is_ascii_digit (d ∷ ds)) (d ∷ ds) else []) power ∙ all_taken (d ∷ ds) all in
    let exponent = found.exponent ∙ digits in
    in_range (minus ++ (w ++ (p ++ q))) ∙ ap (λ t. float_is_finite (nearest binary64 false (scan t))) (unsigned minus (w ++ (p ++ q)) signed (not_minus w p q ws pp none.2))
    ∙ small_finite (scan (w ++ (p ++ q))) (found.negative ∙ ap (λ z. z && true) power) (subst (λ x. length x ≤ digits_value 10 (scan (w ++ (p ++ q))).exponent) (sym found.whole) (subst (λ x. length w ≤ digits_value 10 x) (sym exponent) enough))

-- digits, those after a point, and an exponent without a minus sign make a number within the floats
abbrev pub is_within : List ℕ → List ℕ → ℕ → Bool
is_within w p power = float_is_finite (round binary64 false (digits_value 10 (w ++ fraction_of p) * 10 ^ power) (10 ^ (length (fraction_of p) + 0)))

-- ---- how each number can end

run_nines : (k : ℕ) → run (nines k) Power ≡ Some Power
run_nines zero = refl
run_nines (suc k) = run_nines k

pub appended : (minus w p q more : List ℕ) → (minus ++ (w ++ (p ++ q))) ++ more ≡ minus ++ (w ++ (p ++ (q ++ more)))
appended minus w p q more = append_assoc minus _ more ∙ ap (λ t. minus ++ t) (append_assoc w _ more ∙ ap (λ t. w ++ t) (append_assoc p q more))

module _ (begun minus : List ℕ) (signed : (minus ≡ []) ⊎ (minus ≡ 45 ∷ [])) where
  abbrev small : List ℕ → List ℕ
  small w = nines (suc (length w))

  enough : (w : List ℕ) → length w ≤ digits_value 10 (small w)
  enough w = omega (arith, nines_value (suc (length w)) 0)

  -- it goes on with a negative exponent
  by_power : (n : Number) (w p q more v r : List ℕ) (e d : ℕ) (ds : List ℕ) → begun ≡ minus ++ (w ++ (p ++ q)) → run more n ≡ Some Power
      → minus ++ (w ++ (p ++ (q ++ more))) ≡ minus ++ (v ++ (r ++ (e ∷ 45 ∷ d ∷ ds)))
      → all_digits v ≡ true → IsPointPart r → is_exponent e ≡ true → all_digits (d ∷ ds) ≡ true → length v ≤ digits_value 10 (d ∷ ds) → CanEnd n begun
  by_power n w p q more v r e d ds is runs same vs pp ex all big = record {
    more = more;
    comes_to = Power;
    runs = runs;
    ends = refl;
    in_range = ap (λ t. is_some (number_of t)) (ap (λ t. t ++ more) is ∙ appended minus w p q more ∙ same) ∙ negative_read minus v r e d ds signed vs pp ex all big;
  }

  grown : (w p : List ℕ) (e s d : ℕ) (ds : List ℕ) → all_digits w ≡ true → IsPointPart p → is_exponent e ≡ true → begun ≡ minus ++ (w ++ (p ++ (e ∷ s ∷ d ∷ ds)))
      → (s == 45) ≡ true → all_digits (d ∷ ds) ≡ true → CanEnd Power begun
  grown w p e s d ds ws pp ex is h all =
      let more = nines (length w) in
      let big : length w ≤ digits_value 10 ((d ∷ ds) ++ more) = omega (arith, value-append 0 (d ∷ ds) more, nines_value (length w) (digits_value_after 10 0 (d ∷ ds))) in
      by_power Power w p (e ∷ s ∷ d ∷ ds) more w p e d (ds ++ more) is (run_nines (length w)) (ap (λ x. minus ++ (w ++ (p ++ (e ∷ x ∷ d ∷ (ds ++ more))))) (eqb-true s 45 h)) ws pp ex
      (digits-append (d ∷ ds) more all (nines_digits (length w))) big

  pub negative_of : (w p q : List ℕ) → all_digits w ≡ true → IsPointPart p → (is_ascii_digit (slice_index q 0) ≡ false) × ((slice_index q 0 == 46) ≡ false) × ((slice_index q 0 == 45) ≡ false)
      → begun ≡ minus ++ (w ++ (p ++ q)) → (scan (without_sign begun)).exponent_negative ≡ is_power q && (slice_index q 1 == 45)
  negative_of w p q ws pp none is =
      ap (λ t. (scan (without_sign t)).exponent_negative) is ∙ ap (λ t. (scan t).exponent_negative) (unsigned minus (w ++ (p ++ q)) signed (not_minus w p q ws pp none.2))
      ∙ (scanned w p q ws pp none.0 none.1).negative

  pub plus_sign : (s : ℕ) → is_sign s ≡ true → (s == 45) ≡ false → (s == 43) ≡ true
  plus_sign s sg h = elim (or_cases (s == 45) (s == 43) sg) [ inl e ↦ absurd (true≢false (sym e ∙ h)) | inr e ↦ e ]

  pub last_is : (w p : List ℕ) (e s : ℕ) → begun ≡ minus ++ (w ++ (p ++ (e ∷ s ∷ []))) → slice_index begun (length begun - 1) ≡ s
  last_is w p e s is =
      let front = minus ++ (w ++ (p ++ (e ∷ []))) in
      let same : begun ≡ front ++ s ∷ [] = is ∙ sym (appended minus w p (e ∷ []) (s ∷ [])) in
      let size : length (front ++ s ∷ []) - 1 ≡ length front + 0 = omega (arith, length-append front (s ∷ [])) in
      ap (λ t. slice_index t (length t - 1)) same ∙ ap (λ i. slice_index (front ++ s ∷ []) i) size ∙ at front (s ∷ []) 0

  -- with an exponent that has no minus sign
  pub plain_value : (w p q : List ℕ) → all_digits w ≡ true → IsPointPart p → (is_ascii_digit (slice_index q 0) ≡ false) × ((slice_index q 0 == 46) ≡ false) × ((slice_index q 0 == 45) ≡ false)
      → (slice_index q 1 == 45) ≡ false → (text : List ℕ) → text ≡ minus ++ (w ++ (p ++ q)) → is_some (number_of text) ≡ is_within w p (digits_value 10 (power_digits q))
  plain_value w p q ws pp none plus text is =
      let found = scanned w p q ws pp none.0 none.1 in
      let t = scan (w ++ (p ++ q)) in
      let negative : t.exponent_negative ≡ false = found.negative ∙ and_right _ _ plus in
      let up : tens_up t ≡ digits_value 10 (power_digits q) = ap (λ z. if z then 0 else digits_value 10 t.exponent) negative ∙ ap (λ x. digits_value 10 x) found.exponent in
      let down : tens_down t ≡ length (fraction_of p) + 0 = ap₂ (λ z f. length f + (if z then digits_value 10 t.exponent else 0)) negative found.fraction in
      ap (λ x. is_some (number_of x)) is ∙ in_range (minus ++ (w ++ (p ++ q)))
      ∙ ap (λ x. float_is_finite (nearest binary64 false (scan x))) (unsigned minus (w ++ (p ++ q)) signed (not_minus w p q ws pp none.2))
      ∙ ap₂ (λ x y. float_is_finite (round binary64 false (digits_value 10 x * 10 ^ y) (10 ^ tens_down t))) (ap₂ ◌++◌ found.whole found.fraction) up
      ∙ ap (λ y. float_is_finite (round binary64 false (digits_value 10 (w ++ fraction_of p) * 10 ^ digits_value 10 (power_digits q)) (10 ^ y))) down

  plus_ends : (w p : List ℕ) (e s : ℕ) → all_digits w ≡ true → IsPointPart p → is_exponent e ≡ true → begun ≡ minus ++ (w ++ (p ++ (e ∷ s ∷ [])))
      → (s == 45) ≡ false → (s == 43) ≡ true → is_some (number_of begun) ≡ true → CanEnd ExponentSign begun
  plus_ends w p e s ws pp ex is h plus fine =
      let none = marks e ex in
      let power : digits_value 10 (power_digits (e ∷ s ∷ [])) ≡ 0 = ap (λ x. digits_value 10 (power_digits (e ∷ x ∷ []))) (eqb-true s 43 plus) ∙ no_power (e == 101 || e == 69) in
      let more_power : digits_value 10 (power_digits (e ∷ s ∷ 48 ∷ [])) ≡ 0 = ap (λ x. digits_value 10 (power_digits (e ∷ x ∷ 48 ∷ []))) (eqb-true s 43 plus) ∙ nought (e == 101 || e == 69) in
      record {
        more = 48 ∷ [];
        comes_to = Power;
        runs = refl;
        ends = refl;
        in_range = plain_value w p (e ∷ s ∷ 48 ∷ []) ws pp none h (begun ++ 48 ∷ []) (ap (λ t. t ++ 48 ∷ []) is ∙ appended minus w p (e ∷ s ∷ []) (48 ∷ []))
            ∙ ap (λ v. is_within w p v) (more_power ∙ sym power) ∙ sym (plain_value w p (e ∷ s ∷ []) ws pp none h begun is) ∙ fine;
      }
    where
      no_power : (z : Bool) → digits_value 10 (if z && false then take 0 [] else []) ≡ 0
      no_power true = refl
      no_power false = refl

      nought : (z : Bool) → digits_value 10 (if z && true then 48 ∷ [] else []) ≡ 0
      nought true = refl
      nought false = refl

  can_end : (n : Number) (w p q : List ℕ) → Shape n w p q → begun ≡ minus ++ (w ++ (p ++ q)) → (only_grows n begun ≡ true → is_some (number_of begun) ≡ true) → CanEnd n begun
  can_end n w p q a_minus is ok =
      by_power Minus [] [] [] (48 ∷ 101 ∷ 45 ∷ small (48 ∷ [])) (48 ∷ []) [] 101 57 (nines 1) is refl refl refl no_point refl refl (enough (48 ∷ []))
  can_end n w p q (a_zero v vs) is ok =
      by_power Zero v [] [] (101 ∷ 45 ∷ small v) v [] 101 57 (nines (length v)) is (run_nines (length v)) refl vs no_point refl (nines_digits (length v)) (enough v)
  can_end n w p q (a_whole v vs) is ok =
      by_power Whole v [] [] (101 ∷ 45 ∷ small v) v [] 101 57 (nines (length v)) is (run_nines (length v)) refl vs no_point refl (nines_digits (length v)) (enough v)
  can_end n w p q (with_point v vs) is ok =
      by_power Point v (46 ∷ []) [] (48 ∷ 101 ∷ 45 ∷ small v) v (46 ∷ 48 ∷ []) 101 57 (nines (length v)) is (run_nines (length v)) refl vs (a_point (48 ∷ []) refl) refl (nines_digits (length v)) (enough v)
  can_end n w p q (with_fraction v f vs fs) is ok =
      by_power Fraction v (46 ∷ f) [] (101 ∷ 45 ∷ small v) v (46 ∷ f) 101 57 (nines (length v)) is (run_nines (length v)) refl vs (a_point f fs) refl (nines_digits (length v)) (enough v)
  can_end n w p q (with_mark v pt e vs pp ex) is ok =
      by_power Exponent v pt (e ∷ []) (45 ∷ small v) v pt e 57 (nines (length v)) is (run_nines (length v)) refl vs pp ex (nines_digits (length v)) (enough v)
  can_end n w p q (with_sign v pt e s vs pp ex sg) is ok = elim (cases_Bool (s == 45)) [
    | inl h ↦ by_power ExponentSign v pt (e ∷ s ∷ []) (small v) v pt e 57 (nines (length v)) is (run_nines (length v)) (ap (λ x. minus ++ (v ++ (pt ++ (e ∷ x ∷ small v)))) (eqb-true s 45 h))
        vs pp ex (nines_digits (length v)) (enough v)
    | inr h ↦ plus_ends v pt e s vs pp ex is h (plus_sign s sg h) (ok (ap (λ x. x == 43) (last_is v pt e s is) ∙ plus_sign s sg h))
  ]
  can_end n w p q (with_power v pt e d ds vs pp ex all) is ok =
      let digit : is_ascii_digit d ≡ true = (and_parts (is_ascii_digit d) (all_digits ds) all).0 in
      let other : (d == 45) ≡ false = grind (arith, nat_tests) in
      ended_so Power begun refl (ok (ap not (negative_of v pt (e ∷ d ∷ ds) vs pp (marks e ex) is ∙ and_right _ _ other)))
  can_end n w p q (with_signed_power v pt e s d ds vs pp ex sg all) is ok = elim (cases_Bool (s == 45)) [
    | inl h ↦ grown v pt e s d ds vs pp ex is h all
    | inr h ↦ ended_so Power begun refl (ok (ap not (negative_of v pt (e ∷ s ∷ d ∷ ds) vs pp (marks e ex) is ∙ and_right _ _ h)))
  ]

pub can_go_on : (n : Number) (begun : List ℕ) → HasShape n begun → (only_grows n begun ≡ true → is_some (number_of begun) ≡ true) → CanEnd n begun
can_go_on n begun h ok = can_end begun h.minus h.signed n h.whole h.point h.power h.shaped h.is ok
