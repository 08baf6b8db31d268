-- Digits of numerals, and decimals that are read as a double.
use Rattle.serde_json_path_numbers.proofs.Words.{◌≡◌, ℕ, suc, ◌+◌, ◌-◌, ◌*◌, ◌/◌, ◌^◌, ◌<◌, ◌≤◌, min, Bool, true, false, List, [], ◌∷◌, ◌++◌, length, drop, T, refl, sym, ap, ◌∙◌, arith, nat_tests, Some, ℤ, pos, negsuc, ◌+ℤ◌, take, take_all, get_or, slice_index, length-drop, mul-le-mul_right, pow-le-pow_right, take-append-drop, take_more, div-mul-add, Float, fits, of_bits, to_bits, binary64, float_is_finite, nearest_to_decimal, T_from_true, of_bits-to_bits, round-fits, digit_value, digits_value, digits_value-append, digit_at, digit_value_digit, digits_value_short, numerals_by_value, tells_digits, AllDigits, AllDigits-append, AllDigits-drop, first_digits, most_billionths, reads_as, AreHeldAlike}
use Rattle.serde_json_path_numbers.proofs.Fewest.{all_first, first_at}
use Rattle.serde_json_path_numbers.proofs.Finite.{same_finite}

-- nine digits write less than a billion
pub few_digits : (ds : List ℕ) → AllDigits 10 ds → length ds ≤ 9 → digits_value 10 ds < 1000000000
few_digits ds h few = digits_value_short (numerals_by_value (AllDigits 10) tells_digits) ds 9 h few

-- more than any literal has is too many, however many
pub capped : (n : ℕ) → AreHeldAlike (Some n) (Some (min n (2 ^ 128 - 1)))
capped n true other = grind (arith, nat_tests)
capped n false other = grind (arith, nat_tests)

pub both_digits : (a b : List ℕ) → AllDigits 10 a → AllDigits 10 b → AllDigits 10 (a ++ b)
both_digits a b h k = AllDigits-append a b h k

-- twenty zeros make too many billionths
pub many_zeros : (negative : Bool) (d k : ℕ) → 0 < d → 19 < k → most_billionths negative < d * 10 ^ (k + 9)
many_zeros negative d k some many =
    let zeros : 29 ≤ k + 9 = omega (arith, many) in
    let least : 10 ^ 29 ≤ 10 ^ (k + 9) = pow-le-pow_right {n = 10} (omega arith) zeros in
    let more : 10 ^ (k + 9) ≤ d * 10 ^ (k + 9) = omega (arith, mul-le-mul_right (10 ^ (k + 9)) some) in
    elim negative as (λ s. most_billionths s < d * 10 ^ (k + 9)) [ true ↦ omega (arith, least, more) | false ↦ omega (arith, least, more) ]

-- ---- decimals that are read as a double

near_fits : (d : ℕ) (e : ℤ) → T (fits binary64 (nearest_to_decimal binary64 false d e))
near_fits d (pos e) = round-fits binary64 false (d * 10 ^ e) 1
near_fits d (negsuc e) = round-fits binary64 false d (10 ^ suc e)

pub read_is : (negative : Bool) (x : Float) (d : ℕ) (e : ℤ) → T (fits binary64 x) → reads_as negative x d e ≡ true → nearest_to_decimal binary64 false d e ≡ x
read_is negative x d e held read =
    let same : to_bits binary64 (nearest_to_decimal binary64 false d e) ≡ to_bits binary64 x = grind (arith, nat_tests, read) in
    sym (of_bits-to_bits binary64 _ (near_fits d e)) ∙ ap (of_bits binary64) same ∙ of_bits-to_bits binary64 x held

signed_finite : (negative : Bool) (d : ℕ) (e : ℤ) → float_is_finite (nearest_to_decimal binary64 negative d e) ≡ float_is_finite (nearest_to_decimal binary64 false d e)
signed_finite negative d (pos e) = same_finite negative (d * 10 ^ e) 1
signed_finite negative d (negsuc e) = same_finite negative d (10 ^ suc e)

pub finite_decimal : (negative : Bool) (x : Float) (d : ℕ) (e : ℤ) → fits binary64 x ≡ true → float_is_finite x ≡ true → reads_as negative x d e ≡ true
    → float_is_finite (nearest_to_decimal binary64 negative d e) ≡ true
finite_decimal negative x d e held finite read = signed_finite negative d e ∙ ap float_is_finite (read_is negative x d e (T_from_true _ held) read) ∙ finite

-- ---- the first digits of some

pub small_power : (k : ℕ) → k ≤ 28 → 10 ^ k < 2 ^ 128
small_power k few = omega (arith, pow-le-pow_right {n = 10} (omega arith) few)

-- what they write is the number without the others
prefix : (ds : List ℕ) (at : ℕ) → AllDigits 10 ds → at ≤ length ds → digits_value 10 ds / 10 ^ (length ds - at) ≡ digits_value 10 (take at ds)
prefix ds at h within =
    let rest = AllDigits-drop at ds h in
    let short = digits_value_short (numerals_by_value (AllDigits 10) tells_digits) (drop at ds) (length (drop at ds)) rest (omega arith) in
    let count : length (drop at ds) ≡ length ds - at = length-drop at ds in
    let whole : digits_value 10 ds ≡ digits_value 10 (take at ds) * 10 ^ length (drop at ds) + digits_value 10 (drop at ds) = ap (digits_value 10) (sym (take-append-drop at ds)) ∙ digits_value-append (take at ds) (drop at ds) in
    rw (whole, ← count) (div-mul-add (digits_value 10 (take at ds)) (10 ^ length (drop at ds)) (digits_value 10 (drop at ds)) short)

-- of a number's digits one more is taken, after a cut
module _ (ds : List ℕ) (h : AllDigits 10 ds) (at cut digit : ℕ) (within : at < length ds) (is_cut : cut ≡ digits_value 10 (take at ds)) (is_digit : digit ≡ digit_value (slice_index ds at)) where
  pub one_taken : cut * 10 + digit ≡ digits_value 10 (take (at + 1) ds)
  one_taken = rw (is_cut, is_digit) (sym (ap (digits_value 10) (take_more ds at 0 within) ∙ digits_value-append (take at ds) (get_or ds at 0 ∷ []) ∙ omega arith))

  pub one_below : digit < 10
  one_below = let here = digit_at ds at h within in rw is_digit (let is = digit_value_digit (get_or ds at 0) here in omega (arith, is, here))

-- the first digits are taken, in a loop
module _ (ds : List ℕ) (h : AllDigits 10 ds) (e : ℤ) where
  pub all_taken : (at cut : ℕ) → at ≡ length ds → cut ≡ digits_value 10 (take at ds) → cut < 10 ^ 19 → first_digits (length ds) (digits_value 10 ds, e) ≡ (cut, e)
  all_taken at cut end is few = let same : cut ≡ digits_value 10 ds = rw (is, end, take_all (length ds) ds (omega arith)) refl in let first = all_first (length ds) cut e few in rw (← same) first

  pub some_taken : (at cut : ℕ) → at ≤ length ds → cut ≡ digits_value 10 (take at ds) → 10 ^ 18 ≤ cut → cut < 10 ^ 19 → first_digits (length ds) (digits_value 10 ds, e) ≡ (cut, e +ℤ pos (length ds - at))
  some_taken at cut within is many few =
      let count : (length ds - at) + at ≡ length ds = omega (arith, within) in
      rw count at (first_at (length ds - at) at (digits_value 10 ds) cut e (prefix ds at h within ∙ sym is) many few)
