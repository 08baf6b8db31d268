-- A number of few bytes and without an exponent is not beyond doubles.
use Rattle.serde_json_path_reach.proofs.Words.{Bool, IsSome, List, [], ap, arith, cases_Bool, drop, false, if◌then◌else◌, inl, inr, length, length-drop, number_from, refl, suc, sym, true, zero, ◌+◌, ◌-◌, ◌*◌, ◌++◌, ◌∙◌, ◌∷◌, ◌≡◌, ◌≤◌, ◌<◌, ◌==◌, ◌||◌, ℕ}
use Rattle.fast_float.specs.Text.{digits_end, digits_of, dot, lower_e, minus, nearest, scan, tens_down, tens_up, upper_e}
use Rattle.serde_json.specs.Read.{number_of}
use Rattle.std.specs.Float.{float_is_finite}
use Rattle.std.specs.Float.Ieee.{binary64}
use Rattle.std.proofs.lemmas.Bool.Decides.{nat_tests}
use Rattle.std.proofs.Math.Nat.{le-mul_of_pos_right, mul-le-mul_right, mul_assoc, mul_comm, pow-le-pow_right, pow-suc}
use Rattle.std.proofs.lemmas.List.{get_or-drop, length-append, length-take}
use Rattle.std.specs.Char.{digit_value}
use Rattle.std.specs.Str.Parse.{digits_value, digits_value_after}
use Rattle.std.specs.Prelude.{slice_index, slice_range, ◌^◌}
use Rattle.serde_json_path_numbers.proofs.Finite.{finite_rounded}

-- no byte is that of an exponent
abbrev pub HasNoExponent : List ℕ → Type 0
HasNoExponent bs = (i : ℕ) → (slice_index bs i == lower_e || slice_index bs i == upper_e) ≡ false

-- what holds of each byte holds of zero, which stands beyond the end
all_none : (bs : List ℕ) → ((i : ℕ) → i < length bs → (slice_index bs i == lower_e || slice_index bs i == upper_e) ≡ false) → HasNoExponent bs
all_none [] h i = refl
all_none (b ∷ bs) h zero = h 0 (omega arith)
all_none (b ∷ bs) h (suc i) = all_none bs (λ j below. h (suc j) (omega (arith, below))) i

digit_at_most : (c : ℕ) → digit_value c ≤ 36
digit_at_most c = grind (arith, nat_tests)

tens_some : (k : ℕ) → 0 < 10 ^ k
tens_some k = let some : 0 ≤ k = omega arith in let least : 10 ^ 0 ≤ 10 ^ k = pow-le-pow_right {n = 10} (omega arith) some in omega (arith, least)

-- the digits after n write less than as many tens
below_tens : (n : ℕ) (ds : List ℕ) → digits_value_after 10 n ds + 4 ≤ (n + 4) * 10 ^ length ds
below_tens n [] = omega arith
below_tens n (c ∷ cs) =
    let later = below_tens (n * 10 + digit_value c) cs in
    let step = mul-le-mul_right {m = n * 10 + digit_value c + 4} {n = (n + 4) * 10} (10 ^ length cs) (omega (arith, digit_at_most c)) in
    let same : (n + 4) * 10 ^ length (c ∷ cs) ≡ (n + 4) * 10 * 10 ^ length cs = ap (λ p. (n + 4) * p) (pow-suc 10 (length cs) ∙ mul_comm (10 ^ length cs) 10) ∙ sym (mul_assoc (n + 4) 10 (10 ^ length cs)) in
    omega (arith, later, step, same)

small_value : (ds : List ℕ) → length ds ≤ 18 → digits_value 10 ds < 2 ^ 64
small_value ds few =
    let most : 10 ^ length ds ≤ 10 ^ 18 = pow-le-pow_right {n = 10} (omega arith) few in
    omega (arith, below_tens 0 ds, most)

none_scanned : (bs : List ℕ) → HasNoExponent bs → ((scan bs).exponent ≡ []) × ((scan bs).exponent_negative ≡ false)
unfolding scan
none_scanned bs none =
    let a = digits_end bs 0 in
    let b = if slice_index bs a == dot then digits_end bs (a + 1) else a in
    rw (none b) (refl, refl)

ranged : (i j : ℕ) (bs : List ℕ) → length (slice_range bs i j) ≤ length bs
ranged i j bs = omega (arith, length-take (j - i) (drop i bs), length-drop i bs)

few_scanned : (bs : List ℕ) → length ((scan bs).whole ++ (scan bs).fraction) ≤ 2 * length bs
unfolding scan
few_scanned bs =
    let a = digits_end bs 0 in
    elim (cases_Bool (slice_index bs a == dot)) [
      | inl e ↦ rw e (omega (arith, ranged 0 a bs, ranged (a + 1) (digits_end bs (a + 1)) bs, length-append (slice_range bs 0 a) (slice_range bs (a + 1) (digits_end bs (a + 1)))))
      | inr e ↦ rw e (omega (arith, ranged 0 a bs, length-append (slice_range bs 0 a) []))
    ]

finite_small : (negative : Bool) (bs : List ℕ) → length bs ≤ 9 → HasNoExponent bs → float_is_finite (nearest binary64 negative (scan bs)) ≡ true
finite_small negative bs few none =
    let (no_digits, no_sign) = none_scanned bs none in
    let small = small_value ((scan bs).whole ++ (scan bs).fraction) (omega (arith, few_scanned bs)) in
    finite_rounded negative (digits_of (scan bs) * 10 ^ tens_up (scan bs)) (10 ^ tens_down (scan bs)) (tens_some (tens_down (scan bs)))
    (bound no_digits no_sign small)
  where
    bound : (scan bs).exponent ≡ [] → (scan bs).exponent_negative ≡ false → digits_of (scan bs) < 2 ^ 64 → digits_of (scan bs) * 10 ^ tens_up (scan bs) < 2 ^ 64 * 10 ^ tens_down (scan bs)
    bound e f small =
        let up : 10 ^ tens_up (scan bs) ≡ 1 = rw (f, e) refl in
        let some = le-mul_of_pos_right (2 ^ 64) (tens_some (tens_down (scan bs))) in
        rw up (omega (arith, small, some))

some_number : (negative : Bool) (bs : List ℕ) → length bs ≤ 9 → HasNoExponent bs → IsSome (number_from negative (scan bs))
some_number false bs few none = grind (arith, finite_small false bs few none)
some_number true bs few none = grind (arith, finite_small true bs few none)

pub small_number : (s : List ℕ) → length s ≤ 9 → ((i : ℕ) → i < length s → (slice_index s i == lower_e || slice_index s i == upper_e) ≡ false) → IsSome (number_of s)
unfolding number_of
small_number s few each = let none = all_none s each in elim (cases_Bool (slice_index s 0 == minus)) [
  | inl e ↦ rw e (some_number true (drop 1 s) (omega (arith, length-drop 1 s)) (λ i. ap (λ c. c == lower_e || c == upper_e) (get_or-drop 1 s i 0) ∙ none (1 + i)))
  | inr e ↦ rw e (some_number false s few none)
]
