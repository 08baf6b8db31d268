-- An integer and a double, by the double's whole part and fraction.
use Rattle.serde_json_path_numbers.proofs.Words.{nat_tests, ◌≡◌, ℕ, suc, ◌*◌, ◌/◌, ◌^◌, ◌<◌, ◌≤◌, true, false, T, refl, sym, ap, ◌∙◌, arith, ltb-true, lt-ltb, le-ltb, nat_cmp, Ordering, div-lt_iff_lt-mul, le-div_iff_mul-le, div-mul-le_self, suc-mul, ne_eqb, eq-zero-or-pos, pos_of_ne-zero, pos, trunc, float_is_finite, minus_one, two_to, Float, binary64, fits, lt, le, to_unsigned, of_bits, is_nan, lt_at, T_from_true, T_from_false, lt_of_lt_of_le, lt_of_not-le, le_of_not-lt, IsOrder, integer, IsLessNumber, AreEqualNumbers}
use Rattle.serde_json_path_numbers.proofs.Ratios.{IsRatio, ratio, value}
use Rattle.serde_json_path_numbers.proofs.Floats.{sure, number, level}
use lib.Ieee.Order.{le_of_values}

-- the constants of the code
zero_is : of_bits binary64 0 ≡ integer (pos 0)
unfolding of_bits
zero_is = refl

two_to_64_is : of_bits binary64 0x43f0_0000_0000_0000 ≡ two_to 64
unfolding of_bits
two_to_64_is = refl

rising : (a b : ℕ) → a ≤ b → T (le (integer (pos a)) (integer (pos b)))
rising a b h = le_of_values (integer (pos a)) (integer (pos b)) a 1 b 1 (omega arith) (omega arith) (value a) (value b) (omega arith)

pub under_zero : (n : ℕ) (x : Float) → lt x (of_bits binary64 0) ≡ true → lt x (integer (pos n)) ≡ true
under_zero n x h = sure _ (lt_of_lt_of_le x (integer (pos 0)) (integer (pos n)) (T_from_true _ (rw zero_is at h)) (rising 0 n (omega arith)))

pub over_64_bits : (n : ℕ) (x : Float) → n < 2 ^ 64 → le (of_bits binary64 0x43f0_0000_0000_0000) x ≡ true → lt (integer (pos n)) x ≡ true
over_64_bits n x h k =
    let less = lt_at (integer (pos n)) (two_to 64) n 1 (2 ^ 64) 1 (omega arith) (omega arith) (value n) (refl, refl) ∙ lt-ltb (n * 1) (2 ^ 64 * 1) (omega arith) in
    sure _ (lt_of_lt_of_le (integer (pos n)) (two_to 64) x (T_from_true _ less) (T_from_true _ (sym (ap (λ y. le y x) two_to_64_is) ∙ k)))

-- what has a whole part of 64 bits
pub above_minus_one : (x : Float) → float_is_finite x ≡ true → lt x (of_bits binary64 0) ≡ false → T (lt minus_one x)
unfolding is_nan lt
above_minus_one x f h = lt_of_lt_of_le minus_one (integer (pos 0)) x tt (le_of_not-lt x (integer (pos 0)) (number x f) tt (T_from_false _ (sym (ap (lt x) zero_is) ∙ h)))

pub below_64_bits : (x : Float) → float_is_finite x ≡ true → le (of_bits binary64 0x43f0_0000_0000_0000) x ≡ false → T (lt x (two_to 64))
unfolding is_nan
below_64_bits x f k = lt_of_not-le (two_to 64) x tt (number x f) (T_from_false _ (sym (ap (λ y. le y x) two_to_64_is) ∙ k))

-- how integers compare with x, by its whole part and its fraction
record IsSplit (x : Float) (w : ℕ) : Type 0 where
  pub less : (n : ℕ) → n < w → lt (integer (pos n)) x ≡ true
  pub greater : (n : ℕ) → w < n → lt x (integer (pos n)) ≡ true
  pub fraction : lt (integer (pos w)) x ≡ lt (trunc binary64 x) x
  pub not_greater : lt x (integer (pos w)) ≡ false

by_ratio : (x : Float) (a d : ℕ) → IsRatio x a d → T (lt x (two_to 64)) → IsSplit x (to_unsigned 64 x)
by_ratio x a d r b =
    let size = 2 ^ 64 in
    let most = lt_of_lt_of_le x (two_to 64) (integer (pos size)) b (le_of_values (two_to 64) (integer (pos size)) size 1 size 1 (omega arith) (omega arith) (refl, refl) (value size) (omega arith)) in
    let bound : a / d < 2 ^ 64 = (div-lt_iff_lt-mul r.divisor).1 (ltb-true a (size * d) (sym (r.below size) ∙ sure _ most)) in
    let whole : to_unsigned 64 x ≡ a / d = r.whole ∙ omega arith in
    rw whole (record {
      less = λ n l. r.above n ∙ lt-ltb (n * d) a (let more : suc n * d ≤ a = (le-div_iff_mul-le r.divisor).0 l in omega (arith, suc-mul n d, r.divisor));
      greater = λ n l. r.below n ∙ lt-ltb a (n * d) ((div-lt_iff_lt-mul r.divisor).0 l);
      fraction = r.above (a / d) ∙ sym r.fraction;
      not_greater = r.below (a / d) ∙ le-ltb a (a / d * d) (div-mul-le_self a d);
    })

module _ (n : ℕ) (x : Float) (f : float_is_finite x ≡ true) (h : fits binary64 x ≡ true) (k : lt x (of_bits binary64 0) ≡ false) (b : le (of_bits binary64 0x43f0_0000_0000_0000) x ≡ false)
    (w : ℕ) (is_whole : w ≡ to_unsigned 64 x) where
  split : IsSplit x w
  split = grind (arith, nat_tests, ratio, zero_is, by_ratio, below_64_bits)

  -- the order by whole parts that differ
  pub by_whole : (o : Ordering) → o ≡ nat_cmp n w → (n ≡ w → ⊥) → IsOrder (integer (pos n)) x o
  by_whole o e apart = grind (arith, nat_tests, eq-zero-or-pos, le-ltb, ne_eqb, split, pos_of_ne-zero, lt-ltb)

  -- and by the fraction, where they are equal
  module _ (e : n ≡ w) (t : Float) (is_trunc : t ≡ trunc binary64 x) where
    as_fraction : lt (integer (pos n)) x ≡ lt t x
    as_fraction = ap (λ k. lt (integer (pos k)) x) e ∙ split.fraction ∙ ap (λ k. lt k x) (sym is_trunc)

    pub by_fraction : lt t x ≡ true → IsLessNumber (integer (pos n)) x
    by_fraction l = as_fraction ∙ l

    pub without_fraction : lt t x ≡ false → AreEqualNumbers (integer (pos n)) x
    unfolding is_nan
    without_fraction l = level (integer (pos n)) x tt (number x f) (as_fraction ∙ l) (ap (λ k. lt x (integer (pos k))) e ∙ split.not_greater)

pub ruleset of_natural = (under_zero, over_64_bits, above_minus_one, below_64_bits, by_whole, by_fraction, without_fraction)
