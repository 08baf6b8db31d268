-- A double that is not below zero, as a ratio beside integers.
use Rattle.serde_json_path_numbers.proofs.Words.{nat_tests, ◌≡◌, ℕ, suc, ◌+◌, ◌-◌, ◌*◌, ◌/◌, ◌^◌, ◌<◌, min, Bool, true, false, T, refl, sym, ◌∙◌, true≢false, arith, add_comm, mul_assoc, mul-one, div-one, div-le_self, shl_lt, pow-add, zero-le, ltb-false, le-ltb, ℤ, pos, negsuc, nat_lt, trunc, round_with, float_is_finite, Float, Format, nan, inf, fin, binary64, up, down, fits, prec, emax, low, round, lt, to_unsigned, lt_at, integer, zero-div}
use lib.Ieee.Exact.{HasValue, round_exact}
use lib.Ieee.Fits.{down_pos}
use lib.Ieee.Back.{round_whole}

-- how the number a / d compares with integers, and its whole part and fraction
pub record IsRatio (x : Float) (a d : ℕ) : Type 0 where
  pub divisor : 0 < d
  pub above : (n : ℕ) → lt (integer (pos n)) x ≡ nat_lt (n * d) a
  pub below : (n : ℕ) → lt x (integer (pos n)) ≡ nat_lt a (n * d)
  pub whole : to_unsigned 64 x ≡ min (a / d) (2 ^ 64 - 1)
  pub fraction : lt (trunc binary64 x) x ≡ nat_lt (a / d * d) a

-- a format's number has few digits, and is not too large
bounds : (f : Format) (s : Bool) (m : ℕ) (e : ℤ) → T (fits f (fin s m e)) → (m < 2 ^ prec f) × (m * up e < 2 ^ suc (emax f) * down e)
unfolding fits
bounds f s m e h = grind (arith, nat_tests)

-- the whole part of a format's number, rounded, is the whole part
whole_rounded : (f : Format) (s : Bool) (m : ℕ) (e : ℤ) → T (fits f (fin s m e)) → HasValue (round f s (m * up e / down e) 1) s (m * up e / down e) 1
whole_rounded f s m (negsuc k) h = round_whole f s (m * 1 / 2 ^ suc k) (omega (arith, div-le_self (m * 1) (2 ^ suc k), (bounds f s m (negsuc k) h).0))
whole_rounded f s m (pos k) h =
    rw div-one (round_exact f s (m * 2 ^ k) 1 m (k + low f) (omega arith) (bounds f s m (pos k) h).0
    (rw (pow-add 2 k (low f), ← mul_assoc m (2 ^ k) (2 ^ low f), add_comm (low f) (suc (emax f))) (shl_lt (suc (emax f)) (low f) (omega (arith, (bounds f s m (pos k) h).1))))
    (rw pow-add (omega arith)))

-- an integer's value
pub value : (n : ℕ) → HasValue (integer (pos n)) false n 1
value n = (refl, omega arith)

-- above zero or zero, without a sign
plain : (m : ℕ) (e : ℤ) → T (fits binary64 (fin false m e)) → IsRatio (fin false m e) (m * up e) (down e)
unfolding to_unsigned round_with
plain m e h =
    let x = fin false m e in
    let d = down_pos e in
    record {
      divisor = d;
      above = λ n. lt_at (integer (pos n)) x n 1 (m * up e) (down e) (omega arith) d (value n) (refl, refl) ∙ rw mul-one refl;
      below = λ n. lt_at x (integer (pos n)) (m * up e) (down e) n 1 d (omega arith) (refl, refl) (value n) ∙ rw mul-one refl;
      whole = refl;
      fraction = lt_at (round binary64 false (m * up e / down e) 1) x (m * up e / down e) 1 (m * up e) (down e) (omega arith) d (whole_rounded binary64 false m e h) (refl, refl) ∙ rw mul-one refl;
    }

-- what rounds from zero is not less than it
at_zero : (m : ℕ) (e : ℤ) → m * up e ≡ 0 → (t : Float) → HasValue t true (m * up e / down e) 1 → lt t (fin true m e) ≡ false
unfolding lt
at_zero m e z t v = grind (arith, nat_tests)

-- zero with a sign
signed_zero : (m : ℕ) (e : ℤ) → T (fits binary64 (fin true m e)) → m * up e ≡ 0 → IsRatio (fin true m e) 0 (down e)
unfolding to_unsigned round_with lt
signed_zero m e h z = grind (arith, nat_tests, down_pos, le-ltb, zero-div, at_zero, whole_rounded, zero-le)

-- a finite number that is not below zero
pub ratio : (x : Float) → float_is_finite x ≡ true → T (fits binary64 x) → lt x (integer (pos 0)) ≡ false → (a d : ℕ) × IsRatio x a d
unfolding float_is_finite lt
ratio nan f h k = absurd (true≢false (sym f))
ratio (inf s) f h k = absurd (true≢false (sym f))
ratio (fin false m e) f h k = (m * up e, down e, plain m e h)
ratio (fin true m e) f h k = (0, down e, signed_zero m e h (omega (arith, ltb-false 0 (m * up e * 1 + 0 * 1 * down e) k)))
