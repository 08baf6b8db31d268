-- Numbers of literals are in range, and finite.
use Rattle.serde_json_path_numbers.proofs.Words.{nat_tests, ◌≡◌, ℕ, ◌*◌, ◌^◌, ◌<◌, Bool, true, false, T, refl, ◌∙◌, arith, lit<, to_z, of_z, ℤ, pos, int_div, unsigned_abs, Some, w128, float_is_finite, Float, binary64, round, le, units, odd, literal_double, IsInLiteralRange, NumbersAreFinite, is_exact, Integer, Double, ints, option_map, unwrap_or, null, number, of_float, literal_held}
use Rattle.serde_json_path_numbers.proofs.Forms.{finite_integer}
use lib.Ieee.Exact.{HasValue, round_exact}
use lib.Ieee.Back.{round_whole}
use lib.Ieee.Order.{round_mono}
use lib.Ieee.Fits.{round_is}

-- between two finite numbers all are finite
between : (x y z : Float) (a b : ℕ) → HasValue x false a 1 → HasValue z false b 1 → T (le x y) → T (le y z) → float_is_finite y ≡ true
unfolding le float_is_finite
between x y z a b v w h k = grind (arith, nat_tests)

-- the sign of what rounds does not matter
pub same_finite : (s : Bool) (num den : ℕ) → float_is_finite (round binary64 s num den) ≡ float_is_finite (round binary64 false num den)
unfolding float_is_finite units odd
same_finite s num den = grind (arith, nat_tests, round_is)

pub finite_rounded : (s : Bool) (n d : ℕ) → 0 < d → n < 2 ^ 64 * d → float_is_finite (round binary64 s n d) ≡ true
finite_rounded s n d D h =
    let least = round_whole binary64 false 0 (omega arith) in
    let most = round_exact binary64 false (2 ^ 64) 1 1 1138 (omega arith) (lit< tt) (lit< tt) refl in
    let size = between (round binary64 false 0 1) (round binary64 false n d) (round binary64 false (2 ^ 64) 1) 0 (2 ^ 64) least most
    (round_mono binary64 0 1 n d (omega arith) D (omega arith)) (round_mono binary64 n d (2 ^ 64) 1 D (omega arith) (omega arith)) in
    same_finite s n d ∙ size

-- a literal's size
pub size_in_range : (b : ℤ) → IsInLiteralRange b → unsigned_abs b < 2 ^ 64 * 1000000000
size_in_range b h = omega (arith, ints)

-- its whole part
pub whole_is_exact : (b whole : ℤ) → IsInLiteralRange b → whole ≡ int_div b (pos 1000000000) → is_exact (Integer (to_z w128 (of_z w128 whole))) ≡ true
whole_is_exact b whole h e = grind (arith, nat_tests)

-- its double, where it has a fraction
pub double_is_exact : (b : ℤ) (x : Float) → IsInLiteralRange b → Some x ≡ literal_double b → is_exact (Double x) ≡ true
double_is_exact b x h e = grind (arith, nat_tests, finite_rounded, size_in_range)

pub all_finite : NumbersAreFinite
all_finite = grind (arith, nat_tests, finite_integer, finite_rounded, size_in_range)

-- a literal with a fraction is held as its double
pub held_as_double : (b : ℤ) (x : Float) → IsInLiteralRange b → Some x ≡ literal_double b → unwrap_or (option_map number (of_float x)) null ≡ number (literal_held b)
held_as_double b x h e = grind (arith, nat_tests, finite_rounded, size_in_range)
