-- The places after the point of a decimal.
use Rattle.serde_json_path_numbers.proofs.Words.{◌≡◌, ℕ, zero, suc, ◌++◌, ◌-◌, ◌/◌, ◌%◌, ◌^◌, ◌<◌, ◌≤◌, ℤ, pos, negsuc, unsigned_abs, true, refl, arith, nat_tests, decimal, pow-le-pow_right, has_point, place_digits}

power_rises : (a b : ℕ) → a ≤ b → 10 ^ a ≤ 10 ^ b
power_rises a b h = pow-le-pow_right {n = 10} (omega arith) {i = a} {j = b} h

pub power_positive : (k : ℕ) → 0 < 10 ^ k
power_positive k = omega (arith, power_rises 0 k (omega arith))

-- few places have a power of ten within 128 bits
pub power_fits : (k : ℕ) → k ≤ 22 → 10 ^ k < 2 ^ 128
power_fits k h = omega (arith, power_rises k 22 h)

-- there are few, since the digits are
pub few_places : (digits : ℕ) (exponent : ℤ) → digits < 2 ^ 64 → has_point digits exponent ≡ true → unsigned_abs exponent ≤ 22
few_places digits (pos e) h is = absurd cc
few_places digits (negsuc k) h is = grind (arith, nat_tests, power_rises 23 (suc k))

pub one_place : (places n : ℕ) → 0 < places → place_digits places n ≡ decimal (n / 10 ^ (places - 1)) ++ place_digits (places - 1) (n % 10 ^ (places - 1))
one_place zero n h = absurd (omega (arith, h))
one_place (suc k) n h = let e : suc k - 1 ≡ k = omega arith in rw e refl

pub ruleset of_places = (power_positive, power_fits, few_places, one_place)
