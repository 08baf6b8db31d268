-- A literal of whole billions of billionths is that integer.
use Rattle.serde_json_path_numbers.proofs.Words.{◌≡◌, ◌+◌, ◌%◌, arith, ints, nat_tests, div-add-mod', ℤ, pos, negsuc, ◌*ℤ◌, int_div, unsigned_abs, None, integer, literal_double, literal_number}

whole_size : (b : ℤ) → literal_double b ≡ None → unsigned_abs b % 1000000000 ≡ 0
whole_size b whole = grind (arith, nat_tests)

amount_of_whole : (b : ℤ) → unsigned_abs b % 1000000000 ≡ 0 → b ≡ (int_div b (pos 1000000000) *ℤ pos 1000000000)
amount_of_whole (pos m) none = omega (arith, ints, none, div-add-mod' m 1000000000)
amount_of_whole (negsuc m) none = omega (arith, ints, none, div-add-mod' (m + 1) 1000000000)

pub whole_amount : (b : ℤ) → literal_double b ≡ None → b ≡ (int_div b (pos 1000000000) *ℤ pos 1000000000)
whole_amount b whole = amount_of_whole b (whole_size b whole)

pub whole_number : (b : ℤ) → literal_double b ≡ None → literal_number b ≡ integer (int_div b (pos 1000000000))
whole_number b whole = grind (arith, nat_tests, whole_size b whole)
