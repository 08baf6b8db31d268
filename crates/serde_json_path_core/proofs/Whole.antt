-- Whole numbers, compared by their billionths, are compared as exact numbers.
use Rattle.serde_json_path_core.proofs.Words.{common_steps, ◌≡◌, ℤ, true, Option, Some, None, refl, sym, ap, ◌∙◌, arith, ints, int_lt, int_eq, Num, number, float, as_integer, document_number, Numbers, whole_numbers, all_numbers, Compared, amount_of, nothing, billionths, exact_of, of_both, rising_sides, same_number, same_sides, whole_of, nat_tests, eq, lt, pos, int_div, is_some, ◌*ℤ◌, unsigned, negative, as_i64, integer, literal_double, integers_less, integers_same, whole_amount, whole_number}
use Rattle.serde_json_path_core.specs.Compared.{value}

-- an integer, of so many billionths
abbrev IsInteger : Compared → ℤ → Type 0
IsInteger side amount = (z : ℤ) × (amount ≡ (z *ℤ pos 1000000000)) × (exact_of side ≡ Some (integer z))

literal_is_whole : (b amount : ℤ) → whole_of (billionths b) ≡ Some amount → (b ≡ amount) × (literal_double b ≡ None)
literal_is_whole b amount e = grind (arith, nat_tests)

is_integer : (side : Compared) (amount : ℤ) → whole_of side ≡ Some amount → IsInteger side amount
is_integer (value (number (unsigned n))) amount e = (pos n, grind (arith, ints), refl)
is_integer (value (number (negative z))) amount e = (z, grind (arith, ints), refl)
is_integer (billionths b) amount e = let whole = literal_is_whole b amount e in (int_div b (pos 1000000000), sym whole.0 ∙ whole_amount b whole.1, ap Some (whole_number b whole.1))
is_integer _ amount e = absurd cc

some_of : (o : Option ℤ) → is_some o ≡ true → (z : ℤ) × (o ≡ Some z)
some_of o e = grind (arith, nat_tests, common_steps)

-- ---- a common factor

less_scaled : (x y : ℤ) → int_lt (x *ℤ pos 1000000000) (y *ℤ pos 1000000000) ≡ int_lt x y
less_scaled x y = grind (arith, ints)

equal_scaled : (x y : ℤ) → int_eq (x *ℤ pos 1000000000) (y *ℤ pos 1000000000) ≡ int_eq x y
equal_scaled x y = grind (arith, ints)

-- ---- two sides

equal : (a b : Compared) → is_some (whole_of a) ≡ true → is_some (whole_of b) ≡ true → of_both int_eq (whole_of a) (whole_of b) ≡ of_both eq (exact_of a) (exact_of b)
equal a b is_x is_y =
    let x = some_of (whole_of a) is_x in
    let y = some_of (whole_of b) is_y in
    let left = is_integer a x.0 x.1 in
    let right = is_integer b y.0 y.1 in
    rw (x.1, y.1, left.1, right.1, left.2, right.2) (equal_scaled left.0 right.0 ∙ integers_same left.0 right.0)

rising : (a b : Compared) → is_some (whole_of a) ≡ true → is_some (whole_of b) ≡ true → of_both int_lt (whole_of a) (whole_of b) ≡ of_both lt (exact_of a) (exact_of b)
rising a b is_x is_y =
    let x = some_of (whole_of a) is_x in
    let y = some_of (whole_of b) is_y in
    let left = is_integer a x.0 x.1 in
    let right = is_integer b y.0 y.1 in
    rw (x.1, y.1, left.1, right.1, left.2, right.2) (less_scaled left.0 right.0 ∙ integers_less left.0 right.0)

-- ---- two whole numbers, by either rule

amount_of_whole : (side : Compared) (amount : ℤ) → whole_of side ≡ Some amount → amount_of side ≡ Some amount
amount_of_whole side amount e = grind (arith, nat_tests, common_steps, literal_is_whole)

pub same_whole : (numbers : Numbers) (a b : Compared) → is_some (whole_of a) ≡ true → is_some (whole_of b) ≡ true → of_both int_eq (whole_of a) (whole_of b) ≡ same_sides numbers a b
same_whole numbers a b is_x is_y = grind (arith, nat_tests, common_steps, some_of, amount_of_whole, equal)

pub rising_whole : (numbers : Numbers) (a b : Compared) (x y : ℤ) → whole_of a ≡ Some x → whole_of b ≡ Some y → int_lt x y ≡ rising_sides numbers a b
rising_whole numbers a b x y is_x is_y = grind (arith, nat_tests, common_steps, amount_of_whole, rising)

-- ---- two numbers of documents

short_integer : (n : Num) (x : ℤ) → as_i64 n ≡ Some x → (as_integer n ≡ Some x) × (document_number n ≡ integer x)
short_integer n x e = grind (arith, nat_tests, common_steps)

pub same : (numbers : Numbers) (a b : Num) (x y : ℤ) → as_i64 a ≡ Some x → as_i64 b ≡ Some y → int_eq x y ≡ same_number numbers a b
same whole_numbers a b x y is_x is_y = rw ((short_integer a x is_x).0, (short_integer b y is_y).0) refl
same all_numbers a b x y is_x is_y = rw ((short_integer a x is_x).1, (short_integer b y is_y).1) (integers_same x y)
