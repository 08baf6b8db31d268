-- Exact numbers of documents and literals, and how they compare.
use Rattle.std.specs.Prelude.{suc, ◌*◌, ◌-◌, ◌%◌, ◌^◌, ◌==◌, false, true, IsTrue, Option, None, Some, if◌then◌else◌, ℤ, pos, negsuc, ◌-ℤ◌, ◌≤ℤ◌, int_lt, int_div, unsigned_abs}
use Rattle.std.specs.Float.Ieee.{Float, fin, eq, lt, binary64}
use Rattle.fast_float.specs.Rounding.{nearest_to_decimal}
use Rattle.serde_json.specs.Data.{Num, unsigned, negative, float}
use Rattle.serde_json.specs.Find.{of_integer}

-- the integer as an exact number
abbrev pub integer : ℤ → Float
integer (pos n) = fin false n (pos 0)
integer (negsuc n) = fin true (suc n) (pos 0)

-- the exact number that a document's number denotes
abbrev pub document_number : Num → Float
document_number (unsigned n) = integer (pos n)
document_number (negative z) = integer z
document_number (float x) = x

-- the exact number of a literal of that many billionths: the integer, or else the nearest double
abbrev pub literal_number : ℤ → Float
literal_number b =
    if unsigned_abs b % 1000000000 == 0 then integer (int_div b (pos 1000000000))
    else nearest_to_decimal binary64 (int_lt b (pos 0)) (unsigned_abs b) (negsuc 8)

-- the double nearest to a literal of that many billionths that has a fraction
abbrev pub literal_double : ℤ → Option Float
literal_double b =
    if unsigned_abs b % 1000000000 == 0 then None
    else Some (nearest_to_decimal binary64 (int_lt b (pos 0)) (unsigned_abs b) (negsuc 8))

-- the number that a document would hold for a literal of that many billionths
abbrev pub literal_held : ℤ → Num
literal_held b =
    if unsigned_abs b % 1000000000 == 0 then of_integer (int_div b (pos 1000000000))
    else float (nearest_to_decimal binary64 (int_lt b (pos 0)) (unsigned_abs b) (negsuc 8))

-- a literal's number is from -2 ^ 63 to 2 ^ 64 - 1; this is in billionths
abbrev pub IsInLiteralRange : ℤ → Type 0
IsInLiteralRange b = ((pos 0 -ℤ pos (2 ^ 63 * 1000000000)) ≤ℤ b) × (b ≤ℤ pos ((2 ^ 64 - 1) * 1000000000))

-- the two are the same number
abbrev pub AreEqualNumbers : Float → Float → Type 0
AreEqualNumbers x y = IsTrue (eq x y)

-- the first is less than the second
abbrev pub IsLessNumber : Float → Float → Type 0
IsLessNumber x y = IsTrue (lt x y)
