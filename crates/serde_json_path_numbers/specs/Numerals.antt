-- What a number literal of any length is worth (RFC 9535, section 2.3.5.1): a whole number of billionths, or the double
-- nearest to it.
use Rattle.std.specs.Prelude.{ℕ, ◌+◌, ◌-◌, ◌*◌, ◌^◌, ◌==◌, ◌&&◌, nat_le, nat_lt, ℤ, pos, negsuc, ◌-ℤ◌, Bool, false, ◌++◌, length, drop, Option, Some, None, if◌then◌else◌}
use Rattle.std.specs.Float.{float_is_finite}
use Rattle.std.specs.Float.Ieee.{Float, eq, binary64, to_unsigned}
use Rattle.std.specs.Str.Parse.{digits_value}
use Rattle.fast_float.specs.Text.{Parts, digits_of, nearest, with_sign, point_at, whole_of}
use Rattle.serde_json_path_numbers.specs.Numbers.{integer}
use Rattle.serde_json_path_numbers.specs.Decimals.{Decimal, decimal_of, shortest, most_billionths}

-- what a literal is held as
pub data Amount : Type 0 where
  billionths : ℤ → Amount
  decimal : Decimal → Amount

-- so many billionths with that sign, where a literal may have so many, or else the other
abbrev pub held_or : Bool → Option ℕ → Option Amount → Option Amount
held_or negative None other = other
held_or negative (Some n) other =
    if nat_le n (most_billionths negative) then Some (billionths (with_sign negative n)) else other

-- without an exponent, and with at most nine digits after the point
abbrev pub plain_billionths : Parts → Option ℕ
plain_billionths p =
    if length p.exponent == 0 && nat_le (length p.fraction) 9 then
    Some ((digits_value 10 p.whole * 1000000000) + (digits_value 10 p.fraction * 10 ^ (9 - length p.fraction)))
    else None

-- a whole number, in whatever spelling
abbrev pub whole_billionths : Parts → Option ℕ
whole_billionths p =
    if digits_value 10 (drop (point_at p) (p.whole ++ p.fraction)) == 0 then Some (whole_of p * 1000000000) else None

-- a double that is a whole number
abbrev pub double_billionths : Float → Option ℕ
double_billionths x =
    if eq (integer (pos (to_unsigned 64 x))) x then Some (to_unsigned 64 x * 1000000000) else None

-- a decimal with one to nine digits after the point
abbrev pub decimal_billionths : ℕ × ℤ → Option ℕ
decimal_billionths (digits, pos k) = None
decimal_billionths (digits, negsuc k) = if nat_le 9 k then None else Some (digits * 10 ^ (8 - k))

-- the power of ten by which the digits are taken, if the exponent has 64 bits; by any other a number is 0 or infinite
abbrev pub exponent_of : Parts → Option ℤ
exponent_of p =
    if nat_lt (digits_value 10 p.exponent) (2 ^ 64) then
    Some (with_sign p.exponent_negative (digits_value 10 p.exponent) -ℤ pos (length p.fraction))
    else None

-- the fewest of its digits that are read as the double
abbrev pub shortest_of : Bool → Float → Parts → Option ℤ → Option (ℕ × ℤ)
shortest_of negative x p None = None
shortest_of negative x p (Some e) = shortest negative x (length (p.whole ++ p.fraction)) (digits_of p, e)

abbrev pub held_short : Bool → Option (ℕ × ℤ) → Option Amount
held_short negative None = None
held_short negative (Some d) =
    held_or negative (decimal_billionths d)
    (Some (decimal (decimal_of negative d.0 d.1)))

-- a finite double, of which the numeral's digits are those of its text
abbrev pub held_double : Bool → Parts → Float → Option Amount
held_double negative p x =
    if float_is_finite x then
    held_or negative (double_billionths x) (held_short negative (shortest_of negative x p (exponent_of p)))
    else None

-- What a numeral with that sign is held as. There is nothing where it is beyond the greatest double.
abbrev pub held_as : Bool → Parts → Option Amount
held_as negative p =
    held_or negative (plain_billionths p)
    (held_or negative (whole_billionths p)
    (held_double negative p (nearest binary64 false p)))
