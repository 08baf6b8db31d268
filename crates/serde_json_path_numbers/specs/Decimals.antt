-- Doubles as decimals of few digits, and their texts.
use Rattle.std.specs.Prelude.{ℕ, zero, suc, ◌-◌, nat_lt, true, ◌+◌, ◌*◌, ◌/◌, ◌%◌, ◌^◌, ◌==◌, ◌&&◌, nat_le, ℤ, pos, negsuc, ◌+ℤ◌, unsigned_abs, Bool, false, List, [], ◌++◌, codes, Option, Some, None, if◌then◌else◌, to_bits}
use Rattle.std.specs.Option.{option_map, unwrap_or}
use Rattle.std.specs.Float.Ieee.{Float, binary64}
use Rattle.std.specs.Fmt.{decimal, signed_decimal, sign_text}
use Rattle.fast_float.specs.Rounding.{nearest_to_decimal}

-- digits * 10 ^ exponent, with a sign
pub record Decimal : Type 0 where
  pub negative : Bool
  pub digits : ℕ
  pub exponent : ℤ

-- a decimal of these parts
abbrev pub decimal_of : Bool → ℕ → ℤ → Decimal
decimal_of negative digits exponent =
    record { negative = negative; digits = digits; exponent = exponent }

-- the double nearest to it
abbrev pub decimal_number : Decimal → Float
decimal_number d = nearest_to_decimal binary64 d.negative d.digits d.exponent

-- ---- the shortest decimal

-- as many billionths as a literal may have: those of -2 ^ 63, and of 2 ^ 64 - 1
abbrev pub most_billionths : Bool → ℕ
most_billionths true = 2 ^ 63 * 1000000000
most_billionths false = (2 ^ 64 - 1) * 1000000000

-- no whole number in the range of literals, as far as the exponent tells
abbrev pub is_beyond : Bool → ℕ → ℤ → Bool
is_beyond negative digits (pos k) = nat_lt (most_billionths negative) (digits * 10 ^ (k + 9))
is_beyond negative digits (negsuc k) = true

-- The double nearest to digits * 10 ^ exponent is x, and it is no integer that a literal may be. No double that differs from 0
-- is beyond 10 ^ 1000 and its inverse.
abbrev pub reads_as : Bool → Float → ℕ → ℤ → Bool
reads_as negative x digits exponent =
    nat_lt 0 digits && is_beyond negative digits exponent
    && nat_le (unsigned_abs exponent) 1000
    && to_bits binary64 (nearest_to_decimal binary64 false digits exponent) == to_bits binary64 x

-- all digits but the last, cut there or else raised, if they are read as x
abbrev pub one_less : Bool → Float → ℕ × ℤ → Option (ℕ × ℤ)
one_less negative x (digits, exponent) =
    let next = exponent +ℤ pos 1 in
    if nat_lt digits 10 then None
    else if reads_as negative x (digits / 10) next then Some (digits / 10, next)
    else if reads_as negative x (digits / 10 + 1) next then Some (digits / 10 + 1, next)
    else None

-- one less, and again one less, as long as there is one; each time there is less to cut from
abbrev pub fewest : Bool → Float → ℕ → ℕ × ℤ → ℕ × ℤ
fewest negative x zero d = d
fewest negative x (suc k) d = unwrap_or (option_map (fewest negative x k) (one_less negative x d)) d

-- the first nineteen digits, of k at most
abbrev pub first_digits : ℕ → ℕ × ℤ → ℕ × ℤ
first_digits zero d = d
first_digits (suc k) (digits, exponent) =
    if nat_lt digits (10 ^ 19) then (digits, exponent)
    else first_digits k (digits / 10, exponent +ℤ pos 1)

-- some digits, if they are read as x
abbrev pub if_read : Bool → Float → ℕ × ℤ → Option (ℕ × ℤ)
if_read negative x d = if reads_as negative x d.0 d.1 then Some d else None

-- The fewest digits that are read as x: cut or raised, one after the other, from the first nineteen of a number of k digits on.
-- Nineteen are enough for any double, which is well known, and not shown here.
abbrev pub shortest : Bool → Float → ℕ → ℕ × ℤ → Option (ℕ × ℤ)
shortest negative x k d =
    let first = first_digits k d in if_read negative x (fewest negative x first.0 first)

-- ---- texts (RFC 9535, section 2.3.5.1)

-- so many digits, the first of which may be zeros
abbrev pub place_digits : ℕ → ℕ → List ℕ
place_digits zero n = []
place_digits (suc k) n = decimal (n / 10 ^ k) ++ place_digits k (n % 10 ^ k)

-- with a point, where that is no longer than with an exponent
abbrev pub has_point : ℕ → ℤ → Bool
has_point digits (pos e) = false
has_point digits (negsuc k) = nat_le 9 k && nat_le (10 ^ suc k) (digits * 1000)

abbrev pub size_text : ℕ → ℤ → List ℕ
size_text digits exponent =
    if has_point digits exponent then
    (decimal (digits / 10 ^ unsigned_abs exponent)
    ++ (codes "." ++ place_digits (unsigned_abs exponent) (digits % 10 ^ unsigned_abs exponent)))
    else (decimal digits ++ (codes "e" ++ signed_decimal exponent))

abbrev pub decimal_text : Decimal → List ℕ
decimal_text d = sign_text d.negative ++ size_text d.digits d.exponent
