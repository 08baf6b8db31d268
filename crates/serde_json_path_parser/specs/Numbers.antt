-- Number literals, as they are read from left to right (RFC 9535, section 2.3.5.1), on lists of
-- characters: as amounts, and as texts of any length. That an amount has no exponent and one to
-- nine digits of a fraction, and its range, are this project's own rules. Each refusal is reported
-- where the literal begins: `start` bytes are left there.
use Rattle.std.specs.Prelude.{ℕ, ◌+◌, ◌-◌, ◌*◌, ◌^◌, min, nat_le, Bool, true, false, List, [], length, codes, take, drop, Option, Some, None, Ok, Err, if◌then◌else◌}
use Rattle.serde_json_path_numbers.specs.Numerals as amount
use Rattle.serde_json_path_parser.specs.Imports.{Numbers, whole_numbers, all_numbers, Literal, number, decimal, Amount, billionths, held_as, held_or, scan}
use Rattle.serde_json_path_parser.specs.declared.error.ParseErrorKind.TheVariants.{ExpectedExpression, ExponentOrEmptyFraction, FractionTooLong, NumberOutOfRange}
use Rattle.serde_json_path_parser.specs.declared.error.Context.TheVariants as context
use Rattle.serde_json_path_parser.specs.Lexical.{◌∈◌, is_at, begins, is_digit, value_from, fraction_of}
use Rattle.serde_json_path_parser.specs.Parsed.{Parsed, ◌>>=◌, with_front, refusal, front, past, refusal_at, byte_count}
use Rattle.serde_json_path_parser.specs.Parsing.{is_first_digit}

abbrev pub is_exponent : ℕ → Bool
is_exponent c = c ∈ "eE"

-- `0`, or digits that do not begin with it, as their text
abbrev pub read_whole_text : ℕ → List ℕ → Parsed (List ℕ)
read_whole_text start cs =
    if is_at "0" cs then Ok (codes "0", drop 1 cs)
    else if begins is_first_digit cs then Ok (front is_digit cs, past is_digit cs)
    else Err (refusal_at ExpectedExpression context.LongHand start)

-- the number that they write
abbrev pub read_whole : ℕ → List ℕ → Parsed ℕ
read_whole start cs = read_whole_text start cs >>= λ t. Ok (value_from 0 t.0, t.1)

-- ---- numerals of any length, each as its text

-- digits, one at least
abbrev pub read_some_digits : ℕ → List ℕ → Parsed (List ℕ)
read_some_digits start cs =
    if begins is_digit cs then Ok (front is_digit cs, past is_digit cs)
    else Err (refusal_at ExponentOrEmptyFraction context.LongHand start)

-- the first character, and what is read after it
abbrev pub after_first : (List ℕ → Parsed (List ℕ)) → List ℕ → Parsed (List ℕ)
after_first read cs = with_front (take 1 cs) (read (drop 1 cs))

-- after a whole number: a point and digits, or nothing
unfoldable pub read_places : ℕ → List ℕ → Parsed (List ℕ)
read_places start cs =
    if is_at "." cs then after_first (read_some_digits start) cs else Ok ([], cs)

abbrev pub is_sign : ℕ → Bool
is_sign c = c ∈ "-+"

-- digits, perhaps with a sign before them
unfoldable pub read_signed_digits : ℕ → List ℕ → Parsed (List ℕ)
read_signed_digits start cs =
    if begins is_sign cs then after_first (read_some_digits start) cs
    else read_some_digits start cs

-- `e` or `E` and such digits, or nothing
unfoldable pub read_exponent : ℕ → List ℕ → Parsed (List ℕ)
read_exponent start cs =
    if begins is_exponent cs then after_first (read_signed_digits start) cs else Ok ([], cs)

-- without a sign
unfoldable pub read_numeral : ℕ → List ℕ → Parsed (List ℕ)
read_numeral start cs = do
  whole ← read_whole_text start cs
  places ← with_front whole.0 (read_places start whole.1)
  with_front places.0 (read_exponent start places.1)

-- ---- amounts

-- the billionths of places that are read, which are nine at most, and no exponent after them
abbrev pub as_fraction : ℕ → List ℕ × List ℕ → Parsed ℕ
as_fraction start places =
    if begins is_exponent places.1 then
    Err (refusal_at ExponentOrEmptyFraction context.LongHand start)
    else if nat_le (length (drop 1 places.0)) 9 then
    Ok (fraction_of (drop 1 places.0), places.1)
    else Err (refusal_at FractionTooLong context.LongHand start)

-- after a whole number: a point and digits, or nothing
unfoldable pub read_fraction : ℕ → List ℕ → Parsed ℕ
read_fraction start cs = read_places start cs >>= as_fraction start

-- without a sign, in billionths
unfoldable pub read_amount : ℕ → List ℕ → Parsed ℕ
read_amount start cs = do
  whole ← read_whole start cs
  fraction ← read_fraction start whole.1
  Ok ((whole.0 * 1000000000) + fraction.0, fraction.1)

-- what is read, as a number that stops at the greatest u128
abbrev pub capped : Parsed ℕ → Parsed ℕ
capped read = read >>= λ n. Ok (min n.0 (2 ^ 128 - 1), n.1)

-- ---- number literals, by either rule

-- the literal that is held as an amount
abbrev pub literal_of : Amount → Literal
literal_of (billionths b) = number b
literal_of (amount.decimal d) = decimal d

-- the literal of an amount, if there is one, of a text that begins at start
abbrev pub as_literal : List ℕ → Option Amount → List ℕ → Parsed Literal
as_literal start None cs = Err (refusal NumberOutOfRange context.LongHand start)
as_literal start (Some a) cs = Ok (literal_of a, cs)

-- after the sign
abbrev pub read_signed : Numbers → Bool → List ℕ → List ℕ → Parsed Literal
read_signed whole_numbers negative start cs =
    read_amount (byte_count start) cs >>= λ n.
    as_literal start (held_or negative (Some n.0) None) n.1
read_signed all_numbers negative start cs =
    read_numeral (byte_count start) cs >>= λ t.
    as_literal start (held_as negative (scan t.0)) t.1

abbrev pub read_number : Numbers → List ℕ → Parsed Literal
read_number rule cs =
    if is_at "-" cs then read_signed rule true cs (drop 1 cs) else read_signed rule false cs cs
