-- The pieces of a path's text (RFC 9535, sections 2.1.1, 2.3.1.1, 2.3.3.1, 2.3.5.1, 2.5 and
-- 2.5.1.1). A text is a list of characters, each a Unicode scalar value; names and strings in trees
-- are the bytes of their characters.
use Rattle.std.specs.Prelude.{◌≡◌, ◌==◌, ℕ, suc, ◌+◌, ◌-◌, ◌*◌, ◌<◌, ◌≤◌, ◌^◌, ◌⊎◌, ◌&&◌, ◌||◌, not, nat_le, ℤ, pos, negsuc, ◌-ℤ◌, Bool, true, false, List, [], ◌∷◌, ◌++◌, length, drop, codes, slice_index, Option, Some, None, if◌then◌else◌}
use Rattle.serde_json_path_numbers.specs.Numerals.{decimal}
use Rattle.serde_json_path_parser.specs.Imports.{AllByRecursion, encode_utf8_all, code, IsInteger, IsLiteralAmount, Numbers, whole_numbers, all_numbers, Amount, billionths, held_as, scan, sign_text}
use Prim.Native.String.{String}

-- every character passes the test
abbrev pub AllPass : (ℕ → Bool) → List ℕ → Type 0
AllPass p text = AllByRecursion (λ c. p c ≡ true) text

-- the text is the joining of the texts of these
abbrev pub Joined : {A : Type 0} → (List ℕ → A → Type 0) → List ℕ → List A → Type 0
Joined is text [] = text ≡ []
Joined is text (x ∷ xs) = (a b : List ℕ) × is a x × Joined is b xs × (text ≡ a ++ b)

-- the text begins with a character that passes the test
abbrev pub begins : (ℕ → Bool) → List ℕ → Bool
begins p [] = false
begins p (c ∷ cs) = p c

-- the character is one of these, as in `c ∈ ".["`
abbrev pub is_one_of : ℕ → List ℕ → Bool
is_one_of c [] = false
is_one_of c (d ∷ []) = c == d
is_one_of c (d ∷ e ∷ rest) = c == d || is_one_of c (e ∷ rest)

infix 60 ◌∈◌
abbrev pub ◌∈◌ : ℕ → String → Bool
c ∈ signs = is_one_of c (codes signs)

-- the character is one of those from the first to the last, as in `between "0" "9" c`
abbrev pub between : String → String → ℕ → Bool
between first last c = nat_le (code first) c && nat_le c (code last)

-- the text begins with these two characters
abbrev pub begins_both : ℕ → ℕ → List ℕ → Bool
begins_both a b cs = begins (λ c. c == a) cs && begins (λ c. c == b) (drop 1 cs)

-- the text begins with this character, as in `is_at "."`, and with these two, as in `are_at "&&"`
abbrev pub is_at : String → List ℕ → Bool
is_at sign cs = begins (λ c. c == code sign) cs

abbrev pub are_at : String → List ℕ → Bool
are_at signs cs = begins_both (code signs) (slice_index (codes signs) 1) cs

-- ---- blanks (section 2.1.1): space, tab, line feed and carriage return

abbrev pub is_blank : ℕ → Bool
is_blank c = c ∈ " \t\n\r"

abbrev pub IsBlank : List ℕ → Type 0
IsBlank text = AllPass is_blank text

-- ---- segments (section 2.5)

-- a segment begins with one of these
abbrev pub opens : ℕ → Bool
opens c = c ∈ ".["

-- ---- member names (section 2.5.1.1)

abbrev pub is_digit : ℕ → Bool
is_digit c = between "0" "9" c

-- a letter, `_` or a character beyond ASCII
abbrev pub is_name_first : ℕ → Bool
is_name_first c = between "A" "Z" c || between "a" "z" c || c ∈ "_" || nat_le 128 c

abbrev pub is_name_char : ℕ → Bool
is_name_char c = is_name_first c || is_digit c

-- the text is a member name of these bytes
pub record IsName (text bytes : List ℕ) : Type 0 where
  pub first : begins is_name_first text ≡ true
  pub passes : AllPass is_name_char text
  pub bytes_of : bytes ≡ encode_utf8_all text

-- ---- function names (section 2.4)

abbrev pub is_small_letter : ℕ → Bool
is_small_letter c = between "a" "z" c

abbrev pub is_function_char : ℕ → Bool
is_function_char c = is_small_letter c || c ∈ "_" || is_digit c

pub record IsFunctionName (text bytes : List ℕ) : Type 0 where
  pub first : begins is_small_letter text ≡ true
  pub passes : AllPass is_function_char text
  pub bytes_of : bytes ≡ text

-- ---- integers (section 2.3.3.1)

-- the number that these digits write after the digits of n
abbrev pub value_from : ℕ → List ℕ → ℕ
value_from n [] = n
value_from n (d ∷ ds) = value_from ((n * 10) + (d - code "0")) ds

-- `0`, or digits that do not begin with it
pub record IsDecimal (text : List ℕ) (n : ℕ) : Type 0 where
  pub first : begins is_digit text ≡ true
  pub passes : AllPass is_digit text
  pub plain : (text ≡ codes "0") ⊎ (is_at "0" text ≡ false)
  pub value_of : n ≡ value_from 0 text

-- an `int`: a decimal number, or `-` and one that is not 0
abbrev pub IsIntText : List ℕ → ℤ → Type 0
IsIntText text (pos n) = IsDecimal text n
IsIntText text (negsuc n) =
    (digits : List ℕ) × IsDecimal digits (suc n) × (text ≡ codes "-" ++ digits)

-- an index, or a part of a slice
abbrev pub IsInt : List ℕ → ℤ → Type 0
IsInt text i = IsIntText text i × IsInteger i

-- ---- number literals (section 2.3.5.1); that there is no exponent, that a fraction has at most
-- nine digits, and the range are this project's own rules

-- the billionths that the digits after a point write
abbrev pub fraction_of : List ℕ → ℕ
fraction_of digits = (value_from 0 digits) * (10 ^ (9 - length digits))

-- no fraction, or a point and one to nine digits; the fraction in billionths
abbrev pub IsFraction : List ℕ → ℕ → Type 0
IsFraction text n =
    ((text ≡ []) × (n ≡ 0))
    ⊎ ((digits : List ℕ) × (text ≡ codes "." ++ digits) × AllPass is_digit digits
    × (1 ≤ length digits) × (length digits ≤ 9) × (n ≡ fraction_of digits))

-- a decimal number and its fraction, in billionths
abbrev pub IsAmount : List ℕ → ℕ → Type 0
IsAmount text n = (a b : List ℕ) × (whole fraction : ℕ) × IsDecimal a whole × IsFraction b fraction
    × (text ≡ a ++ b) × (n ≡ (whole * 1000000000) + fraction)

-- a number with or without `-`, of -2 ^ 63 to 2 ^ 64 - 1; `-0` is 0
abbrev pub IsNumber : List ℕ → ℤ → Type 0
IsNumber text amount =
    ((n : ℕ) × ((IsAmount text n × (amount ≡ pos n))
    ⊎ ((digits : List ℕ) × IsAmount digits n × (text ≡ codes "-" ++ digits)
    × (amount ≡ (pos 0 -ℤ pos n))))) × IsLiteralAmount amount

-- ---- numerals (section 2.3.5.1): a number as the RFC has it, without a sign

-- digits, one at least
abbrev pub AreDigits : List ℕ → Type 0
AreDigits text = AllPass is_digit text × (1 ≤ length text)

-- a point and digits, or nothing
abbrev pub IsPlaces : List ℕ → Type 0
IsPlaces text =
    (text ≡ []) ⊎ ((digits : List ℕ) × AreDigits digits × (text ≡ codes "." ++ digits))

-- digits, perhaps with `-` or `+` before them
abbrev pub AreSignedDigits : List ℕ → Type 0
AreSignedDigits text =
    AreDigits text
    ⊎ ((sign : ℕ) × (digits : List ℕ) × ((sign ∈ "-+") ≡ true) × AreDigits digits
    × (text ≡ sign ∷ digits))

-- `e` or `E` and such digits, or nothing
abbrev pub IsExponent : List ℕ → Type 0
IsExponent text =
    (text ≡ [])
    ⊎ ((e : ℕ) × (digits : List ℕ) × ((e ∈ "eE") ≡ true) × AreSignedDigits digits
    × (text ≡ e ∷ digits))

-- a whole part, and perhaps places and an exponent
abbrev pub IsNumeral : List ℕ → Type 0
IsNumeral text =
    (a b c : List ℕ) × (n : ℕ) × IsDecimal a n × IsPlaces b × IsExponent c
    × (text ≡ a ++ (b ++ c))

-- a numeral, perhaps after `-`, and what it is held as
abbrev pub IsNumeralOf : List ℕ → Amount → Type 0
IsNumeralOf text amount =
    (negative : Bool) × (numeral : List ℕ) × IsNumeral numeral
    × (text ≡ sign_text negative ++ numeral)
    × (held_as negative (scan numeral) ≡ Some amount)

-- a number literal: by whole numbers one of at most nine places, and without an exponent, in the
-- range; by all numbers any that the RFC has, up to the greatest double
abbrev pub IsNumberLiteral : Numbers → List ℕ → Amount → Type 0
IsNumberLiteral whole_numbers text (billionths b) = IsNumber text b
IsNumberLiteral whole_numbers text (decimal d) = ⊥
IsNumberLiteral all_numbers text amount = IsNumeralOf text amount

-- ---- strings (section 2.3.1.1)

-- the value of a hexadecimal digit of either case
abbrev pub hexadecimal_of : ℕ → Option ℕ
hexadecimal_of c =
    if is_digit c then Some (c - code "0")
    else if between "A" "F" c then Some (c - (code "A" - 10))
    else if between "a" "f" c then Some (c - (code "a" - 10))
    else None

-- four hexadecimal digits
abbrev pub IsHex4 : List ℕ → ℕ → Type 0
IsHex4 text n = (a b c d p q r s : ℕ) × (text ≡ a ∷ b ∷ c ∷ d ∷ [])
    × (hexadecimal_of a ≡ Some p) × (hexadecimal_of b ≡ Some q)
    × (hexadecimal_of c ≡ Some r) × (hexadecimal_of d ≡ Some s)
    × (n ≡ (((4096 * p) + (256 * q)) + (16 * r)) + s)

-- the character of a pair of surrogates
abbrev pub pair_of : ℕ → ℕ → ℕ
pair_of high low = (0x10000 + (0x400 * (high - 0xd800))) + (low - 0xdc00)

-- what stands after a backslash for one character, but for `u` and the quote
abbrev pub escaped_by : ℕ → Option ℕ
escaped_by c =
    if c ∈ "b" then Some 0x08
    else if c ∈ "f" then Some 0x0c
    else if c ∈ "n" then Some 0x0a
    else if c ∈ "r" then Some 0x0d
    else if c ∈ "t" then Some 0x09
    else if c ∈ "/" then Some (code "/")
    else if c ∈ "\\" then Some (code "\\")
    else None

-- a character that stands for itself: from U+0020 on, but for the backslash and the quote round
-- the string
abbrev pub is_plain : ℕ → ℕ → Bool
is_plain quote c = nat_le 0x20 c && not (c ∈ "\\") && not (c == quote)

-- a piece of a string in these quotes, and the one character that it stands for
pub data IsPiece (quote : ℕ) : List ℕ → ℕ → Type 0 where
  plain : (c : ℕ) → is_plain quote c ≡ true → IsPiece quote (c ∷ []) c
  quote_escape : IsPiece quote (codes "\\" ++ quote ∷ []) quote
  letter_escape : (letter c : ℕ) → escaped_by letter ≡ Some c
      → IsPiece quote (codes "\\" ++ letter ∷ []) c
  hex_escape : (digits : List ℕ) (c : ℕ) → IsHex4 digits c → (c < 0xd800) ⊎ (0xdfff < c)
      → IsPiece quote (codes "\\u" ++ digits) c
  -- the surrogates of a pair: the high one is D800 to DBFF, the low one DC00 to DFFF
  pair_escape : (a b : List ℕ) (high low : ℕ) → IsHex4 a high → IsHex4 b low
      → (0xd800 ≤ high) × (high ≤ 0xdbff) → (0xdc00 ≤ low) × (low ≤ 0xdfff)
      → IsPiece quote ((codes "\\u" ++ a) ++ (codes "\\u" ++ b)) (pair_of high low)

abbrev pub IsQuote : ℕ → Type 0
IsQuote quote = (quote ≡ code "'") ⊎ (quote ≡ code "\"")

-- a string in single or double quotes of these bytes
abbrev pub IsString : List ℕ → List ℕ → Type 0
IsString text bytes =
    (quote : ℕ) × (inside characters : List ℕ) × IsQuote quote × Joined (IsPiece quote) inside characters
    × (text ≡ quote ∷ (inside ++ quote ∷ [])) × (bytes ≡ encode_utf8_all characters)
