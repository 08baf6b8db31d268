-- The texts of locations: normalised paths (RFC 9535, section 2.7) and JSON pointers (RFC 6901, section 3).
use Prim.Native.String.{String}
use Rattle.std.specs.Prelude.{ℕ, zero, ◌+◌, ◌%◌, ◌/◌, Bool, List, [], ◌∷◌, ◌++◌, map, Option, Some, None, is_some, ◌==◌, nat_lt, slice_index, unwrap_or, if◌then◌else◌, codes}
use Rattle.std.specs.List.{flat_map}
use Rattle.std.specs.Str.{chars}
use Rattle.std.specs.Char.{encode_utf8, digit_char}
use Rattle.std.specs.Fmt.{decimal}
use Rattle.std.specs.Int.Digits.{digits_of}
use Rattle.serde_json_path_nodes.specs.Location.{Step, by_name, by_position}
use Rattle.serde_json_path_nodes.specs.declared.error.ExactlyOneError.{ExactlyOneError}
use Rattle.serde_json_path_nodes.specs.declared.error.ExactlyOneError.TheVariants.{Empty, MoreThanOne}

-- the one character of a text, as in `code "/"`
abbrev pub code : String → ℕ
code sign = slice_index (codes sign) 0

-- `\u00` and two hexadecimal digits in lower case
abbrev pub hexadecimal_escape : ℕ → List ℕ
hexadecimal_escape c = codes "\\u00" ++ digit_char (c / 16) ∷ digit_char (c % 16) ∷ []

-- the escape of a character that is not printed as it is between single quotes
abbrev pub escape_of : ℕ → Option (List ℕ)
escape_of c =
    if c == code "'" then Some (codes "\\'")
    else if c == code "\\" then Some (codes "\\\\")
    else if c == 0x08 then Some (codes "\\b")
    else if c == 0x09 then Some (codes "\\t")
    else if c == 0x0a then Some (codes "\\n")
    else if c == 0x0c then Some (codes "\\f")
    else if c == 0x0d then Some (codes "\\r")
    else if nat_lt c 0x20 then Some (hexadecimal_escape c)
    else None

-- a character as it is printed between single quotes: its escape, or itself
abbrev pub in_quotes : ℕ → List ℕ
in_quotes c = unwrap_or (escape_of c) (encode_utf8 c)

-- a character, or a byte of one, that has an escape
abbrev pub is_escaped : ℕ → Bool
is_escaped b = is_some (escape_of b)

-- a text in single quotes
abbrev pub quoted : List ℕ → List ℕ
quoted text = codes "'" ++ flat_map in_quotes (chars text) ++ codes "'"

-- a number in decimal: `0`, or its digits from the highest on, however many (std's `decimal` ends at 64)
unfoldable pub in_decimal : ℕ → List ℕ
in_decimal zero = codes "0"
in_decimal n = map (λ digit. code "0" + digit) (digits_of 10 n)

-- a step of a normalised path
abbrev pub normal_step : Step → List ℕ
normal_step (by_name name) = codes "[" ++ quoted name ++ codes "]"
normal_step (by_position position) = codes "[" ++ in_decimal position ++ codes "]"

-- the normalised path of a location
abbrev pub normal : List Step → List ℕ
normal location = codes "$" ++ flat_map normal_step location

-- a byte of a name in a pointer: `~` is `~0` and `/` is `~1`
abbrev pub in_pointer : ℕ → List ℕ
in_pointer b = if b == code "~" then codes "~0" else if b == code "/" then codes "~1" else b ∷ []

-- a step of a pointer
abbrev pub pointer_step : Step → List ℕ
pointer_step (by_name name) = codes "/" ++ flat_map in_pointer name
pointer_step (by_position position) = codes "/" ++ in_decimal position

-- the JSON pointer of a location; that of the root is empty
abbrev pub pointer : List Step → List ℕ
pointer location = flat_map pointer_step location

-- the text of an error where exactly one node was expected
abbrev pub exactly_one_text : ExactlyOneError → List ℕ
exactly_one_text Empty = codes "one node expected, found none"
exactly_one_text (MoreThanOne found) = codes "one node expected, found " ++ decimal found
