-- String literals, as they are read from left to right (RFC 9535, section 2.3.1.1), on lists of
-- characters. A bad escape is reported at its backslash: `start` bytes are left there.
use Rattle.std.specs.Prelude.{ℕ, ◌+◌, ◌-◌, ◌*◌, ◌==◌, ◌||◌, ◌&&◌, nat_le, not, Bool, List, [], ◌∷◌, drop, Ok, Err, if◌then◌else◌}
use Rattle.serde_json_path_parser.specs.Imports.{encode_utf8_all, code}
use Rattle.serde_json_path_parser.specs.declared.error.ParseErrorKind.TheVariants.{ExpectedEndingQuote, BadEscape, ControlCharacter}
use Rattle.serde_json_path_parser.specs.declared.error.Context.TheVariants as context
use Rattle.serde_json_path_parser.specs.Lexical.{◌∈◌, between, is_at, begins, is_digit, pair_of}
use Rattle.serde_json_path_parser.specs.Parsed.{Parsed, ◌>>=◌, refusal, many, refusal_at, byte_count}

-- ---- hexadecimal digits

abbrev pub is_hexadecimal : ℕ → Bool
is_hexadecimal c = is_digit c || between "A" "F" c || between "a" "f" c

abbrev pub hexadecimal_value : ℕ → ℕ
hexadecimal_value c =
    if nat_le c (code "9") then c - code "0"
    else (if nat_le c (code "F") then c - (code "A" - 10) else c - (code "a" - 10))

abbrev pub head : List ℕ → ℕ
head [] = 0
head (c ∷ cs) = c

abbrev pub read_hexadecimal : ℕ → List ℕ → Parsed ℕ
read_hexadecimal start cs =
    if begins is_hexadecimal cs then Ok (hexadecimal_value (head cs), drop 1 cs)
    else Err (refusal_at BadEscape context.LongHand start)

abbrev pub read_hex4 : ℕ → List ℕ → Parsed ℕ
read_hex4 start cs = do
  a ← read_hexadecimal start cs
  b ← read_hexadecimal start a.1
  c ← read_hexadecimal start b.1
  d ← read_hexadecimal start c.1
  Ok ((((4096 * a.0) + (256 * b.0)) + (16 * c.0)) + d.0, d.1)

-- ---- surrogates

abbrev pub is_high : ℕ → Bool
is_high n = nat_le 0xd800 n && nat_le n 0xdbff

abbrev pub is_low : ℕ → Bool
is_low n = nat_le 0xdc00 n && nat_le n 0xdfff

-- after a high surrogate: `\u` and a low one
abbrev pub read_low : ℕ → ℕ → List ℕ → Parsed ℕ
read_low start high cs =
    if is_at "\\" cs then
    (if is_at "u" (drop 1 cs) then
    (read_hex4 start (drop 1 (drop 1 cs)) >>= λ l.
    if is_low l.0 then Ok (pair_of high l.0, l.1)
    else Err (refusal_at BadEscape context.LongHand start))
    else Err (refusal_at BadEscape context.LongHand start))
    else Err (refusal_at BadEscape context.LongHand start)

-- after `\u`
abbrev pub read_unicode : ℕ → List ℕ → Parsed ℕ
read_unicode start cs = read_hex4 start cs >>= λ h.
    if is_high h.0 then read_low start h.0 h.1
    else (if is_low h.0 then Err (refusal_at BadEscape context.LongHand start) else Ok (h.0, h.1))

-- ---- pieces

-- what stands after a backslash for one character, but for `u`
abbrev pub is_letter_escape : ℕ → ℕ → Bool
is_letter_escape quote c =
    c ∈ "b" || c ∈ "f" || c ∈ "n" || c ∈ "r" || c ∈ "t" || c ∈ "/" || c ∈ "\\" || c == quote

abbrev pub letter_value : ℕ → ℕ
letter_value c =
    if c ∈ "b" then 0x08
    else (if c ∈ "f" then 0x0c
    else (if c ∈ "n" then 0x0a else (if c ∈ "r" then 0x0d else (if c ∈ "t" then 0x09 else c))))

-- at a backslash
abbrev pub read_escape : ℕ → List ℕ → Parsed ℕ
read_escape quote cs =
    if is_at "u" (drop 1 cs) then read_unicode (byte_count cs) (drop 1 (drop 1 cs))
    else (if begins (is_letter_escape quote) (drop 1 cs) then
    Ok (letter_value (head (drop 1 cs)), drop 1 (drop 1 cs))
    else Err (refusal BadEscape context.LongHand cs))

abbrev pub is_control : ℕ → Bool
is_control c = nat_le c 0x1f

abbrev pub read_piece : ℕ → List ℕ → Parsed ℕ
read_piece quote cs =
    if is_at "\\" cs then read_escape quote cs
    else (if begins is_control cs then Err (refusal ControlCharacter context.LongHand cs)
    else Ok (head cs, drop 1 cs))

-- ---- the string

abbrev pub is_inside : ℕ → ℕ → Bool
is_inside quote c = not (c == quote)

-- after the opening quote
abbrev pub read_string : ℕ → List ℕ → Parsed (List ℕ)
read_string quote cs = many (begins (is_inside quote)) (read_piece quote) cs >>= λ s.
    if begins (λ c. c == quote) s.1 then Ok (encode_utf8_all s.0, drop 1 s.1)
    else Err (refusal ExpectedEndingQuote context.LongHand s.1)
