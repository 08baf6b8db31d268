-- What texts begin by: comments, words, numbers and escapes that JSON has or has not.
use Rattle.std.specs.Prelude.{◌==◌, ◌+◌, ◌&&◌, ◌||◌, not, ℕ, Bool, List, [], ◌∷◌, length, take, drop, codes, nat_eq, nat_le, nat_lt, if◌then◌else◌}
use Rattle.std.specs.Char.{is_ascii_alphanumeric, is_ascii_digit, is_ascii_hexdigit}
use Rattle.std.specs.List.{slice_index_or, starts_with}
use Rattle.std.specs.Str.{str_eq_ignore_ascii_case}

-- the text begins so
abbrev pub begins : List ℕ → List ℕ → Bool
begins text front = starts_with nat_eq text front

abbrev pub begins_comment : List ℕ → Bool
begins_comment text =
    begins text (codes "//") || (begins text (codes "/*") || begins text (codes "#"))

abbrev pub begins_not_finite : List ℕ → Bool
begins_not_finite text = begins text (codes "NaN") || (begins text (codes "Infinity")
    || (begins text (codes "-Infinity") || (begins text (codes "-NaN")
    || (begins text (codes "+Infinity") || begins text (codes "+NaN")))))

-- the byte that follows so many of a text, or 0
abbrev pub byte_at : List ℕ → ℕ → ℕ
byte_at text count = slice_index_or text count 0

-- a word of another language, or a name without quotes: by a letter, a digit, a sign of these, or beyond ASCII
abbrev pub begins_word : List ℕ → Bool
begins_word text = let byte = byte_at text 0 in
    is_ascii_alphanumeric byte || (byte == 95 || (byte == 36 || nat_le 128 byte))

-- what begins as a value does, or as a name without quotes
abbrev pub begins_item : List ℕ → Bool
begins_item text = begins_word text || (begins text (codes "{") || (begins text (codes "[")
    || (begins text (34 ∷ []) || begins text (codes "-"))))

-- the text begins by the word, in capitals or small letters, and the word ends there
abbrev pub begins_as : List ℕ → List ℕ → Bool
begins_as text word = nat_le (length word) (length text)
    && (str_eq_ignore_ascii_case (take (length word) text) word
    && not (begins_word (drop (length word) text)))

abbrev pub begins_other_word : List ℕ → Bool
begins_other_word text = begins_as text (codes "true") || (begins_as text (codes "false")
    || (begins_as text (codes "null") || begins_as text (codes "none")))

-- RFC 8259, section 6: no digit follows a zero that a number begins with, minus sign or not
abbrev pub begins_leading_zero : List ℕ → Bool
begins_leading_zero text = let sign = if begins text (codes "-") then 1 else 0 in
    byte_at text sign == 48 && is_ascii_digit (byte_at text (sign + 1))

-- RFC 8259, section 6: a number has no plus sign before it
abbrev pub begins_plus_sign : List ℕ → Bool
begins_plus_sign text = begins text (codes "+")
    && (is_ascii_digit (byte_at text 1) || byte_at text 1 == 46)

-- RFC 8259, section 7: characters before the space are escaped
abbrev pub begins_control : List ℕ → Bool
begins_control text = nat_lt 0 (length text) && nat_lt (byte_at text 0) 32

-- four hexadecimal digits follow so many bytes of a text
abbrev pub has_hex : List ℕ → ℕ → Bool
has_hex text count = is_ascii_hexdigit (byte_at text count)
    && (is_ascii_hexdigit (byte_at text (count + 1))
    && (is_ascii_hexdigit (byte_at text (count + 2))
    && is_ascii_hexdigit (byte_at text (count + 3))))

-- RFC 8259, section 7: one of "\/bfnrt, or u and four digits
abbrev pub is_escape : ℕ → Bool
is_escape byte = byte == 34 || (byte == 92 || (byte == 47 || (byte == 98 || (byte == 102
    || (byte == 110 || (byte == 114 || byte == 116))))))

abbrev pub begins_bad_escape : List ℕ → Bool
begins_bad_escape text = begins text (codes "\\")
    && not (is_escape (byte_at text 1) || (byte_at text 1 == 117 && has_hex text 2))

-- the digits after a \u, as they begin for a first half of a pair, from d800 to dbff, and for a second, from dc00 to dfff
abbrev pub is_d : ℕ → Bool
is_d byte = byte == 68 || byte == 100

abbrev pub is_first_half : ℕ → Bool
is_first_half byte = byte == 56 || (byte == 57 || (byte == 65 || (byte == 66
    || (byte == 97 || byte == 98))))

abbrev pub is_second_half : ℕ → Bool
is_second_half byte = (nat_le 67 byte && nat_le byte 70) || (nat_le 99 byte && nat_le byte 102)

-- RFC 8259, section 7: the escape of a half of a pair, which a text has from so many bytes on
abbrev pub has_first_half : List ℕ → ℕ → Bool
has_first_half text count = byte_at text count == 92 && (byte_at text (count + 1) == 117
    && (is_d (byte_at text (count + 2)) && is_first_half (byte_at text (count + 3))))

abbrev pub has_second_half : List ℕ → ℕ → Bool
has_second_half text count = byte_at text count == 92 && (byte_at text (count + 1) == 117
    && (is_d (byte_at text (count + 2)) && is_second_half (byte_at text (count + 3))))

-- half a pair without the other half after it
abbrev pub begins_lone_surrogate : List ℕ → Bool
begins_lone_surrogate text = has_second_half text 0
    || (has_first_half text 0 && not (has_second_half text 6))
