-- Places in texts: lines and columns, what is open there, and what stands before.
use Rattle.std.specs.Prelude.{◌==◌, ◌+◌, ◌-◌, ◌&&◌, ◌||◌, not, ℕ, Bool, false, List, fold, take, drop, codes, nat_le, nat_lt, if◌then◌else◌}
use Rattle.std.specs.Char.{is_ascii_digit}
use Rattle.std.specs.List.{list_all}
use Rattle.jsonpath_document.specs.Begins.{begins, byte_at}

-- ---- lines and columns

-- the byte goes on with a character of UTF-8 that has begun
abbrev pub is_continuation : ℕ → Bool
is_continuation byte = nat_le 128 byte && nat_lt byte 192

-- a line and a column, and those of what follows a byte there: a line feed (10) ends its line
abbrev pub place_past : ℕ × ℕ → ℕ → ℕ × ℕ
place_past place byte = if byte == 10 then (place.0 + 1, 1)
    else if is_continuation byte then place else (place.0, place.1 + 1)

-- the line and the column, both from 1, of what follows a text
abbrev pub place_after : List ℕ → ℕ × ℕ
place_after text = fold place_past (1, 1) text

-- ---- what is open at a place, and what stands before it

-- What is open after some bytes of JSON: how many arrays and objects, whether a string is, and whether the next byte is escaped
-- in it. A backslash is 92, a quote 34, brackets are 91 and 93, braces 123 and 125.
abbrev pub open_past : ℕ × Bool × Bool → ℕ → ℕ × Bool × Bool
open_past opened byte = if opened.2 then (opened.0, opened.1, false)
    else if byte == 92 then (opened.0, opened.1, opened.1)
    else if byte == 34 then (opened.0, not opened.1, false)
    else if opened.1 then opened
    else if byte == 91 || byte == 123 then (opened.0 + 1, false, false)
    else if byte == 93 || byte == 125 then (opened.0 - 1, false, false)
    else opened

abbrev pub opened_after : List ℕ → ℕ × Bool × Bool
opened_after bytes = fold open_past (0, false, false) bytes

-- how many arrays and objects are open after some bytes
abbrev pub levels_after : List ℕ → ℕ
levels_after bytes = (opened_after bytes).0

-- a place after some bytes is in a string, and not right after a backslash in it
abbrev pub is_in_string_after : List ℕ → Bool
is_in_string_after bytes = let opened = opened_after bytes in opened.1 && not opened.2

-- RFC 8259, section 2: space, tab, line feed, carriage return
abbrev pub is_blank : ℕ → Bool
is_blank byte = byte == 32 || (byte == 9 || (byte == 10 || byte == 13))

abbrev pub are_blank : List ℕ → Bool
are_blank bytes = list_all is_blank bytes

-- What stands before a place, for arrays and objects within so many: what is open; the last byte that is outside of strings and
-- no blank (of a string, its quote); that byte before the last string; the bracket or brace that opened this many. 0 for none.
abbrev pub before_past : ℕ → (ℕ × Bool × Bool) × ℕ × ℕ × ℕ → ℕ → (ℕ × Bool × Bool) × ℕ × ℕ × ℕ
before_past levels b byte = let opened = open_past b.0 byte in (
  opened,
  if b.0.1 || is_blank byte then b.1 else byte,
  if not b.0.1 && byte == 34 then b.1 else b.2,
  if nat_lt b.0.0 opened.0 && opened.0 == levels then byte else b.3,
)

abbrev pub before_in : ℕ → List ℕ → (ℕ × Bool × Bool) × ℕ × ℕ × ℕ
before_in levels bytes = fold (before_past levels) ((0, false, false), 0, 0, 0) bytes

-- what stands before a place that follows some bytes
abbrev pub before_of : List ℕ → (ℕ × Bool × Bool) × ℕ × ℕ × ℕ
before_of bytes = before_in (levels_after bytes) bytes

-- a name has its place right after these: a brace that opens (123), or a comma (44)
abbrev pub is_before_name : ℕ → Bool
is_before_name byte = byte == 123 || byte == 44

-- a value ends by a quote, a bracket, a brace, a digit, or the last letter of true, false or null
abbrev pub ends_value : ℕ → Bool
ends_value byte = byte == 34 || (byte == 93 || (byte == 125 || (byte == 101 || (byte == 108
    || is_ascii_digit byte))))

-- where a value has its place: at the front, after the bracket of an array, a colon, or a comma in an array
abbrev pub wants_value : List ℕ → Bool
wants_value bytes = let b = before_of bytes in
    not b.0.1 && (b.1 == 0 || (b.1 == 91 || (b.1 == 58 || (b.1 == 44 && b.3 == 91))))

-- in an object, where a name has its place
abbrev pub wants_name : List ℕ → Bool
wants_name bytes = let b = before_of bytes in
    not b.0.1 && (b.3 == 123 && is_before_name b.1)

-- in an object, right after a name
abbrev pub wants_colon : List ℕ → Bool
wants_colon bytes = let b = before_of bytes in
    not b.0.1 && (b.3 == 123 && (b.1 == 34 && is_before_name b.2))

-- in an array or an object, right after a value
abbrev pub wants_comma : List ℕ → Bool
wants_comma bytes = let b = before_of bytes in
    not b.0.1 && (nat_lt 0 b.0.0 && (ends_value b.1
    && not (b.3 == 123 && (b.1 == 34 && is_before_name b.2))))

-- RFC 8259, section 6: a point has digits on both sides; here only one of them is so
abbrev pub is_bare_point : List ℕ → List ℕ → Bool
is_bare_point before after = let follows = is_ascii_digit (byte_at after 1) in
    begins after (codes ".")
    && (if is_ascii_digit (before_of before).1 then not follows else follows)

-- ---- what is too deep

-- another array or object begins after so many bytes of a text, within 127 that are open
abbrev pub is_too_deep_after : List ℕ → ℕ → Bool
is_too_deep_after text count =
    (begins (drop count text) (codes "[") || begins (drop count text) (codes "{"))
    && (nat_le 127 (levels_after (take count text)) && wants_value (take count text))

-- the same at a byte of a text, from 1
abbrev pub is_too_deep_at : List ℕ → ℕ → Bool
is_too_deep_at text position = is_too_deep_after text (position - 1)
