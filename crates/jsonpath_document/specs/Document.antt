-- Documents from bytes, and what may be told of a place in them.
use Rattle.std.specs.Prelude.{◌≡◌, ◌≢◌, ◌==◌, ◌<◌, ◌≤◌, ◌+◌, ◌++◌, ◌&&◌, not, ℕ, Bool, true, false, List, [], ◌∷◌, Some, length, take, drop, codes}
use Rattle.std.specs.Fmt.{decimal}
use Rattle.std.specs.Option.{is_some}
use Rattle.std.specs.Str.{IsUtf8}
use Rattle.serde_json.specs.Data.{Data}
use Rattle.serde_json.specs.Read.{read}
use Rattle.jsonpath_document.specs.declared.document.DocumentError.{DocumentError}
use Rattle.jsonpath_document.specs.declared.document.DocumentFault.{DocumentFault}
use Rattle.jsonpath_document.specs.declared.document.DocumentFault.TheVariants.{ByteOrderMark, Empty, CutShort, Comment, SingleQuote, NotFinite, TrailingComma, MissingComma, MissingColon, NameWithoutQuotes, OtherWord, LeadingZero, PlusSign, BarePoint, ControlCharacter, BadEscape, LoneSurrogate, NotUtf8, TooDeep, NumberOutOfRange, SecondDocument, NotJson, Memory}
use Rattle.jsonpath_document.specs.Begins.{begins, begins_bad_escape, begins_comment, begins_control, begins_item, begins_leading_zero}
use Rattle.jsonpath_document.specs.Begins.{begins_lone_surrogate, begins_not_finite, begins_other_word, begins_plus_sign, begins_word}
use Rattle.jsonpath_document.specs.Place.{is_bare_point, is_in_string_after, is_too_deep_at, place_after, wants_colon, wants_comma, wants_name}

-- the bytes read as this document: they are UTF-8, and its text reads as the value
abbrev pub ReadsAs : List ℕ → Data → Type 0
ReadsAs bytes d = IsUtf8 bytes × (read bytes ≡ Some d)

-- the bytes read as some document
abbrev pub IsDocument : List ℕ → Type 0
IsDocument bytes = (d : Data) × ReadsAs bytes d

-- with some bytes after them, the bytes read as a document
abbrev pub IsBeginning : List ℕ → Type 0
IsBeginning bytes = (rest : List ℕ) × IsDocument (bytes ++ rest)

-- no bytes that begin so read as a document, as bytes and as text
abbrev pub BeginsNone : List ℕ → Type 0
BeginsNone bytes = (rest : List ℕ) → is_some (read (bytes ++ rest)) ≡ false

-- ---- which fault stands at a place

-- The fault may be told of what a text has from a place on, after what stands before it. A byte order mark is 239, 187, 191, and a
-- single quote is 39.
abbrev pub stands : DocumentFault → List ℕ → List ℕ → Bool
stands ByteOrderMark before text = begins text (239 ∷ 187 ∷ 191 ∷ [])
stands Empty before text = length text == 0
stands CutShort before text = length text == 0
stands Comment before text = begins_comment text
stands SingleQuote before text = begins text (39 ∷ [])
stands NotFinite before text = begins_not_finite text
stands TrailingComma before text = begins text (codes ",")
stands MissingComma before text = wants_comma before && begins_item text
stands MissingColon before text = wants_colon before && not (begins text (codes ":"))
stands NameWithoutQuotes before text = wants_name before && begins_word text
stands OtherWord before text = begins_other_word text
stands LeadingZero before text = begins_leading_zero text
stands PlusSign before text = begins_plus_sign text
stands BarePoint before text = is_bare_point before text
stands ControlCharacter before text = is_in_string_after before && begins_control text
stands BadEscape before text = is_in_string_after before && begins_bad_escape text
stands LoneSurrogate before text = is_in_string_after before && begins_lone_surrogate text
stands Memory before text = false
stands _ before text = true

-- The fault is told at the byte that breaks the text. Others are told where what breaks later begins: a word, a number, an escape, a
-- comma, a level too deep, or a character.
abbrev pub is_at_its_byte : DocumentFault → Bool
is_at_its_byte ByteOrderMark = true
is_at_its_byte Comment = true
is_at_its_byte SingleQuote = true
is_at_its_byte MissingComma = true
is_at_its_byte MissingColon = true
is_at_its_byte NameWithoutQuotes = true
is_at_its_byte PlusSign = true
is_at_its_byte SecondDocument = true
is_at_its_byte NotJson = true
is_at_its_byte _ = false

-- the fault is none of the end, of bytes, of depth or of memory
abbrev pub IsOfByte : DocumentFault → Type 0
IsOfByte fault = (fault ≢ Empty) × (fault ≢ CutShort) × (fault ≢ NotUtf8) × (fault ≢ TooDeep) × (fault ≢ Memory)

-- such a fault stands between two texts
abbrev pub IsMetBetween : List ℕ → List ℕ → DocumentFault → Type 0
IsMetBetween before text fault = (stands fault before text ≡ true) × IsOfByte fault

-- the same after so many bytes of a text
abbrev pub IsMetAt : List ℕ → ℕ → DocumentFault → Type 0
IsMetAt text count fault =
    (count ≤ length text) × IsMetBetween (take count text) (drop count text) fault

-- ---- what is told

-- what is met, in words
abbrev pub message_of : DocumentFault → List ℕ
message_of ByteOrderMark = codes "a byte order mark, which JSON does not begin with"
message_of NotUtf8 = codes "a byte that is not UTF-8"
message_of Empty = codes "no document, the input is empty"
message_of CutShort = codes "the document ends too soon"
message_of Comment = codes "a comment, which JSON does not have"
message_of SingleQuote = codes "a single quote, where JSON has double quotes"
message_of NotFinite = codes "NaN or Infinity, which JSON does not have"
message_of TrailingComma = codes "a comma with nothing after it"
message_of MissingComma = codes "a comma is missing before this"
message_of MissingColon = codes "a colon is missing after a name"
message_of NameWithoutQuotes = codes "a name without double quotes"
message_of OtherWord = codes "a word that JSON writes as true, false or null"
message_of LeadingZero = codes "a number that begins with 0 and a digit"
message_of PlusSign = codes "a number with a plus sign before it"
message_of BarePoint = codes "a point without digits on both sides"
message_of ControlCharacter = codes "a control character in a string, where JSON has an escape as \\t"
message_of BadEscape = codes "a backslash that begins no escape of JSON"
message_of LoneSurrogate = codes "an escape of half a pair of surrogates"
message_of TooDeep = codes "more than 127 levels of arrays and objects"
message_of NumberOutOfRange = codes "a number that is too large"
message_of SecondDocument = codes "a second document (is it NDJSON? use -L)"
message_of NotJson = codes "not JSON"
message_of Memory = codes "no memory"

-- where a fault is, which refused memory is not told with
abbrev pub place_of : DocumentFault → ℕ → ℕ → List ℕ
place_of Memory line column = []
place_of _ line column = codes "line " ++ (decimal line ++ (codes ", column " ++ (decimal column ++ codes ": ")))

-- where and what, as it is displayed
abbrev pub error_text : DocumentError → List ℕ
error_text e = place_of e.fault e.line e.column ++ message_of e.fault

-- ---- where a fault is

-- the fault stands in the text: at the line, the column and the byte of what follows some text before it
abbrev pub IsFaultIn : List ℕ → DocumentError → Type 0
IsFaultIn text e = (before after : List ℕ) × (text ≡ before ++ after)
    × ((e.line, e.column) ≡ place_after before) × (e.position ≡ length before + 1)
    × (stands e.fault before after ≡ true)

-- what is told of a text that breaks at a byte
pub record IsTold (text : List ℕ) (e : DocumentError) : Type 0 where
  pub stands : e.fault ≢ Memory → IsFaultIn text e
  pub byte : (e.fault ≢ NotUtf8) × (e.fault ≢ Empty) × (e.fault ≢ CutShort)
  pub too_deep : e.fault ≡ TooDeep → is_too_deep_at text e.position ≡ true
  pub not_too_deep : e.fault ≢ Memory → e.fault ≢ TooDeep → is_too_deep_at text e.position ≡ false
  pub memory : e.fault ≡ Memory → 0 < length text
