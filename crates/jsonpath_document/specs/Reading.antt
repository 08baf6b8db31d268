-- What a reader of bytes stands at in a document, what a byte makes of that, and which texts complete the document from there.
use Rattle.fast_float.specs.Text.{scan}
use Rattle.std.specs.Prelude.{◌≡◌, ◌==◌, ◌-◌, ◌&&◌, ◌||◌, not, ℕ, zero, suc, Bool, true, false, List, [], ◌∷◌, ◌++◌, length, drop, codes, nat_eq, nat_le, nat_lt, slice_index, if◌then◌else◌, Option, Some, None, option_map}
use Rattle.std.specs.Char.{is_ascii_digit, is_ascii_hexdigit}
use Rattle.std.specs.Int.{is_in_range}
use Rattle.std.specs.List.{list_all, slice_index_or, starts_with}
use Rattle.std.specs.Option.{is_some}
use Rattle.std.specs.Str.{IsUtf8}
use Rattle.json.specs.Token as token
use Rattle.json.specs.Lex.{Mode, between, in_word, in_string, in_escape, lex, punctuate, fresh, after_comma, after_key, after_value}
use Rattle.json.specs.Lex as places
use Rattle.json.specs.Word.{ends_word, word}
use Rattle.serde_json.specs.Read.{number_of}
use Rattle.jsonpath_document.specs.Begins.{is_d, is_escape, is_first_half, is_second_half}
use Rattle.jsonpath_document.specs.Completes.{completes}
use Rattle.jsonpath_document.specs.Place.{is_blank}
use Rattle.jsonpath_document.specs.declared.reading.Level.{Level}
use Rattle.jsonpath_document.specs.declared.reading.Level.TheVariants.{Array, Object}
use Rattle.jsonpath_document.specs.declared.reading.Next.{Next}
use Rattle.jsonpath_document.specs.declared.reading.Next.TheVariants as next
use Rattle.jsonpath_document.specs.declared.reading.Number.{Number}
use Rattle.jsonpath_document.specs.declared.reading.Number.TheVariants.{Minus, Zero, Whole, Point, Fraction, Exponent, ExponentSign, Power}
use Rattle.jsonpath_document.specs.declared.reading.Text.{Text}
use Rattle.jsonpath_document.specs.declared.reading.Text.TheVariants.{Plain, Escaped, FirstDigit, SecondDigit, ThirdDigit, FourthDigit, SecondAfterD, PairThirdDigit, PairFourthDigit, PairBackslash, PairEscaped, PairFirstDigit, PairSecondDigit}
use Rattle.jsonpath_document.specs.declared.reading.Word.{Word}
use Rattle.jsonpath_document.specs.declared.reading.Word.TheVariants.{Rue, Ue, Alse, Lse, Se, E, Ull, Ll, L}

-- ---- words, numbers and strings, a byte more

abbrev pub left_of : Word → List ℕ
left_of Rue = codes "rue"
left_of Ue = codes "ue"
left_of Alse = codes "alse"
left_of Lse = codes "lse"
left_of Se = codes "se"
left_of E = codes "e"
left_of Ull = codes "ull"
left_of Ll = codes "ll"
left_of L = codes "l"

abbrev pub some_if : {A : Type 0} → Bool → A → Option A
some_if b a = if b then Some a else None

abbrev pub after_word : Word → ℕ → Option Next
after_word Rue b = some_if (b == 114) (next.Word Ue)
after_word Ue b = some_if (b == 117) (next.Word E)
after_word Alse b = some_if (b == 97) (next.Word Lse)
after_word Lse b = some_if (b == 108) (next.Word Se)
after_word Se b = some_if (b == 115) (next.Word E)
after_word E b = some_if (b == 101) next.AfterValue
after_word Ull b = some_if (b == 117) (next.Word Ll)
after_word Ll b = some_if (b == 108) (next.Word L)
after_word L b = some_if (b == 108) next.AfterValue

abbrev pub is_exponent : ℕ → Bool
is_exponent b = b == 101 || b == 69

abbrev pub is_sign : ℕ → Bool
is_sign b = b == 45 || b == 43

abbrev pub after_number : Number → ℕ → Option Number
after_number Minus b = if b == 48 then Some Zero else some_if (is_ascii_digit b) Whole
after_number Zero b = if b == 46 then Some Point else some_if (is_exponent b) Exponent
after_number Whole b = if is_ascii_digit b then Some Whole else if b == 46 then Some Point else some_if (is_exponent b) Exponent
after_number Point b = some_if (is_ascii_digit b) Fraction
after_number Fraction b = if is_ascii_digit b then Some Fraction else some_if (is_exponent b) Exponent
after_number Exponent b = if is_sign b then Some ExponentSign else some_if (is_ascii_digit b) Power
after_number ExponentSign b = some_if (is_ascii_digit b) Power
after_number Power b = some_if (is_ascii_digit b) Power

abbrev pub may_end : Number → Bool
may_end Minus = false
may_end Zero = true
may_end Whole = true
may_end Point = false
may_end Fraction = true
may_end Exponent = false
may_end ExponentSign = false
may_end Power = true

abbrev pub after_text : Text → ℕ → Option Text
after_text Plain b = if b == 92 then Some Escaped else some_if (nat_le 32 b) Plain
after_text Escaped b = if b == 117 then Some FirstDigit else some_if (is_escape b) Plain
after_text FirstDigit b = if is_d b then Some SecondAfterD else some_if (is_ascii_hexdigit b) SecondDigit
after_text SecondDigit b = some_if (is_ascii_hexdigit b) ThirdDigit
after_text ThirdDigit b = some_if (is_ascii_hexdigit b) FourthDigit
after_text FourthDigit b = some_if (is_ascii_hexdigit b) Plain
after_text SecondAfterD b = if is_first_half b then Some PairThirdDigit else some_if (is_in_range 48 55 b) ThirdDigit
after_text PairThirdDigit b = some_if (is_ascii_hexdigit b) PairFourthDigit
after_text PairFourthDigit b = some_if (is_ascii_hexdigit b) PairBackslash
after_text PairBackslash b = some_if (b == 92) PairEscaped
after_text PairEscaped b = some_if (b == 117) PairFirstDigit
after_text PairFirstDigit b = some_if (is_d b) PairSecondDigit
after_text PairSecondDigit b = some_if (is_second_half b) ThirdDigit

abbrev pub is_plain : Text → Bool
is_plain Plain = true
is_plain Escaped = false
is_plain FirstDigit = false
is_plain SecondDigit = false
is_plain ThirdDigit = false
is_plain FourthDigit = false
is_plain SecondAfterD = false
is_plain PairThirdDigit = false
is_plain PairFourthDigit = false
is_plain PairBackslash = false
is_plain PairEscaped = false
is_plain PairFirstDigit = false
is_plain PairSecondDigit = false

-- ---- bytes beyond ASCII

-- each byte is
abbrev pub are_high : List ℕ → Bool
are_high bytes = list_all (λ byte. nat_le 128 byte) bytes

-- the bytes are characters beyond ASCII, of which the last may be cut off: with some bytes after them they are a text
abbrev pub IsCutOff : List ℕ → Type 0
IsCutOff bytes = (rest : List ℕ) × (are_high (bytes ++ rest) ≡ true) × IsUtf8 (bytes ++ rest)

-- ---- a document, a byte more

-- where a reader of bytes stands: what is open, innermost first, and what may come next
abbrev pub Standing : Type 0
Standing = List Level × Next

abbrev pub opened : Level → Next → List Level → Option Standing
opened level following levels = some_if (nat_lt (length levels) 127) (level ∷ levels, following)

-- by the first byte of a value
abbrev pub begun_by : List Level → ℕ → Option Standing
begun_by levels b = if b == 91 then opened Array next.FirstItem levels
    else if b == 123 then opened Object next.FirstName levels
    else if b == 34 then Some (levels, next.Text Plain)
    else if b == 116 then Some (levels, next.Word Rue)
    else if b == 102 then Some (levels, next.Word Alse)
    else if b == 110 then Some (levels, next.Word Ull)
    else if b == 45 then Some (levels, next.Number Minus)
    else if b == 48 then Some (levels, next.Number Zero)
    else some_if (is_ascii_digit b) (levels, next.Number Whole)

abbrev pub closed : List Level → Option Standing
closed [] = None
closed (level ∷ levels) = Some (levels, next.AfterValue)

abbrev pub after_value_byte : List Level → ℕ → Option Standing
after_value_byte [] b = None
after_value_byte (Array ∷ levels) b = if b == 44 then Some (Array ∷ levels, next.Value) else some_if (b == 93) (levels, next.AfterValue)
after_value_byte (Object ∷ levels) b = if b == 44 then Some (Object ∷ levels, next.Name) else some_if (b == 125) (levels, next.AfterValue)

abbrev pub with_levels : List Level → Option Next → Option Standing
with_levels levels o = option_map (λ n. (levels, n)) o

abbrev pub unless_blank : List Level → Next → ℕ → Option Standing → Option Standing
unless_blank levels n b o = if is_blank b then Some (levels, n) else o

-- after a byte, or none where no document goes on so
abbrev pub after_byte : List Level → Next → ℕ → Option Standing
after_byte levels next.Value b = unless_blank levels next.Value b (begun_by levels b)
after_byte levels next.FirstItem b = unless_blank levels next.FirstItem b (if b == 93 then closed levels else begun_by levels b)
after_byte levels next.FirstName b = unless_blank levels next.FirstName b (if b == 125 then closed levels else some_if (b == 34) (levels, next.NameText Plain))
after_byte levels next.Name b = unless_blank levels next.Name b (some_if (b == 34) (levels, next.NameText Plain))
after_byte levels next.Colon b = unless_blank levels next.Colon b (some_if (b == 58) (levels, next.Value))
after_byte levels next.AfterValue b = unless_blank levels next.AfterValue b (after_value_byte levels b)
after_byte levels (next.Word w) b = with_levels levels (after_word w b)
after_byte levels (next.Number n) b = with_levels levels (option_map next.Number (after_number n b))
after_byte levels (next.Text t) b = if is_plain t && b == 34 then Some (levels, next.AfterValue) else with_levels levels (option_map next.Text (after_text t b))
after_byte levels (next.NameText t) b = if is_plain t && b == 34 then Some (levels, next.Colon) else with_levels levels (option_map next.NameText (after_text t b))

-- ---- what completes a document

-- where a value may begin: after a comma in an array, else after a colon or nothing
abbrev pub value_place : List Level → places.Place
value_place [] = fresh
value_place (Array ∷ levels) = after_comma
value_place (Object ∷ levels) = fresh

abbrev pub if_text : Option Text → (Text → Bool) → Bool
if_text None k = false
if_text (Some t) k = k t

-- the rest of a string, up to its quote, stands at the front of the text
unfoldable pub ends_string : List ℕ → Text → Bool
ends_string [] t = false
ends_string (b ∷ rest) t = if is_plain t && b == 34 then true else if_text (after_text t b) (λ more. ends_string rest more)

abbrev pub mode_of : Text → Mode
mode_of Plain = in_string
mode_of Escaped = in_escape
mode_of FirstDigit = in_string
mode_of SecondDigit = in_string
mode_of ThirdDigit = in_string
mode_of FourthDigit = in_string
mode_of SecondAfterD = in_string
mode_of PairThirdDigit = in_string
mode_of PairFourthDigit = in_string
mode_of PairBackslash = in_string
mode_of PairEscaped = in_escape
mode_of PairFirstDigit = in_string
mode_of PairSecondDigit = in_string

abbrev pub is_number_token : token.Token → Bool
is_number_token token.begin_object = false
is_number_token token.end_object = false
is_number_token token.begin_array = false
is_number_token token.end_array = false
is_number_token (token.key s) = false
is_number_token (token.string s) = false
is_number_token (token.number s) = is_some (number_of s)
is_number_token (token.boolean b) = false
is_number_token token.null = false
is_number_token token.bad = false

-- The text completes a document from where a reader stands, who has read so much of a number that has begun.
unfoldable pub accepts : List Level → Next → List ℕ → List ℕ → Bool
accepts levels next.Value begun text = completes (punctuate (value_place levels) (lex between text)) true levels
accepts levels next.FirstItem begun text = completes (punctuate fresh (lex between text)) false levels
accepts levels next.FirstName begun text = completes (punctuate fresh (lex between text)) false levels
accepts levels next.Name begun text = completes (punctuate after_comma (lex between text)) false levels
accepts levels next.Colon begun text = completes (punctuate after_key (lex between text)) true levels
accepts levels next.AfterValue begun text = completes (punctuate after_value (lex between text)) false levels
accepts levels (next.Word w) begun text = (starts_with nat_eq text (left_of w) && ends_word (drop (length (left_of w)) text)) && completes (punctuate after_value (lex in_word text)) false levels
accepts levels (next.Number n) begun text = is_number_token (word (begun ++ text)) && completes (punctuate after_value (lex in_word text)) false levels
accepts levels (next.Text t) begun text = ends_string text t && completes (punctuate after_value (lex (mode_of t) text)) false levels
accepts levels (next.NameText t) begun text = ends_string text t && completes (punctuate after_key (lex (mode_of t) text)) true levels

abbrev pub accepts_from : Option Standing → List ℕ → List ℕ → Bool
accepts_from None begun text = false
accepts_from (Some s) begun text = accepts s.0 s.1 begun text

-- ---- where a reader stands who keeps what has begun of a word, a number or an escape

abbrev pub ends_before : Number → ℕ → Bool
ends_before n b = may_end n && (not (is_some (after_number n b)) && not (is_ascii_digit b))

-- what may come before a byte: it ends the number that has begun, unless that is too large
abbrev pub before_byte : Next → ℕ → List ℕ → Next
before_byte next.Value b begun = next.Value
before_byte next.FirstItem b begun = next.FirstItem
before_byte next.FirstName b begun = next.FirstName
before_byte next.Name b begun = next.Name
before_byte next.Colon b begun = next.Colon
before_byte next.AfterValue b begun = next.AfterValue
before_byte (next.Word w) b begun = next.Word w
before_byte (next.Number n) b begun = if ends_before n b && is_some (number_of begun) then next.AfterValue else next.Number n
before_byte (next.Text t) b begun = next.Text t
before_byte (next.NameText t) b begun = next.NameText t

abbrev pub is_within : Next → Bool
is_within next.Value = false
is_within next.FirstItem = false
is_within next.FirstName = false
is_within next.Name = false
is_within next.Colon = false
is_within next.AfterValue = false
is_within (next.Word w) = true
is_within (next.Number n) = true
is_within (next.Text t) = not (is_plain t)
is_within (next.NameText t) = not (is_plain t)

-- what has begun with a byte
abbrev pub begun_with : Next → ℕ → List ℕ → List ℕ
begun_with n b begun = if is_within n then begun ++ (b ∷ []) else b ∷ []

-- what is open, of so many levels that are kept
abbrev pub open_levels : List Level → ℕ → List Level
open_levels levels zero = []
open_levels levels (suc count) = slice_index_or levels count Array ∷ open_levels levels count

-- a number without its minus sign
abbrev pub without_sign : List ℕ → List ℕ
without_sign number = if slice_index number 0 == 45 then drop 1 number else number

-- a character of a string may come next, and a number has begun
abbrev pub is_in_plain : Next → Bool
is_in_plain (next.Text t) = is_plain t
is_in_plain (next.NameText t) = is_plain t
is_in_plain _ = false

abbrev pub is_number : Next → Bool
is_number (next.Number n) = true
is_number _ = false

-- more digits make a number no smaller: its exponent has begun, and has no minus sign
abbrev pub only_grows : Number → List ℕ → Bool
only_grows ExponentSign number = slice_index number (length number - 1) == 43
only_grows Power number = not (scan (without_sign number)).exponent_negative
only_grows _ number = false

-- a number is beyond the floats that has ended, or that can only grow
abbrev pub is_too_large : Next → Bool → List ℕ → Bool
is_too_large (next.Number n) has_ended number = ((has_ended && may_end n) || only_grows n number) && not (is_some (number_of number))
is_too_large _ has_ended number = false
