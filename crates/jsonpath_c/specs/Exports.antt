-- What the exports answer, and what they write.
use Rattle.std.specs.Prelude.{◌≡◌, ◌≢◌, ◌<◌, ◌≤◌, ◌⊎◌, ◌↔◌, ℕ, ◌==◌, if◌then◌else◌, List, [], ◌++◌, drop, length, Err}
use Rattle.jsonpath_c.specs.Words.{DocumentError, IsDocument, IsFaultIn, MemoryFault, fault_message, Numbers, all_numbers, whole_numbers, unwrap_or, IsUtf8, chars, Data, builtin_functions, IsAccepted, kind_of, position_of, IsRead, ParseError, ParseErrorKind, ExpectedRoot, BadMemberName, ExpectedClosingBracket, ExpectedEndingQuote, BadEscape, ControlCharacter, ExpectedSelector, IntegerOutOfRange, ExponentOrEmptyFraction, NumberOutOfRange, ExpectedExpression, ExpectedClosingParenthesis, ExpectedComparisonOperator, NonSingularQuery, UndefinedFunction, WrongNumberOfArguments, WrongArgumentType, WrongReturnType, NestedTooDeep, TextAfterPath, FractionTooLong, NoMemory, Query, hint_of, ReadsAs, Form, IsNoPath, CallsByPatternOn, IsReportIn}
use Rattle.jsonpath_c.specs.declared.refusal.Refusal.{Refusal}

-- ---- texts

-- A text is put: it is the first bytes of what is there then, the others are as before, and the size is its own.
abbrev pub IsPut : List ℕ → List ℕ → List ℕ → ℕ → Type 0
IsPut text old new size = (new ≡ text ++ drop (length text) old) × (size ≡ length text)

-- A text finds no room: what is there is shorter than the text, and the size is the text's.
abbrev pub FindsNoRoom : List ℕ → List ℕ → ℕ → Type 0
FindsNoRoom text old size = (length old < length text) × (size ≡ length text)

-- What a call for a text answers, with what it was lent before and after: `out` and `size`.
pub record AnswersText (Is : List ℕ → Type 0) (old_out new_out : List ℕ) (old_size new_size status : ℕ) : Type 0 where
  pub done : status ≡ 0 → (text : List ℕ) × Is text × IsPut text old_out new_out new_size
  pub no_room : status ≡ 5 → (text : List ℕ) × Is text × FindsNoRoom text old_out new_size
  pub kept_out : status ≢ 0 → new_out ≡ old_out
  pub kept_size : status ≢ 0 → status ≢ 5 → new_size ≡ old_size

-- ---- paths

-- the rule for numbers that a number names: 0 is whole numbers
abbrev pub rule_of : ℕ → Numbers
rule_of number = if number == 0 then whole_numbers else all_numbers

-- by a rule for numbers a text is a path under the built-in functions
abbrev pub IsPath : Numbers → List ℕ → Type 0
IsPath rule path = (q : Query) × IsAccepted rule builtin_functions.signature (chars path) q

-- the number of a kind of refusal; want of memory is no refusal
abbrev pub number_of : ParseErrorKind → ℕ
number_of ExpectedRoot = 1
number_of BadMemberName = 2
number_of ExpectedClosingBracket = 3
number_of ExpectedEndingQuote = 4
number_of BadEscape = 5
number_of ControlCharacter = 6
number_of ExpectedSelector = 7
number_of IntegerOutOfRange = 8
number_of ExponentOrEmptyFraction = 9
number_of NumberOutOfRange = 10
number_of ExpectedExpression = 11
number_of ExpectedClosingParenthesis = 12
number_of ExpectedComparisonOperator = 13
number_of NonSingularQuery = 14
number_of UndefinedFunction = 15
number_of WrongNumberOfArguments = 16
number_of WrongArgumentType = 17
number_of WrongReturnType = 18
number_of NestedTooDeep = 19
number_of TextAfterPath = 20
number_of FractionTooLong = 21
number_of NoMemory = 0

-- a text is read as a path with this refusal, under the built-in functions, and not for want of memory
abbrev pub IsRefusedWith : Numbers → List ℕ → ParseError → Type 0
IsRefusedWith rule path e = IsRead rule builtin_functions path (Err e) × (kind_of e ≢ NoMemory)

-- what was probably meant by a text that is refused so, or an empty text where no slip is known
abbrev pub hint_text : Numbers → List ℕ → ParseError → List ℕ
hint_text rule path e = unwrap_or (hint_of rule (kind_of e) (position_of e) path) []

-- a text is refused as a path, and this says why and where
abbrev pub IsRefusalOf : Numbers → List ℕ → Refusal → Type 0
IsRefusalOf rule path refusal = (e : ParseError)
    × IsRefusedWith rule path e × (refusal.kind ≡ number_of (kind_of e)) × (refusal.position ≡ position_of e)

-- What a call that reads a path by a rule for numbers answers, with what holds of 0, and with `refusal` before and after.
pub record AnswersPath (Done : Type 0) (rule : Numbers) (path : List ℕ) (old_refusal new_refusal : Refusal) (status : ℕ) : Type 0 where
  pub statuses : (status ≡ 0) ⊎ (status ≡ 1) ⊎ (status ≡ 4) ⊎ (status ≡ 6)
  pub done : status ≡ 0 → Done
  pub refused : status ≡ 1 → IsRefusalOf rule path new_refusal
  pub not_utf8 : (status ≡ 6) ↔ (IsUtf8 path → ⊥)
  pub kept_refusal : status ≢ 1 → new_refusal ≡ old_refusal

-- what is told of a text: of a refusal this, and of a path nothing
abbrev pub IsTold : (ParseError → List ℕ) → Numbers → List ℕ → List ℕ → Type 0
IsTold told_of rule path text =
    (IsPath rule path × (text ≡ [])) ⊎ ((e : ParseError) × IsRefusedWith rule path e × (text ≡ told_of e))

-- ---- documents

-- what is told of bytes: of a document nothing, and of any others a fault that stands in them, in words
abbrev pub IsFaultTold : List ℕ → List ℕ → Type 0
IsFaultTold bytes text = (IsDocument bytes × (text ≡ []))
    ⊎ ((e : DocumentError) × (IsDocument bytes → ⊥) × IsFaultIn bytes e × (e.fault ≢ MemoryFault) × (text ≡ fault_message e.fault))

-- ---- lines

-- What an export of lines answers, with what it was lent before and after: `out`, `size` and `refusal`.
pub record AnswersLines (form : Form) (path document old_out new_out : List ℕ) (old_size new_size : ℕ) (old_refusal new_refusal : Refusal) (status : ℕ) : Type 0 where
  pub statuses : status ≤ 6
  pub done : status ≡ 0 → (text : List ℕ) × IsReportIn form builtin_functions path document text × IsPut text old_out new_out new_size
  pub no_room : status ≡ 5 → (text : List ℕ) × IsReportIn form builtin_functions path document text × FindsNoRoom text old_out new_size
  pub path_refused : status ≡ 1 → IsRefusalOf whole_numbers path new_refusal
  pub path_first : IsUtf8 path → IsNoPath builtin_functions path → (status ≡ 1) ⊎ (status ≡ 4)
  pub not_json : status ≡ 2 → (d : Data) → ReadsAs document d → ⊥
  pub pattern_refused : status ≡ 3 → CallsByPatternOn builtin_functions path document
  pub query_last : status ≡ 3 → (d : Data) × ReadsAs document d
  pub not_utf8 : (status ≡ 6) ↔ (IsUtf8 path → ⊥)
  pub kept_out : status ≢ 0 → new_out ≡ old_out
  pub kept_size : status ≢ 0 → status ≢ 5 → new_size ≡ old_size
  pub kept_refusal : status ≢ 1 → new_refusal ≡ old_refusal
