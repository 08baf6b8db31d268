-- What is shown of inputs.
use Rattle.std.specs.Char.{is_ascii_whitespace}
use Rattle.std.specs.Io.BufRead.{strip_last}
use Rattle.std.specs.List.{list_all}
use Rattle.std.specs.Prelude.{◌≡◌, ◌==◌, ◌<◌, ◌+◌, ℕ, Bool, false, List, [], ◌∷◌, ◌++◌, drop, get_or, length, nat_le, if◌then◌else◌, IfSome, MatchBool, Option, None, Some}
use Rattle.jsonpath_document.specs.Begins.{begins}
use Rattle.jpq_program.specs.Answers.{AreEach}

-- what is shown of a document: of its input's name, the number of its line in that, its bytes, and how many nodes were shown before it,
-- the text, and how many nodes are shown
abbrev pub Shown : Type 1
Shown = List ℕ → ℕ → List ℕ → ℕ → List ℕ → ℕ → Type 0

-- as many nodes were shown as are wanted
abbrev pub has_enough : Option ℕ → ℕ → Bool
has_enough None count = false
has_enough (Some most) count = nat_le most count

-- the same where so many nodes are wanted of all documents: of one before which there are enough nothing is shown
abbrev pub IsUntil : Option ℕ → Shown → Shown
IsUntil most Is name number bytes before text count =
    MatchBool (has_enough most before) ((text ≡ []) × (count ≡ 0)) (Is name number bytes before text count)

-- the bytes after a byte order mark, which a reader may pass over (RFC 8259, section 8.1)
abbrev pub without_mark : List ℕ → List ℕ
without_mark bytes = if begins bytes (239 ∷ 187 ∷ 191 ∷ []) then drop 3 bytes else bytes

-- lines of which the first has one more byte before it
abbrev pub with_byte : ℕ → List (List ℕ) → List (List ℕ)
with_byte byte [] = (byte ∷ []) ∷ []
with_byte byte (line ∷ lines) = (byte ∷ line) ∷ lines

-- the lines of a text, each with its line feed; the last one may have none
abbrev pub lines_of : List ℕ → List (List ℕ)
lines_of [] = []
lines_of (byte ∷ bytes) = if byte == 10 then (byte ∷ []) ∷ lines_of bytes else with_byte byte (lines_of bytes)

-- a line has blanks alone
abbrev pub is_blank : List ℕ → Bool
is_blank line = list_all is_ascii_whitespace line

-- what is shown of a line: of its document, or nothing where it is blank
abbrev pub IsLineShown : Shown → List ℕ → ℕ → List ℕ → ℕ → List ℕ → ℕ → Type 0
IsLineShown Is name number line before text count =
    MatchBool (is_blank line) ((text ≡ []) × (count ≡ 0)) (Is name number (without_mark (strip_last 10 line)) before text count)

-- what is shown of an input: of each of its lines, or of the one document that it is
abbrev pub IsInputShown : Shown → Bool → List ℕ → List ℕ → ℕ → List ℕ → ℕ → Type 0
IsInputShown Is lines name bytes before text count =
    MatchBool lines (AreEach (λ number so_far line. IsLineShown Is name number line so_far) 1 before (lines_of bytes) text count)
    (Is name 1 (without_mark bytes) before text count)

-- what is shown of the input of a name, by what is known of the bytes of each
abbrev pub IsNamedShown : Shown → Bool → (List ℕ → Option (List ℕ)) → List ℕ → ℕ → List ℕ → ℕ → Type 0
IsNamedShown Is lines bytes_of name before text count =
    (bytes : List ℕ) × (bytes_of name ≡ Some bytes) × IsInputShown Is lines name bytes before text count

-- the same of several inputs, in order
abbrev pub AreInputsShown : Shown → Bool → (List ℕ → Option (List ℕ)) → List (List ℕ) → ℕ → List ℕ → ℕ → Type 0
AreInputsShown Is lines bytes_of names before text count =
    AreEach (λ number so_far name. IsNamedShown Is lines bytes_of name so_far) 1 before names text count

-- the bytes of each input are known
abbrev pub AreKnown : (List ℕ → Option (List ℕ)) → List (List ℕ) → Type 0
AreKnown bytes_of names = (i : ℕ) → i < length names → (bytes : List ℕ) × (bytes_of (get_or names i []) ≡ Some bytes)

-- after those that were opened before these were opened, in order; of where it is not known nothing is said
abbrev pub Opens : Option (List (List ℕ)) → Option (List (List ℕ)) → List (List ℕ) → Type 0
Opens before after names = IfSome after (λ later.
    (earlier : List (List ℕ)) × (before ≡ Some earlier) × (later ≡ earlier ++ names))

-- the same of the first of these, up to some
abbrev pub OpensFirst : Option (List (List ℕ)) → Option (List (List ℕ)) → List (List ℕ) → Type 0
OpensFirst before after names =
    (firsts others : List (List ℕ)) × (names ≡ firsts ++ others) × Opens before after firsts

-- The inputs that are opened where so many nodes are wanted of all, by what is shown of each: none after so many that these are enough,
-- else the first, and then those after it.
abbrev pub AreWanted : Option ℕ → (List ℕ → ℕ → List ℕ → ℕ → Type 0) → ℕ → List (List ℕ) → List (List ℕ) → Type 0
AreWanted most Is before [] opened = opened ≡ []
AreWanted most Is before (name ∷ names) opened = MatchBool (has_enough most before) (opened ≡ [])
    ((text : List ℕ) × (count : ℕ) × (later : List (List ℕ)) × Is name before text count
    × AreWanted most Is (before + count) names later × (opened ≡ name ∷ later))

-- these were opened after others
abbrev pub OpensWanted : Option ℕ → (List ℕ → ℕ → List ℕ → ℕ → Type 0) → ℕ → List (List ℕ) → List (List ℕ) → Option (List (List ℕ)) → Option (List (List ℕ)) → Type 0
OpensWanted most Is before names others was now =
    (opened : List (List ℕ)) × AreWanted most Is before names opened × Opens was now (others ++ opened)
