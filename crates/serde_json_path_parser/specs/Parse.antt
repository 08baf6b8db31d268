-- Acceptance: which texts a parse accepts, each with which tree, and what it may refuse for want of
-- memory.
use Rattle.std.specs.Prelude.{◌≡◌, ◌≢◌, ℕ, ◌<◌, ◌⊎◌, Bool, false, List, ◌++◌, length, codes, Option, Result, IfOk, IfErr, IsErrAnd}
use Rattle.serde_json_path_parser.specs.Imports.{result_map_both, chars, Checked, tree_of, signatures_of, rule_of, Query, AreCalled, Signature, Numbers}
use Rattle.serde_json_path_parser.specs.declared.error.ParseErrorKind.TheVariants.{NoMemory}
use Rattle.serde_json_path_parser.specs.declared.error.ParseError.{ParseError}
use Rattle.serde_json_path_parser.specs.Lexical.{◌∈◌, begins, is_blank, IsBlank, opens}
use Rattle.serde_json_path_parser.specs.Accepted.{IsAccepted}
use Rattle.serde_json_path_parser.specs.Errors.{kind_of, no_memory}
use Rattle.serde_json_path_parser.specs.Source.{greatest_usize}

abbrev pub is_dollar : ℕ → Bool
is_dollar c = c ∈ "$"

-- there is no `$` at the start, or after it and blanks neither `.` nor `[`
abbrev pub NeedsNoMemory : List ℕ → Type 0
NeedsNoMemory text =
    (begins is_dollar text ≡ false)
    ⊎ ((blanks rest : List ℕ) × (text ≡ codes "$" ++ (blanks ++ rest)) × IsBlank blanks
    × (begins is_blank rest ≡ false) × (begins opens rest ≡ false))

-- a tree, the names that it calls, each with its signature, and the rule by which its comparisons take numbers
pub record ParsedQuery : Type 0 where
  pub tree : Query
  pub signatures : List (List ℕ × Signature)
  pub rule : Numbers

-- What a parse by a rule for numbers answers of a text, which is given by the bytes of its UTF-8.
pub record IsParse (rule : Numbers) (signature : List ℕ → Option Signature) (text : List ℕ) (answer : Result ParsedQuery ParseError) : Type 0 where
  -- what is accepted is in the typed grammar, with this tree
  pub accepted : IfOk answer (λ read. IsAccepted rule signature (chars text) read.tree)
  -- it keeps the names that it calls, each once, and no other
  pub kept : IfOk answer (λ read. AreCalled read.signatures read.tree)
  -- its comparisons take numbers by the rule
  pub ruled : IfOk answer (λ read. read.rule ≡ rule)
  -- and is accepted with no other tree
  pub only : IfOk answer (λ read. (q : Query) → IsAccepted rule signature (chars text) q → q ≡ read.tree)
  -- a refusal, unless memory was refused, means that the text is accepted with no tree
  pub refused : IfErr answer (λ e.
      kind_of e ≢ NoMemory → (q : Query) → IsAccepted rule signature (chars text) q → ⊥)
  -- want of memory is one error, at position 1,
  pub memory : IfErr answer (λ e. kind_of e ≡ NoMemory → e ≡ no_memory)
  -- and is never reported where there is nothing to store,
  pub spares_memory : length text < greatest_usize → NeedsNoMemory (chars text)
      → IfErr answer (λ e. kind_of e ≢ NoMemory)
  -- except for a text so long that its end has no position
  pub too_long : length text ≡ greatest_usize → IsErrAnd answer (λ e. kind_of e ≡ NoMemory)

-- the same of a result that is seen as a tree and its signatures
abbrev pub IsParseOf : {A : Type 0} → (A → ParsedQuery) → Numbers → (List ℕ → Option Signature) → List ℕ
    → Result A ParseError → Type 0
IsParseOf view rule signature text result = IsParse rule signature text (result_map_both view (λ e. e) result)

-- a finished query, seen so
abbrev pub checked_view : Checked → ParsedQuery
checked_view checked = record { tree = tree_of checked; signatures = signatures_of checked; rule = rule_of checked }
