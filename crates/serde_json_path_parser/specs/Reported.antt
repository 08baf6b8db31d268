-- Which refusal a parse reports. What a parse accepts is in `Parse`.
use Rattle.std.specs.Prelude.{◌≡◌, ◌≢◌, ℕ, ◌+◌, ◌-◌, ◌<◌, ◌≤◌, ◌↔◌, false, List, ◌++◌, length, take, drop, codes, Option, Some, None, Result, Ok, Err, IfErr, IsErrAnd}
use Rattle.serde_json_path_parser.specs.Imports.{result_map_both, chars, IsCharBoundary, Numbers, Query, Signature}
use Rattle.serde_json_path_parser.specs.declared.error.ParseErrorKind.TheVariants.{ExpectedRoot, UndefinedFunction, TextAfterPath, NoMemory}
use Rattle.serde_json_path_parser.specs.declared.error.ParseError.{ParseError}
use Rattle.serde_json_path_parser.specs.declared.error.Refusal.{Refusal}
use Rattle.serde_json_path_parser.specs.Lexical.{begins, IsFunctionName}
use Rattle.serde_json_path_parser.specs.Accepted.{IsAccepted}
use Rattle.serde_json_path_parser.specs.Errors.{kind_of, position_of}
use Rattle.serde_json_path_parser.specs.Source.{greatest_usize}
use Rattle.serde_json_path_parser.specs.Parse.{ParsedQuery, is_dollar}
use Rattle.serde_json_path_parser.specs.Filters.{read_path}

-- a refusal as a parse reports it, of a text of so many bytes
abbrev pub reported : {A : Type 0} → ℕ → Result A Refusal → Option ParseError
reported total (Ok read) = None
reported total (Err r) = Some (record {
  kind = r.kind;
  context = r.context;
  position = total - r.left + 1;
})

-- The refusal that is met first as a text is read from left to right: its kind, how its message
-- begins, and its position. There is none where the text is read to its end.
abbrev pub first_refusal : Numbers → (List ℕ → Option Signature) → List ℕ → Option ParseError
first_refusal rule signature text = reported (length text) (read_path rule signature (chars text))

-- a name with `(` at once after it stands there, and no function of that name is declared (RFC
-- 9535, section 2.4)
abbrev pub IsUndeclared : (List ℕ → Option Signature) → List ℕ → Type 0
IsUndeclared signature rest =
    (f more : List ℕ) × IsFunctionName f f × (rest ≡ f ++ (codes "(" ++ more))
    × (signature f ≡ None)

-- What a refusal, if that is the answer, says of a text, which is given by the bytes of its UTF-8.
pub record Reports (rule : Numbers) (signature : List ℕ → Option Signature) (text : List ℕ) (answer : Result ParsedQuery ParseError) : Type 0 where
  -- it is the one that is met first, unless memory was refused
  pub first : IfErr answer (λ e. kind_of e ≢ NoMemory → first_refusal rule signature text ≡ Some e)
  -- a missing root is reported exactly where a text whose end has a position does not begin with
  -- `$`
  pub missing_root : IsErrAnd answer (λ e. kind_of e ≡ ExpectedRoot)
      ↔ ((length text < greatest_usize) × (begins is_dollar (chars text) ≡ false))
  -- text after the path is reported only where the bytes before the position are an accepted text
  pub text_after : IfErr answer (λ e. kind_of e ≡ TextAfterPath
      → (q : Query) × IsAccepted rule signature (chars (take (position_of e - 1) text)) q)
  -- an undefined function is reported only where a name that is not declared stands, with `(` at
  -- once after it
  pub undefined : IfErr answer (λ e. kind_of e ≡ UndefinedFunction
      → IsUndeclared signature (chars (drop (position_of e - 1) text)))
  -- a refusal stands at the start of a character, or at the end of the text
  pub position : IfErr answer (λ e. (1 ≤ position_of e) × IsCharBoundary text (position_of e - 1))

-- the same of a result that is seen as a tree and its signatures
abbrev pub ReportsFirst : {A : Type 0} → (A → ParsedQuery) → Numbers → (List ℕ → Option Signature) → List ℕ
    → Result A ParseError → Type 0
ReportsFirst view rule signature text result =
    Reports rule signature text (result_map_both view (λ e. e) result)
