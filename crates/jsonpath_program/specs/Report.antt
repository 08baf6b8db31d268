-- The lines of a report on a path and a document.
use Rattle.std.specs.Prelude.{◌≡◌, ℕ, List, [], Result, Err, IfOk, String, string_bytes}
use Rattle.std.specs.Str.{chars}
use Rattle.serde_json.specs.Data.{Data}
use Rattle.serde_json_path_nodes.specs.Location.{Located}
use Rattle.serde_json_path_syntax.specs.Tree as tree
use Rattle.std.specs.declared.alloc.Global.{Global}
use Rattle.serde_json_path_functions.specs.Functions.{FunctionSet, whole_numbers, with_rule}
use Rattle.serde_json_path_functions.specs.declared.error.QueryError.{QueryError}
use Rattle.serde_json_path_functions.specs.declared.error.QueryError.TheVariants.{Pattern}
use Rattle.serde_json_path_core.specs.PatternCalls.{CallsByPattern}
use Rattle.serde_json_path_core.specs.Selects.{Selects}
use Rattle.serde_json_path_parser.specs.Accepted.{IsAccepted}
use Rattle.serde_json_path_parser.specs.Parse.{IsParseOf}
use Rattle.serde_json_path_parser.specs.Reported.{ReportsFirst}
use Rattle.serde_json_path_parser.specs.declared.error.ParseError.{ParseError}
use Rattle.serde_json_path.specs.Paths.{path_view}
use Rattle.jsonpath_document.specs.Document.{ReadsAs}
use Rattle.jsonpath_document.specs.declared.document.DocumentFault.{DocumentFault}
use Rattle.jsonpath_document.specs.declared.document.DocumentFault.TheVariants.{Memory}
use Rattle.jsonpath_lines.specs.Output.{AreLines, compact_lines}
use Rattle.jsonpath_lines.specs.declared.forms.Form.{Form}
use Rattle.jsonpath_lines.specs.declared.forms.Form.TheVariants.{LocationAndValue}
use Rattle.jsonpath_program.specs.declared.report.DocumentError.{DocumentError}
use Rattle.jsonpath_program.specs.declared.report.DocumentError.TheVariants as refusal
use Rattle.jsonpath_program.specs.declared.report.ReportError.{ReportError}
use Rattle.jsonpath_program.specs.declared.report.ReportError.TheVariants.{Path, Document, Query}

-- the program's word for a fault of a document
abbrev pub refusal_of : DocumentFault → DocumentError
refusal_of Memory = refusal.Memory
refusal_of _ = refusal.NotJson

-- the text is no path under the set: it is accepted with no tree
abbrev pub IsNoPath : FunctionSet → List ℕ → Type 0
IsNoPath F path = (q : tree.Query) → IsAccepted whole_numbers F.signature (chars path) q → ⊥

-- the text is a path of which some call goes by a pattern that `regex` reads, on a document that the bytes read as;
-- comparisons take whole numbers
abbrev pub CallsByPatternOn : FunctionSet → List ℕ → List ℕ → Type 0
CallsByPatternOn F path document =
    (q : tree.Query) × (d : Data) × IsAccepted whole_numbers F.signature (chars path) q × ReadsAs document d × CallsByPattern (with_rule whole_numbers F) d q

-- The text is what a form shows, compactly, of the path's result on the document, under the set's functions. Comparisons
-- take whole numbers.
pub record IsReportIn (form : Form) (F : FunctionSet) (path document text : List ℕ) : Type 0 where
  pub query : tree.Query
  pub value : Data
  pub nodes : List Located
  pub accepted : IsAccepted whole_numbers F.signature (chars path) query
  pub reads : ReadsAs document value
  pub selects : Selects (with_rule whole_numbers F) query value nodes
  pub lines : AreLines (compact_lines form) [] nodes text

-- the same with both the location and the value of each node
abbrev pub IsReportOf : FunctionSet → List ℕ → List ℕ → List ℕ → Type 0
IsReportOf = IsReportIn LocationAndValue

-- What a report answers, in a form, under a set: its text, or why there is none.
pub record IsReport (form : Form) (F : FunctionSet) (path document : List ℕ) (result : Result (String Global) ReportError) : Type 0 where
  pub lines : IfOk result (λ text. IsReportIn form F path document (string_bytes text))
  -- a path is refused as the parse refuses it, and before the document is looked at
  pub path_refused : (e : ParseError) → result ≡ Err (Path e) → IsParseOf path_view whole_numbers F.signature path (Err e)
  pub path_reported : (e : ParseError) → result ≡ Err (Path e) → ReportsFirst path_view whole_numbers F.signature path (Err e)
  pub path_first : IsNoPath F path → (e : ParseError) × (result ≡ Err (Path e))
  pub not_json : result ≡ Err (Document refusal.NotJson) → (d : Data) → ReadsAs document d → ⊥
  pub pattern_refused : result ≡ Err (Query Pattern) → CallsByPatternOn F path document
  -- a query is refused only where the document is read
  pub query_last : (e : QueryError) → result ≡ Err (Query e) → (d : Data) × ReadsAs document d

-- What a query answers on the document that the bytes are, in a form.
pub record IsAnswer (form : Form) (F : FunctionSet) (q : tree.Query) (bytes : List ℕ) (result : Result (String Global) ReportError) : Type 0 where
  pub lines : IfOk result (λ text. (d : Data) × (nodes : List Located) × ReadsAs bytes d × Selects F q d nodes × AreLines (compact_lines form) [] nodes (string_bytes text))
  pub no_path : (e : ParseError) → result ≡ Err (Path e) → ⊥
  pub not_json : result ≡ Err (Document refusal.NotJson) → (d : Data) → ReadsAs bytes d → ⊥
  pub pattern : result ≡ Err (Query Pattern) → (d : Data) × ReadsAs bytes d × CallsByPattern F d q
  pub last : (e : QueryError) → result ≡ Err (Query e) → (d : Data) × ReadsAs bytes d
