-- The statuses of the program, its one word, and what it tells of a refusal.
use Rattle.std.specs.Prelude.{◌≡◌, ◌⊎◌, ℕ, List, [], ◌∷◌, ◌++◌, map, codes, Option, IfSome, String, string_bytes}
use Rattle.std.specs.Fmt.{decimal}
use Rattle.serde_json.specs.Data.{Data}
use Rattle.std.specs.declared.alloc.Global.{Global}
use Rattle.serde_json_path_functions.specs.Patterns.{builtin_functions}
use Rattle.serde_json_path_functions.specs.declared.error.QueryError.{QueryError}
use Rattle.serde_json_path_functions.specs.declared.error.QueryError.TheVariants as query_error
use Rattle.serde_json_path_parser.specs.Errors.{position_of, message_of}
use Rattle.jsonpath_program.specs.Report.{CallsByPatternOn, IsReportOf}
use Rattle.jsonpath_document.specs.Document.{ReadsAs}
use Rattle.jsonpath_program.specs.declared.report.DocumentError.{DocumentError}
use Rattle.jsonpath_program.specs.declared.report.DocumentError.TheVariants as document_error
use Rattle.jsonpath_program.specs.declared.report.ReportError.{ReportError}
use Rattle.jsonpath_program.specs.declared.report.ReportError.TheVariants.{Path, Document, Query}

-- a status of the program: done; the path, the document or the query refused, or the output failed; not one word
abbrev pub IsStatus : ℕ → Type 0
IsStatus status = (status ≡ 0) ⊎ (status ≡ 1) ⊎ (status ≡ 2) ⊎ (status ≡ 3) ⊎ (status ≡ 64)

-- the status of a refusal
abbrev pub status_of : ReportError → ℕ
status_of (Path e) = 1
status_of (Document e) = 2
status_of (Query e) = 3

-- there is exactly one word, of these bytes
abbrev pub IsOneWord : List (String Global) → List ℕ → Type 0
IsOneWord words word = map string_bytes words ≡ word ∷ []

-- the text is the report that the one word asks for, on a document that is the input as far as it is known
abbrev pub IsReportOfRun : List (String Global) → Option (List ℕ) → List ℕ → Type 0
IsReportOfRun words input text =
    (document path : List ℕ) × IsOneWord words path × IfSome input (λ bytes. document ≡ bytes) × IsReportOf builtin_functions path document text

-- the line of a refusal
abbrev pub line_of : ReportError → List ℕ
line_of (Path e) = codes "jsonpath: path: at position " ++ (decimal (position_of e) ++ (codes ", " ++ (message_of e ++ codes "\n")))
line_of (Document document_error.NotJson) = codes "jsonpath: document: not JSON\n"
line_of (Document document_error.Memory) = codes "jsonpath: document: no memory\n"
line_of (Query query_error.Memory) = codes "jsonpath: query: no memory\n"
line_of (Query query_error.Pattern) = codes "jsonpath: query: pattern refused\n"

-- a line of status 2: why the document is refused, or that the input cannot be read; an input that is known to read as a
-- document is not told to be no JSON
abbrev pub IsDocumentLine : Option (List ℕ) → List ℕ → Type 0
IsDocumentLine input line =
    ((e : DocumentError) × (line ≡ line_of (Document e)) × (e ≡ document_error.NotJson → IfSome input (λ bytes. (d : Data) → ReadsAs bytes d → ⊥)))
    ⊎ (line ≡ codes "jsonpath: document: cannot be read\n")

-- the input, as far as it is known, reads as a document
abbrev pub MayBeDocument : Option (List ℕ) → Type 0
MayBeDocument input = IfSome input (λ bytes. (d : Data) × ReadsAs bytes d)

-- some call of the path, which is the one word, goes by a pattern that `regex` reads, on a document that is the input as far as it
-- is known
abbrev pub CallsByPatternInRun : List (String Global) → Option (List ℕ) → Type 0
CallsByPatternInRun words input =
    (document path : List ℕ) × IsOneWord words path × IfSome input (λ bytes. document ≡ bytes)
    × CallsByPatternOn builtin_functions path document

-- a line of status 3: why the query is refused, or that the output failed; a pattern is told to be refused only where the path
-- calls by one that `regex` reads
abbrev pub IsQueryLine : List (String Global) → Option (List ℕ) → List ℕ → Type 0
IsQueryLine words input line =
    ((e : QueryError) × (line ≡ line_of (Query e)) × (e ≡ query_error.Pattern → CallsByPatternInRun words input))
    ⊎ (line ≡ codes "jsonpath: output failed\n")
