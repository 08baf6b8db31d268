-- What contracts see of a path.
use Rattle.std.specs.Prelude.{ℕ, List, Result, IfOk}
use Rattle.serde_json_path_syntax.specs.Tree.{Query}
use Rattle.serde_json_path_syntax.specs.Parts.{tree_of, signatures_of, rule_of}
use Rattle.serde_json_path_functions.specs.Functions.{Fits, FunctionSet, Numbers, Signature, with_rule}
use Rattle.serde_json_path_parser.specs.Parse.{IsParseOf, ParsedQuery}
use Rattle.serde_json_path_parser.specs.Reported.{ReportsFirst}
use Rattle.serde_json_path_parser.specs.declared.error.ParseError.{ParseError}
use Rattle.serde_json_path.specs.declared.path.JsonPath.{JsonPath}

-- the syntax tree of a path
abbrev pub path_tree : JsonPath → Query
path_tree path = tree_of path.checked

-- the names that a path calls, each with the signature that it was parsed with
abbrev pub path_signatures : JsonPath → List (List ℕ × Signature)
path_signatures path = signatures_of path.checked

-- the rule by which its comparisons take numbers
abbrev pub path_rule : JsonPath → Numbers
path_rule path = rule_of path.checked

-- the functions of a set, where comparisons take numbers by the path's rule
abbrev pub with_rule_of : JsonPath → FunctionSet → FunctionSet
with_rule_of path F = with_rule (path_rule path) F

-- a path as its tree, these signatures and this rule
abbrev pub path_view : JsonPath → ParsedQuery
path_view path = record { tree = path_tree path; signatures = path_signatures path; rule = path_rule path }

-- What reading a text as a path answers, by a rule for numbers and under a function set.
pub record IsRead (rule : Numbers) (F : FunctionSet) (text : List ℕ) (answer : Result JsonPath ParseError) : Type 0 where
  pub parse : IsParseOf path_view rule F.signature text answer
  pub reported : ReportsFirst path_view rule F.signature text answer
  -- the signatures that the path keeps are those of the set
  pub fits : IfOk answer (λ path. Fits F (path_signatures path))
