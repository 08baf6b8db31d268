-- The words of definitions that proofs cite, from one place.
unfoldable pub use Rattle.std.specs.Fmt.{digits}
unfoldable pub use Rattle.std.specs.Iterator.Runs.{YieldsRun}
pub use Rattle.jsonpath_program.specs.Report.{IsReportOf}
pub use Rattle.jsonpath_program.specs.Words.{Appends, AppendsBeginning, Data, Drains, IsOneWord, IsReportOfRun, ReadsAs, Selects, builtin_functions, line_of, status_of, tree_of, view, with_rule}
pub use Rattle.jsonpath_program.specs.declared.report.DocumentError.{DocumentError}
pub use Rattle.jsonpath_program.specs.declared.report.ReportError.{ReportError}
pub use Rattle.jsonpath_program.specs.declared.report.ReportError.TheVariants.{Document, Path, Query}
pub use Rattle.serde_json_path.proofs.Words.{Observed}
pub use Rattle.serde_json_path_core.proofs.Words.{CallsByPattern}
pub use Rattle.serde_json_path_nodes.proofs.Words.{Err, Global, IfOk-weaker, IfSome, IsErrAnd, List, MatchResult, None, Ok, OnOk, Option, Result, Some, String, [], ap, append_assoc, arith, codes, decimal, drop, false, get_or, inl, inr, is_err, length, refl, rules, string_bytes, subst, sym, take, take-append-drop, take_rest, true, ℕ, ◌++◌, ◌-◌, ◌<◌, ◌∙◌, ◌∷◌, ◌≡◌, ◌≤◌}
pub use Rattle.serde_json_path_parser.specs.Errors.{kind_of, message, message_of, position_of}
pub use Rattle.serde_json_path_parser.specs.declared.error.ParseError.{ParseError}
pub use Rattle.serde_json_path_parser.specs.declared.error.ParseErrorKind.TheVariants.{NoMemory}
pub use Rattle.serde_json_path_syntax.proofs.Words.{Pattern, QueryError}
pub use Rattle.std.proofs.KnownBytes.{Appends-kept, Appends-trans}
pub use Rattle.std.specs.Iterator.Runs.{Run}
