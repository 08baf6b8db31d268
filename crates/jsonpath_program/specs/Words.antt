-- The words of contracts, from one place.
pub use Rattle.jsonpath_document.specs.Document.{ReadsAs}
pub use Rattle.jsonpath_lines.specs.Sent.{AppendsBeginning}
pub use Rattle.jsonpath_lines.specs.Words.{AreLines, compact_lines}
pub use Rattle.jsonpath_program.specs.Report.{CallsByPatternOn, IsAnswer, IsNoPath, IsReport, IsReportIn}
pub use Rattle.jsonpath_program.specs.Run.{IsDocumentLine, IsOneWord, IsQueryLine, IsReportOfRun, IsStatus, MayBeDocument, line_of, status_of}
pub use Rattle.serde_json_path.specs.Words.{kind_of, path_view, position_of}
pub use Rattle.serde_json_path_core.specs.Inside.Words.{OnlyMemoryOrPattern, Selects}
pub use Rattle.serde_json_path_functions.specs.Words.{Fits, before_builtin, builtin_functions, whole_numbers, with_rule}
pub use Rattle.serde_json_path_nodes.specs.Words.{Data, Drains, IsFinite, Located, view}
pub use Rattle.serde_json_path_parser.specs.Parse.{IsParseOf}
pub use Rattle.serde_json_path_parser.specs.Reported.{ReportsFirst}
pub use Rattle.serde_json_path_reach.specs.Alike.{IsReadFor}
pub use Rattle.serde_json_path_syntax.specs.Words.{rule_of, signatures_of, tree_of}
pub use Rattle.std.specs.Io.KnownBytes.{Appends, IsAtEnd}
pub use Rattle.std.specs.declared.alloc.Global.{Global}
