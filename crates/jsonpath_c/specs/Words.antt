-- What clauses and definitions take from the crates below, from one place.
pub use Rattle.jsonpath_document.specs.Document.{IsDocument, IsFaultIn, ReadsAs, message_of as fault_message}
pub use Rattle.jsonpath_document.specs.declared.document.DocumentError.{DocumentError}
pub use Rattle.jsonpath_document.specs.declared.document.DocumentFault.TheVariants.{Memory as MemoryFault}
pub use Rattle.jsonpath_document.specs.Place.{is_too_deep_at}
pub use Rattle.jsonpath_lines.specs.Words.{IsJsonOf, IsLine, IsLineOfEach, compact_lines}
pub use Rattle.jsonpath_lines.specs.declared.forms.Form.TheVariants.{Location, LocationAndValue, Value}
pub use Rattle.jsonpath_lines.specs.declared.forms.Form.{Form}
pub use Rattle.jsonpath_owned_nodes.specs.Kept.{KeptNode, kept, known_of, location_of}
pub use Rattle.jsonpath_owned_nodes.specs.declared.node_info.NodeInfo.TheVariants.{Array, Double, False, Integer, Null, Object, String, True, Unsigned}
pub use Rattle.jsonpath_owned_nodes.specs.declared.node_info.NodeInfo.{NodeInfo}
pub use Rattle.jsonpath_program.specs.Report.{CallsByPatternOn, IsNoPath, IsReportIn}
pub use Rattle.nullable_box.specs.Held.{held}
pub use Rattle.nullable_box.specs.Shown.{lent}
pub use Rattle.serde_json_path.specs.Fitting.{FitsBuiltin, FitsBuiltin-prop}
pub use Rattle.serde_json_path.specs.Words.{IsRead, document_of, kind_of, message_of, path_rule, path_signatures, path_tree, position_of, query_of, rest, set_of, with_rule_of}
pub use Rattle.serde_json_path_core.specs.Inside.Words.{CallsByPattern, OnlyMemoryOrPattern, Selects}
pub use Rattle.serde_json_path_functions.specs.Words.{FunctionSet, Numbers, all_numbers, builtin_functions, numbers_view, whole_numbers}
pub use Rattle.serde_json_path_hints.specs.Hints.{hint_of}
pub use Rattle.serde_json_path_nodes.specs.Words.{Data, IsUtf8, Located, Step, at, by_name, by_position, chars, first_places, located, normal, pointer, string, sum_by, view}
pub use Rattle.serde_json_path_parser.specs.Accepted.{IsAccepted}
pub use Rattle.serde_json_path_parser.specs.declared.error.ParseError.{ParseError}
pub use Rattle.serde_json_path_parser.specs.declared.error.ParseErrorKind.TheVariants.{BadEscape, BadMemberName, ControlCharacter, ExpectedClosingBracket, ExpectedClosingParenthesis, ExpectedComparisonOperator, ExpectedEndingQuote, ExpectedExpression, ExpectedRoot, ExpectedSelector, ExponentOrEmptyFraction, FractionTooLong, IntegerOutOfRange, NestedTooDeep, NoMemory, NonSingularQuery, NumberOutOfRange, TextAfterPath, UndefinedFunction, WrongArgumentType, WrongNumberOfArguments, WrongReturnType}
pub use Rattle.serde_json_path_parser.specs.declared.error.ParseErrorKind.{ParseErrorKind}
pub use Rattle.serde_json_path_reach.specs.Alike.{IsReadFor, IsReadForPlaces}
pub use Rattle.serde_json_path_syntax.specs.Words.{Memory, Query, query_text, tree_of}
pub use Rattle.std.specs.Coded.{coded_option}
pub use Rattle.std.specs.Float.{float_zero}
pub use Rattle.std.specs.Option.{MatchOption, unwrap_or}
