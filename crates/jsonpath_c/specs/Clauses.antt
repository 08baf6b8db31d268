-- The words of contracts, from one place.
pub use Rattle.jsonpath_c.specs.Exports.{AnswersPath, AnswersText, IsFaultTold, IsPath, IsTold, hint_text, number_of, rule_of}
pub use Rattle.jsonpath_c.specs.Handles.{AnswersLinesOf, AreFirstLines, AreFirstNodes, BothHold, CallsByPatternFrom, GivesNext, GoesOver, HasNode, HasValueAt, HoldOf, HoldsFirst, HoldsPathOf, IsAsked, IsAskedOf, IsNoAnswer, IsOfNode, IsPast, MayRefusePattern, SelectThose, SelectsFrom, StandsAt, TellsEitherEmpty, TellsEmpty, TellsFault, TellsSome, asked_of, form_of, functions_of, location_text, name_bytes, told_of}
pub use Rattle.jsonpath_c.specs.Inside.{AreLeft, AreLinesFrom, ArePut, HasNoRoomFor, IsLeftAfter, IsReached, TellsNext, status_of}
pub use Rattle.jsonpath_c.specs.Words.{IsJsonOf, IsLineOfEach, IsUtf8, Located, MatchOption, Memory, NoMemory, OnlyMemoryOrPattern, ReadsAs, compact_lines, document_of, first_places, kept, kind_of, known_of, located, location_of, message_of, normal, numbers_view, path_tree, pointer, position_of, query_of, query_text, rest, set_of, string, view}
pub use Rattle.serde_json_path_nodes.specs.Words.{IfOk, map, string_bytes}
