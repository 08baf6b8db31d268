-- The words of contracts, from one place.
pub use Rattle.json.specs.Lex.{tokens}
pub use Rattle.json.specs.Print.{ArePrintable}
pub use Rattle.jsonpath_lines.specs.Coloured.{IsColoured, parameters_of, sequence, usual}
pub use Rattle.jsonpath_lines.specs.Distinct.{AreEnough, IsExceeded, most_held}
pub use Rattle.jsonpath_lines.specs.Inside.{Appends, ArePieces, IsArrayLine, IsClosedIn, IsIndented, IsItem, IsLaid, IsLaidOut, IsPiece, IsUnseen, Pushes, asked, is_reached, leaves_out_in, limit_in, opening, path_string}
pub use Rattle.jsonpath_lines.specs.Output.{AreLines, IsCount, IsJsonOf, IsLine, IsLineOfEach, IsText, compact_lines, end_text, up_to}
pub use Rattle.serde_json.specs.Written.{comma_if}
pub use Rattle.serde_json_path.specs.Words.{document_of, query_of, rest, set_of}
pub use Rattle.serde_json_path_core.specs.Inside.Words.{OnlyMemoryOrPattern}
pub use Rattle.serde_json_path_nodes.specs.Words.{IsUtf8, first_places, located, view}
pub use Rattle.std.specs.Char.{encode_utf8}
