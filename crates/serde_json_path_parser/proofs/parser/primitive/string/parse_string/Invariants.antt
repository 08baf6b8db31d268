use Rattle.serde_json_path_parser.proofs.Words.{◌≡◌, length, string_bytes, begins, many, left, Moves, read_piece, is_inside, read_string}
use Rattle.serde_json_path_parser.proofs.Grammar.Strings.{with_text}
use Rattle.serde_json_path_parser.proofs.parser.primitive.string.parse_string.Given as goal

abbrev pub invariant-pieces : goal.invariant-pieces
invariant-pieces g l = record {
  moves : Moves l.fn.reader l.reader;
  so_far : with_text l.fn.quote (string_bytes l.text) (many (begins (is_inside l.fn.quote)) (read_piece l.fn.quote) (left l.reader)) ≡ read_string l.fn.quote (left l.fn.reader);
}

abbrev pub decreases-pieces : goal.decreases-pieces
decreases-pieces g l = length (left l.reader)
