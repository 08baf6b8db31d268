use Rattle.serde_json_path_parser.proofs.Words.{◌≡◌, ◌++◌, length, string_bytes, encode_utf8_all, is_name_char, front, past, left, Moves}
use Rattle.serde_json_path_parser.proofs.parser.reader.Reader.take_name_chars.Given as goal

abbrev pub invariant-chars : goal.invariant-chars
invariant-chars g l = record {
  moves : Moves l.fn.self l.self;
  text : string_bytes l.text ++ encode_utf8_all (front is_name_char (left l.self)) ≡ string_bytes l.fn.text ++ encode_utf8_all (front is_name_char (left l.fn.self));
  rest : past is_name_char (left l.self) ≡ past is_name_char (left l.fn.self);
}

abbrev pub decreases-chars : goal.decreases-chars
decreases-chars g l = length (left l.self)
