use Rattle.serde_json_path_parser.proofs.Words.{◌≡◌, ◌++◌, length, string_bytes, is_digit, front, past, left, Moves}
use Rattle.serde_json_path_parser.proofs.parser.primitive.numeral.take_digits.Given as goal

abbrev pub invariant-loop-text : goal.invariant-loop-text
invariant-loop-text g l = record {
  moves : Moves l.fn.reader l.reader;
  text : string_bytes l.text ++ front is_digit (left l.reader) ≡ string_bytes l.fn.text ++ front is_digit (left l.fn.reader);
  rest : past is_digit (left l.reader) ≡ past is_digit (left l.fn.reader);
}

abbrev pub decreases-loop-text : goal.decreases-loop-text
decreases-loop-text g l = length (left l.reader)
