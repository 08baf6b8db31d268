use Rattle.serde_json_path_parser.proofs.Words.{◌≡◌, ◌≤◌, ◌^◌, ◌-◌, min, length, is_digit, value_from, front, past, left, Moves}
use Rattle.serde_json_path_parser.proofs.parser.primitive.decimal.parse_decimal.Given as goal

abbrev pub invariant-loop-reader : goal.invariant-loop-reader
invariant-loop-reader g l = record {
  moves : Moves l.fn.reader l.reader;
  value : min (value_from l.n (front is_digit (left l.reader))) (2 ^ 128 - 1) ≡ min (value_from 0 (front is_digit (left l.fn.reader))) (2 ^ 128 - 1);
  bound : l.n ≤ 2 ^ 128 - 1;
  rest : past is_digit (left l.reader) ≡ past is_digit (left l.fn.reader);
}

abbrev pub decreases-loop-reader : goal.decreases-loop-reader
decreases-loop-reader g l = length (left l.reader)
