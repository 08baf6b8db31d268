use Rattle.serde_json_path_parser.proofs.Words.{◌≡◌, ◌++◌, length, string_bytes, word, past_word, left, Moves}
use Rattle.serde_json_path_parser.proofs.parser.primitive.word.read_word.Given as goal

abbrev pub invariant-loop-text : goal.invariant-loop-text
invariant-loop-text g l = record {
  moves : Moves l.fn.reader l.reader;
  text : string_bytes l.text ++ word (left l.reader) ≡ word (left l.fn.reader);
  rest : past_word (left l.reader) ≡ past_word (left l.fn.reader);
}

abbrev pub decreases-loop-text : goal.decreases-loop-text
decreases-loop-text g l = length (left l.reader)
