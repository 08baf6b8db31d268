use Rattle.serde_json_path_parser.proofs.Words.{◌≡◌, length, past_blanks, left, Moves}
use Rattle.serde_json_path_parser.proofs.parser.reader.Reader.skip_blanks.Given as goal

abbrev pub invariant-loop-self : goal.invariant-loop-self
invariant-loop-self g l = record {
  moves : Moves l.fn.self l.self;
  rest : past_blanks (left l.self) ≡ past_blanks (left l.fn.self);
}

abbrev pub decreases-loop-self : goal.decreases-loop-self
decreases-loop-self g l = length (left l.self)
