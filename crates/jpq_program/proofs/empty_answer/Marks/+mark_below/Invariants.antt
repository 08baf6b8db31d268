-- The parts below a part have smaller numbers.
use Rattle.serde_json_path_syntax.specs.Words.{parts_bound}
use Rattle.jpq_program.proofs.empty_answer.Marks.+mark_below.Given as goal

abbrev pub decreases-mark_below : goal.decreases-mark_below
decreases-mark_below l = parts_bound l.parts.now
