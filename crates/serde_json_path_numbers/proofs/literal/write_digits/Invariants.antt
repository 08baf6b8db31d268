use Rattle.serde_json_path_numbers.proofs.Digits.{AreWritten}
use Rattle.serde_json_path_numbers.proofs.literal.write_digits.Given as goal

abbrev pub invariant-loop-at : goal.invariant-loop-at
invariant-loop-at l = AreWritten l.text l.at l.left l.number

abbrev pub decreases-loop-at : goal.decreases-loop-at
decreases-loop-at l = l.at
