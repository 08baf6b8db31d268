use Rattle.serde_json_path_tests.proofs.Words.{ArePositionsWritten}
use Rattle.serde_json_path_tests.proofs.tests.headline.can_be_written.Given as goal

abbrev pub invariant-loop-step : goal.invariant-loop-step
invariant-loop-step l = ArePositionsWritten l.step-iterator → ArePositionsWritten l.location
