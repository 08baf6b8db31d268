use Rattle.jpq_program.proofs.Words.{◌≡◌}
use Rattle.jpq_program.proofs.paths.PathReading.tell_unused.Given as goal

abbrev pub invariant-loop-number : goal.invariant-loop-number
invariant-loop-number g l = l.streams ≡ l.initial.streams
