use Rattle.jpq_program.proofs.Words.{◌≡◌}
use Rattle.jpq_program.proofs.run.hint_at_patterns.Given as goal

abbrev pub invariant-loop-path : goal.invariant-loop-path
invariant-loop-path g l = l.streams ≡ l.initial.streams
