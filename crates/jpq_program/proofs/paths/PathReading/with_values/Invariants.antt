use Rattle.jpq_program.proofs.Words.{Reads}
use Rattle.jpq_program.proofs.paths.PathReading.with_values.Given as goal

abbrev pub invariant-loop-number : goal.invariant-loop-number
invariant-loop-number l = Reads l.initial.self l.self
