use Rattle.jpq_program.proofs.Words.{◌≡◌, replicate, string_bytes}
use Rattle.jpq_program.proofs.run.spaces.Given as goal

abbrev pub invariant-loop-pushed : goal.invariant-loop-pushed
invariant-loop-pushed l = string_bytes l.text ≡ replicate l.pushed 32
