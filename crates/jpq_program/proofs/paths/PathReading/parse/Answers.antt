use Rattle.jpq_program.proofs.Words.{refl}
use Rattle.jpq_program.proofs.paths.PathReading.parse.Goals as goal

pub returns-in-Ok-clause-read : goal.returns-in-Ok-clause-read
returns-in-Ok-clause-read g c = (
  refl,
  ((c.in-Ok.path, rw c.in-Ok.is at c.parse_by.ensures.parse, c.in_ok-path-in-Ok.ensures.bound), c.in_ok-text-in-Ok.ensures.ok),
)
