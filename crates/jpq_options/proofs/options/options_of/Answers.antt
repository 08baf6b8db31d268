use Rattle.jpq_options.proofs.Words.{arith}
use Rattle.jpq_options.proofs.Found.{of_found}
use Rattle.jpq_options.proofs.options.options_of.Goals as goal

pub returns : goal.returns
returns c = grind (arith, of_found)
