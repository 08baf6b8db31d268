use Rattle.jpq_program.proofs.Words.{IfOk-weaker, inr, view}
use Rattle.jpq_program.proofs.answering.Answering.first_of.Goals as goal

pub returns-in-Ok : goal.returns-in-Ok
returns-in-Ok c = IfOk-weaker c.first_node-in-Ok.result _ _ (λ _ found. (view c.in-Ok.whole, found.0, inr (rw c.in-Ok.is at c.read_document.ensures.ok), found.1, found.2)) c.first_node-in-Ok.ensures.found
