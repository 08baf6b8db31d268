use Rattle.jpq_program.proofs.Words.{IfOk-weaker, inr, view}
use Rattle.jpq_program.proofs.answering.Answering.count_path.Goals as goal

pub returns-in-Ok : goal.returns-in-Ok
returns-in-Ok c = IfOk-weaker c.count-in-Ok.result _ _ (λ _ counted. (
  view c.in-Ok.whole,
  inr (rw c.in-Ok.is at c.read_document.ensures.ok),
  rw c.in-Err-Pattern.ensures.unchanged at counted,
)) c.count-in-Ok.ensures.counted
