use Rattle.jpq_program.proofs.Words.{chars_rest, further_in, string_bytes}
use Rattle.jpq_program.proofs.Dressed.{each_done, each_further}
use Rattle.jpq_program.proofs.members.set_further_in.Goals as goal

pub loop-c-preserved : goal.loop-c-preserved
loop-c-preserved c = each_further further_in _ (chars_rest c.next.new.self) (string_bytes c.loop-c.text) (string_bytes c.push_further_in.new.to) _ c.in-Some.c c.loop-c.invariant.0 c.in-Some.ensures.steps.0 c.in_ok-push_further_in.ensures c.loop-c.invariant.1

pub returns : goal.returns
returns c = each_done further_in _ (string_bytes c.loop-c.text) _ c.in-None.ensures.steps.0.0 c.loop-c.invariant.1
