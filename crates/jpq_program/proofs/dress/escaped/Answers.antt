use Rattle.jpq_program.proofs.Words.{chars_rest, in_ascii, string_bytes}
use Rattle.jpq_program.proofs.Dressed.{each_done, each_further}
use Rattle.jpq_program.proofs.dress.escaped.Goals as goal

pub loop-c-preserved : goal.loop-c-preserved
loop-c-preserved c = each_further in_ascii _ (chars_rest c.next.new.self) (string_bytes c.loop-c.text) (string_bytes c.push_ascii.new.text) _ c.in-Some.c c.loop-c.invariant.0 c.in-Some.ensures.steps.0 c.in_ok-push_ascii.ensures c.loop-c.invariant.1

pub returns : goal.returns
returns c = each_done in_ascii _ (string_bytes c.loop-c.text) _ c.in-None.ensures.steps.0.0 c.loop-c.invariant.1
