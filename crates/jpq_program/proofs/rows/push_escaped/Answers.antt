use Rattle.jpq_program.proofs.Words.{chars_rest, in_cell, string_bytes}
use Rattle.jpq_program.proofs.Dressed.{each_done, each_further}
use Rattle.jpq_program.proofs.rows.push_escaped.Goals as goal

pub loop-c-preserved : goal.loop-c-preserved
loop-c-preserved c = each_further in_cell _ (chars_rest c.next.new.self) (string_bytes c.loop-c.to) (string_bytes c.push_in_cell.new.to) _ c.in-Some.c c.loop-c.invariant.0 c.in-Some.ensures.steps.0 c.in_ok-push_in_cell.ensures c.loop-c.invariant.1

pub returns : goal.returns
returns c = each_done in_cell _ (string_bytes c.loop-c.to) _ c.in-None.ensures.steps.0.0 c.loop-c.invariant.1
