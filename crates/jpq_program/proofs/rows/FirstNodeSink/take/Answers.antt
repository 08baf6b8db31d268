use Rattle.jpq_program.proofs.Words.{◌∙◌, located, sym}
use Rattle.jpq_program.proofs.Cells.{first_kept, first_taken}
use Rattle.jpq_program.proofs.rows.FirstNodeSink.take.Goals as goal

pub returns-then-is_some-clause-taken : goal.returns-then-is_some-clause-taken
returns-then-is_some-clause-taken c = λ before nodes later first. first_kept nodes _ c.args.self.now.cell (sym c.is_some.ensures ∙ c.if-is_some.true) first

pub returns-clause-taken : goal.returns-clause-taken
returns-clause-taken c = λ before nodes first. first_taken nodes (located c.args.node) c.args.self.now.cell c.in_ok-cell_of.field-0 (sym c.is_some.ensures ∙ c.if-is_some.false) first c.in_ok-cell_of.ensures
