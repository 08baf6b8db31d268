use Rattle.serde_json_path_syntax.proofs.Words.{arith, nat_tests, common_steps, ◌∙◌, ◌++◌, ◌/◌, rules, decimal, has_written_append, has_written_of_eq}
use Rattle.serde_json_path_syntax.proofs.Printing.{fraction_ended, fraction_more}
use Rattle.serde_json_path_syntax.proofs.print.literals.write_fraction.Goals as goal

pub loop-preserved : goal.loop-preserved
loop-preserved g c = λ plain.
    let (done, wrote, whole) = c.loop.invariant plain in
    let one = c.write.ensures.writes wrote.plain (search rules) in
    (done ++ decimal (c.loop.rest / 100000000), has_written_append _ _ _ _ _ _ wrote one, fraction_more done c.loop.counter c.loop.rest c.loop-test.true c.if-rest-eq0.false ∙ whole)

pub returns-then-rest-eq0 : goal.returns-then-rest-eq0
returns-then-rest-eq0 g c = grind (arith, nat_tests, common_steps, has_written_of_eq, fraction_ended)
