use Rattle.jpq_options.proofs.Words.{◌∙◌, fold, map, ap, take_all, app_of, with_rule}
use Rattle.jpq_options.proofs.Commands.{options_more, rule_of_row}
use Rattle.jpq_options.proofs.options.with_options.Goals as goal

pub loop-row-preserved : goal.loop-row-preserved
loop-row-preserved c = options_more c.args.colors (app_of c.args.command) _ _ c.args.rows.now c.loop-row.row-index _ _ c.loop-row-test.true
    c.loop-row.invariant c.argument.ensures.rule (c.in_ok-command.ensures.shape c.argument.ensures.local)

pub returns : goal.returns
returns c = c.loop-row.invariant
    ∙ ap (λ rows. fold with_rule (app_of c.args.command) (map (rule_of_row c.args.colors) rows)) (take_all _ c.args.rows.now c.loop-row-test.false)
