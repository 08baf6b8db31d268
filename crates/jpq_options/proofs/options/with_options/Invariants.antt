use Rattle.jpq_options.proofs.Words.{◌≡◌, map, fold, take, app_of, with_rule, rule_of_setting, setting_of}
use Rattle.jpq_options.proofs.options.with_options.Given as goal

abbrev pub invariant-loop-row : goal.invariant-loop-row
invariant-loop-row l = app_of l.command ≡ fold with_rule (app_of l.initial.command) (map (λ row. rule_of_setting l.colors (setting_of row)) (take l.row-index l.rows))
