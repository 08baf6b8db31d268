use Rattle.jpq_options.proofs.Words.{◌≡◌, take, filter, found_of, rows_of, is_given}
use Rattle.jpq_options.proofs.options.forms_given.Given as goal

abbrev pub invariant-loop-row : goal.invariant-loop-row
invariant-loop-row l = l.given.items ≡ filter (λ f. is_given f.0.now (rows_of (found_of l.matches))) (take l.row-index l.all)
