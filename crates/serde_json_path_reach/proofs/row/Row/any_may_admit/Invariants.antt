use Rattle.serde_json_path_reach.proofs.Words.{any_may_admit, drop, length, selectors_of_row, step_view, ◌-◌, ◌≡◌}
use Rattle.serde_json_path_reach.proofs.row.Row.any_may_admit.Given as goal

abbrev pub invariant-selectors : goal.invariant-selectors
invariant-selectors l = any_may_admit (drop l.number (selectors_of_row l.self)) (step_view l.step) ≡ any_may_admit (selectors_of_row l.self) (step_view l.step)

abbrev pub decreases-selectors : goal.decreases-selectors
decreases-selectors l = length (selectors_of_row l.self) - l.number
