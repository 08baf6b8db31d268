use Rattle.serde_json_path_reach.proofs.Words.{IsIn, Row, meets, onward, step_view, take, true, ℕ, ◌≡◌}
use Rattle.serde_json_path_reach.proofs.plan.Plan.after.Given as goal

abbrev pub invariant-loop-row : goal.invariant-loop-row
invariant-loop-row l = (row : Row) (m : ℕ) → IsIn row (take l.row-index l.self.rows.items) → meets l.pending row.bit ≡ true → meets (onward row (step_view l.step)) m ≡ true → meets l.after m ≡ true
