use Rattle.serde_json_path_reach.proofs.Rows.{place_apart}
use Rattle.serde_json_path_reach.proofs.plan.Plan.fresh.Goals as goal

pub returns-clause-apart : goal.returns-clause-apart
returns-clause-apart c = place_apart c.if-self.self.last c.if-self.self.apart
