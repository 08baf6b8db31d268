use Rattle.serde_json_path_reach.proofs.Words.{nodes_in}
use Rattle.serde_json_path_reach.proofs.row.Row.may_admit.Goals as goal

pub returns-in-Named : goal.returns-in-Named
returns-in-Named c = rw c.in-Named.is (c.may_admit.ensures (nodes_in c.args.self.now.query.now))
