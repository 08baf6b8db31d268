use Rattle.serde_json_path_reach.proofs.Words.{nodes_in, refl, segments_at}
use Rattle.serde_json_path_reach.proofs.Plans.{gains_more}
use Rattle.serde_json_path_reach.proofs.Rows.{includes_right}
use Rattle.serde_json_path_reach.proofs.plan.Plan.add_path.Goals as goal

pub returns-clause-inside : goal.returns-clause-inside
returns-clause-inside c = (
  c.in_ok-first.field-0-1,
  rw (← c.segments.ensures.tree) (gains_more c.args.self.now c.add_segments.new.self _ c.in_ok-first.first c.in_ok-first.field-0-1 _ refl refl c.in_ok-first.ensures.gains),
)

pub returns-clause-itself : goal.returns-clause-itself
returns-clause-itself c =
    let segs = segments_at (nodes_in c.args.path.now) c.segments.result.now in
    rw (← c.segments.ensures.tree) (includes_right c.add_segments.new.self.rows.items c.add_segments.new.self.at_root c.in_ok-first.first c.args.places segs c.in_ok-first.ensures.first)
