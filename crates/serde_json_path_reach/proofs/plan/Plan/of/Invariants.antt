use Rattle.serde_json_path_reach.proofs.Words.{AreRight, AsksAll, take, trees_of}
use Rattle.serde_json_path_reach.proofs.plan.Plan.of.Given as goal

abbrev pub invariant-loop-path : goal.invariant-loop-path
invariant-loop-path l = record {
  right : AreRight l.plan.rows.items;
  asks : AsksAll l.plan l.places (trees_of (take l.path-index l.paths));
}
