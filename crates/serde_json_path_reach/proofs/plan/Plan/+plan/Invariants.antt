use Rattle.serde_json_path_reach.proofs.Words.{Gains, Includes, branches, branches_named, drop, length, nodes_in, parts_bound, queries_in_branches, queries_in_segments, segments_at, take, ◌*◌, ◌+◌, ◌≤◌}
use Rattle.serde_json_path_reach.proofs.plan.Plan.+plan.Given as goal

abbrev pub decreases-add : goal.decreases-add
decreases-add l = 2 * l.part.number + 1

abbrev pub decreases-add_all : goal.decreases-add_all
decreases-add_all l = 2 * parts_bound l.parts.now

abbrev pub decreases-add_segments : goal.decreases-add_segments
decreases-add_segments l = 2 * parts_bound l.segments.now

abbrev pub invariant-add_all-loop-part : goal.invariant-add_all-loop-part
invariant-add_all-loop-part l = Gains l.initial.self l.self l.asked (queries_in_branches (branches_named (branches (nodes_in l.query)) (take l.part-index l.parts)))

abbrev pub invariant-add_segments-segments : goal.invariant-add_segments-segments
invariant-add_segments-segments l = record {
  within : l.number ≤ length l.segments;
  gains : Gains l.initial.self l.self l.asked (queries_in_segments (segments_at (nodes_in l.query) (drop l.number l.segments)));
  first : Includes l.self.rows.items l.first l.places (segments_at (nodes_in l.query) (drop l.number l.segments));
}

abbrev pub decreases-add_segments-segments : goal.decreases-add_segments-segments
decreases-add_segments-segments l = l.number
