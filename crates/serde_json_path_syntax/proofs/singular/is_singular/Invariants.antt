use Rattle.serde_json_path_syntax.proofs.Words.{◌↔◌, drop, AreSingular, IsSingular, part_query, segments_at}
use Rattle.serde_json_path_syntax.proofs.singular.is_singular.Given as goal

abbrev pub invariant-loop-segment : goal.invariant-loop-segment
invariant-loop-segment l = IsSingular (part_query l.fn.arena.nodes.items l.fn.query) ↔ AreSingular (segments_at l.fn.arena.nodes.items (drop l.segment-index l.segment-items))
