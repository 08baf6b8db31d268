use Rattle.serde_json_path_reach.proofs.Words.{branches, is_segment, nodes_in, one_is, rules, within_get}
use Rattle.serde_json_path_reach.proofs.document.is_narrow.Goals as goal

pub selector_ref-selector-requires-clause-within : goal.selector_ref-selector-requires-clause-within
selector_ref-selector-requires-clause-within c =
    let below = within_get c.args.segments.now c.loop-segment.segment-index (record { number = 0 }) c.loop-segment-test.true in
    search rules

pub selector_ref-selector-requires-clause-kind : goal.selector_ref-selector-requires-clause-kind
selector_ref-selector-requires-clause-kind c =
    one_is is_segment (branches (nodes_in c.args.query.now)) c.args.segments.now c.loop-segment.segment-index (record { number = 0 }) c.loop-segment-test.true c.requires.are
