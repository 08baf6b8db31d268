-- A plan grows by rows for the queries in a part of a tree.
use Rattle.serde_json_path_reach.proofs.Words.{Part, arith, branch_at, branches, branches_named, drop, get_or, is_end, is_segment, length, length-drop, nodes_in, number_of, one_is, refl, rules, segments_at, take, take_all, true, within_get, ◌+◌, ◌-◌, ◌≡◌}
use Rattle.serde_json_path_reach.proofs.Plans.{if_ok, selectors_there, ors_there, ands_there, arguments_there, sides_there, gains_none, gains_some, gains_both, gains_current, gains_root, gains_segment, one_more_part, first_part, no_part}
use Rattle.serde_json_path_reach.proofs.Rows.{whole_one, place_two, whole_ends, place_ends}
use Rattle.serde_json_path_reach.proofs.plan.Plan.+plan.Goals as goal
use Rattle.serde_json_path_reach.proofs.plan.Plan.+plan.Goals.{add_segments-then-places, add_segments-else-places}

pub add-returns-in-Root : goal.add-returns-in-Root
add-returns-in-Root t c =
    rw (c.node.ensures.branch, c.in-Query.is, c.in-Root.is, ← c.as_slice.ensures.value)
    (gains_root c.args.self.now c.add_segments.new.self _ c.in_ok-first-in-Query.first c.in_ok-first-in-Query.asked (segments_at (nodes_in c.args.query.now) c.as_slice.result.now) refl refl
    c.in_ok-first-in-Query.ensures.first c.in_ok-first-in-Query.ensures.gains)

pub add-returns-in-Current : goal.add-returns-in-Current
add-returns-in-Current t c =
    rw (c.node.ensures.branch, c.in-Query.is, c.in-Current.is, ← c.as_slice.ensures.value)
    (gains_current c.args.self.now c.add_segments.new.self c.in_ok-first-in-Query.first c.in_ok-first-in-Query.asked (segments_at (nodes_in c.args.query.now) c.as_slice.result.now)
    c.in_ok-first-in-Query.ensures.first c.in_ok-first-in-Query.ensures.gains)

pub add-returns-in-LongHand : goal.add-returns-in-LongHand
add-returns-in-LongHand t c =
    rw (c.node.ensures.branch, c.in-Segment.is, c.in-LongHand.is, ← c.as_slice-in-LongHand.ensures.value)
    (if_ok _ _ c.add_all.result (λ m g. gains_some _ _ m _ _ (selectors_there (branches_named (branches (nodes_in c.args.query.now)) c.as_slice-in-LongHand.result.now)) g) c.add_all.ensures)

pub add-returns-in-LogicalOr : goal.add-returns-in-LogicalOr
add-returns-in-LogicalOr t c =
    rw (c.node.ensures.branch, c.in-LogicalOr.is, ← c.as_slice-in-LogicalOr.ensures.value)
    (if_ok _ _ c.add_all-in-LogicalOr.result (λ m g. gains_some _ _ m _ _ (ors_there (branches_named (branches (nodes_in c.args.query.now)) c.as_slice-in-LogicalOr.result.now)) g) c.add_all-in-LogicalOr.ensures)

pub add-returns-in-LogicalAnd : goal.add-returns-in-LogicalAnd
add-returns-in-LogicalAnd t c =
    rw (c.node.ensures.branch, c.in-LogicalAnd.is, ← c.as_slice-in-LogicalAnd.ensures.value)
    (if_ok _ _ c.add_all-in-LogicalAnd.result (λ m g. gains_some _ _ m _ _ (ands_there (branches_named (branches (nodes_in c.args.query.now)) c.as_slice-in-LogicalAnd.result.now)) g) c.add_all-in-LogicalAnd.ensures)

pub add-returns-in_ok-add-in-Relation : goal.add-returns-in_ok-add-in-Relation
add-returns-in_ok-add-in-Relation t c =
    rw (c.node.ensures.branch, c.in-Basic.is, c.in-Relation.is)
    (gains_some _ _ _ _ _ (sides_there (branch_at (nodes_in c.args.query.now) (number_of c.in-Relation.left)) (branch_at (nodes_in c.args.query.now) (number_of c.in-Relation.right)))
    (gains_both c.args.self.now c.add-in-Relation.new.self c.add-in-Relation-2.new.self _ _ _ _ c.in_ok-asked-in-Relation.ensures c.in_ok-add-in-Relation.ensures))

pub add-returns-in-Call : goal.add-returns-in-Call
add-returns-in-Call t c =
    rw (c.node.ensures.branch, c.in-Call.is, ← c.as_slice-in-Call.ensures.value)
    (if_ok _ _ c.add_all-in-Call.result (λ m g. gains_some _ _ m _ _ (arguments_there (branches_named (branches (nodes_in c.args.query.now)) c.as_slice-in-Call.result.now)) g) c.add_all-in-Call.ensures)

pub add_all-add-requires : goal.add_all-add-requires
add_all-add-requires t c =
    let below = within_get c.args.parts.now c.loop-part.part-index (record { number = 0 }) c.loop-part-test.true in
    search rules

pub add_all-loop-part-preserved : goal.add_all-loop-part-preserved
add_all-loop-part-preserved t c =
    rw (one_more_part (branches (nodes_in c.args.query.now)) c.args.parts.now c.loop-part.part-index (record { number = 0 }) c.loop-part-test.true)
    (gains_both c.args.self.now c.loop-part.self c.add.new.self _ _ _ _ c.loop-part.invariant c.in_ok-asked.ensures)

pub add_segments-segments-init : goal.add_segments-segments-init
add_segments-segments-init t c =
    let none = no_part (nodes_in c.args.query.now) c.args.segments.now in
    let ends : is_end c.args.places c.if-places.first ≡ true = elim c.if-places.branch [
      | add_segments-then-places w ↦ rw w.first-is (place_ends c.args.places 2 w.if-places.true place_two)
      | add_segments-else-places w ↦ rw w.first-is (whole_ends c.args.places 1 whole_one)
    ] in
    record { within = omega arith; gains = rw none (gains_none _); first = rw none ends }

pub add_segments-add-requires : goal.add_segments-add-requires
add_segments-add-requires t c =
    let below = within_get c.args.segments.now (c.segments.number - 1) (record { number = 0 }) (omega (arith, c.segments.invariant.within)) in
    search rules

pub add_segments-add_row-requires-clause-within : goal.add_segments-add_row-requires-clause-within
add_segments-add_row-requires-clause-within t c =
    let below = within_get c.args.segments.now (c.segments.number - 1) (record { number = 0 }) (omega (arith, c.segments.invariant.within)) in
    omega (arith, c.requires.within)

pub add_segments-add_row-requires-clause-kind : goal.add_segments-add_row-requires-clause-kind
add_segments-add_row-requires-clause-kind t c =
    one_is is_segment (branches (nodes_in c.args.query.now)) c.args.segments.now (c.segments.number - 1) (record { number = 0 }) (omega (arith, c.segments.invariant.within)) c.requires.are

pub add_segments-segments-preserved : goal.add_segments-segments-preserved
add_segments-segments-preserved t c =
    let i = c.segments.invariant in
    let nodes = nodes_in c.args.query.now in
    let parts = c.args.segments.now in
    let n = c.segments.number - 1 in
    let part : Part = get_or parts n (record { number = 0 }) in
    let last : n + 1 ≡ c.segments.number = omega arith in
    let here = first_part nodes parts n (record { number = 0 }) (omega (arith, i.within)) in
    let rest : take (length parts - (n + 1)) (drop (n + 1) parts) ≡ drop (n + 1) parts = take_all _ (drop (n + 1) parts) (omega (arith, length-drop (n + 1) parts)) in
    let both = gains_segment c.args.self.now c.segments.self c.add.new.self c.add_row.new.self c.args.places c.segments.asked c.in_ok-here.here c.segments.first _ (branch_at nodes (number_of part)) _ _
    (rw (← last) at i.gains) (rw (← last) at i.first) c.in_ok-here.ensures (rw rest at c.in_ok-first.ensures) in
    record { within = omega (arith, i.within); gains = rw here both.0; first = rw here both.1 }

pub add_segments-returns-clause-gains : goal.add_segments-returns-clause-gains
add_segments-returns-clause-gains t c = let start : c.segments.number ≡ 0 = omega arith in rw start at c.segments.invariant.gains
