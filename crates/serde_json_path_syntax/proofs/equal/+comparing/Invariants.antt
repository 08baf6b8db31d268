use Rattle.serde_json_path_syntax.proofs.Words.{◌+◌, ◌*◌, basic_parts, operand_parts, segment_parts, selector_parts, parts_bound, nodes_in, branches, iter_rest}
use Rattle.serde_json_path_syntax.proofs.Equality.{AreLeft}
use Rattle.serde_json_path_syntax.proofs.equal.+comparing.Given as goal

-- a function that compares two parts goes to parts with lower numbers

abbrev pub decreases-same_parts : goal.decreases-same_parts
decreases-same_parts l = 4 * parts_bound l.lefts.now + 1

abbrev pub decreases-same_part : goal.decreases-same_part
decreases-same_part l = 4 * l.left.number + 3

abbrev pub decreases-same_segment : goal.decreases-same_segment
decreases-same_segment l = 4 * parts_bound (segment_parts l.left.now) + 2

abbrev pub decreases-same_selector : goal.decreases-same_selector
decreases-same_selector l = 4 * parts_bound (selector_parts l.left.now) + 2

abbrev pub decreases-same_basic : goal.decreases-same_basic
decreases-same_basic l = 4 * parts_bound (basic_parts l.left.now) + 2

abbrev pub decreases-same_operand : goal.decreases-same_operand
decreases-same_operand l = 4 * parts_bound (operand_parts l.left.now) + 2

-- the parts that are left, where those before are alike
abbrev pub invariant-same_parts-loop-left : goal.invariant-same_parts-loop-left
invariant-same_parts-loop-left l =
    AreLeft (branches (nodes_in l.fn.mine)) (branches (nodes_in l.fn.theirs)) l.fn.lefts l.fn.rights (iter_rest l.left-iterator.a) (iter_rest l.left-iterator.b)
