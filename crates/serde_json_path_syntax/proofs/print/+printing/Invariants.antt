use Rattle.serde_json_path_syntax.proofs.Words.{◌+◌, ◌*◌, [], codes, HasWritten, IsPlainFormatter, basic_parts, operand_parts, parts_bound, nodes_in, branches}
use Rattle.serde_json_path_syntax.proofs.Printing.{begun}
use Rattle.serde_json_path_syntax.proofs.print.+printing.Given as goal

-- a function that writes a part goes to parts with lower numbers

abbrev pub decreases-write_path : goal.decreases-write_path
decreases-write_path g l = 4 * parts_bound l.segments.now + 1

abbrev pub decreases-write_segment : goal.decreases-write_segment
decreases-write_segment g l = 4 * l.segment.number + 2

abbrev pub decreases-write_selectors : goal.decreases-write_selectors
decreases-write_selectors g l = 4 * parts_bound l.selectors.now + 1

abbrev pub decreases-write_selector : goal.decreases-write_selector
decreases-write_selector g l = 4 * l.selector.number + 2

abbrev pub decreases-write_part : goal.decreases-write_part
decreases-write_part g l = 4 * l.part.number + 3

abbrev pub decreases-write_joined : goal.decreases-write_joined
decreases-write_joined g l = 4 * parts_bound l.parts.now + 1

abbrev pub decreases-write_basic : goal.decreases-write_basic
decreases-write_basic g l = 4 * parts_bound (basic_parts l.basic.now) + 1

abbrev pub decreases-write_operand : goal.decreases-write_operand
decreases-write_operand g l = 4 * parts_bound (operand_parts l.operand.now) + 1

-- ---- what is printed of the parts after the first one, since that was printed

abbrev pub invariant-write_path-loop-segment : goal.invariant-write_path-loop-segment
invariant-write_path-loop-segment g l =
    IsPlainFormatter l.initial.f → HasWritten g.W.Write.write_str_gives l.initial.f (begun [] (branches (nodes_in l.fn.tree)) l.others l.segment-index) l.f

abbrev pub invariant-write_selectors-loop-selector : goal.invariant-write_selectors-loop-selector
invariant-write_selectors-loop-selector g l =
    IsPlainFormatter l.initial.f → HasWritten g.W.Write.write_str_gives l.initial.f (begun (codes ", ") (branches (nodes_in l.fn.tree)) l.others l.selector-index) l.f

abbrev pub invariant-write_joined-loop-part : goal.invariant-write_joined-loop-part
invariant-write_joined-loop-part g l =
    IsPlainFormatter l.initial.f → HasWritten g.W.Write.write_str_gives l.initial.f (begun l.fn.separator (branches (nodes_in l.fn.tree)) l.others l.part-index) l.f
