use Rattle.serde_json_path_core.proofs.Words.{◌≡◌, ◌++◌, length, map, view, Step, Data, node_value, children, cursor_left}
use Rattle.serde_json_path_core.proofs.evaluation.child_values.child_values.Given as goal

abbrev pub invariant-loop-child : goal.invariant-loop-child
invariant-loop-child l =
    map node_value l.found.items ++ map (λ (c : Step × Data). c.1) (cursor_left l.left) ≡ map (λ (c : Step × Data). c.1) (children (view l.fn.value))

abbrev pub decreases-loop-child : goal.decreases-loop-child
decreases-loop-child l = length (cursor_left l.left)
