use Rattle.jsonpath_owned_nodes.proofs.Words.{◌≡◌, map, drop, view, at, step_in}
use Rattle.jsonpath_owned_nodes.proofs.owned_nodes.OwnedNodes.value_in.Given as goal

-- the steps that are left lead from the value where all of them lead from the document
abbrev pub invariant-loop-step : goal.invariant-loop-step
invariant-loop-step l = at (view l.value) (map (step_in l.names) (drop l.step-index l.steps)) ≡ at (view l.fn.document) (map (step_in l.names) l.steps)
