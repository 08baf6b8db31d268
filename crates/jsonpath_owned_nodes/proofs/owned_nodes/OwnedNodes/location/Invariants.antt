use Rattle.jsonpath_owned_nodes.proofs.Words.{◌≡◌, map, take, step_view, step_in}
use Rattle.jsonpath_owned_nodes.proofs.owned_nodes.OwnedNodes.location.Given as goal

-- the elements are the steps that were passed
abbrev pub invariant-loop-step : goal.invariant-loop-step
invariant-loop-step l = map step_view l.elements.items ≡ map (step_in l.names) (take l.step-index l.steps)
