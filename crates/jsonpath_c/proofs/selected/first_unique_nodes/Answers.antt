use Rattle.jsonpath_c.proofs.Words.{map, first_places, located, rest}
use Rattle.jsonpath_c.proofs.Firsts.{first_of_enough}
use Rattle.jsonpath_c.proofs.selected.first_unique_nodes.Goals as goal

pub returns-clause-nodes : goal.returns-clause-nodes
returns-clause-nodes g c =
    let first = c.in_ok-first_of.field-0 in
    let listed = rw c.as_slice.ensures.value at c.in_ok-first_of.ensures in
    first_of_enough c.args.limits.now (first_places (rest c.args.walk)) (map located c.in_ok-found.found.items) first.nodes first.all c.in_ok-found.ensures.nodes listed
