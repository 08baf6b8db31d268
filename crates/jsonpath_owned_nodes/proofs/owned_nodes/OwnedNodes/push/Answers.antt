use Rattle.jsonpath_owned_nodes.proofs.Kept.{parts_more}
use Rattle.jsonpath_owned_nodes.proofs.owned_nodes.OwnedNodes.push.Goals as goal

pub invariant_of-self-2 : goal.invariant_of-self-2
invariant_of-self-2 c =
    let stored = c.in_ok-push_location.ensures in
    rw (stored.added.1, c.push_reserved.ensures.items, c.reserve.ensures.items)
    (parts_more c.self.inside.names c.push_location.new.names stored.grown _ _ stored.added.0 c.of.result _ c.self.invariant stored.added.2)
