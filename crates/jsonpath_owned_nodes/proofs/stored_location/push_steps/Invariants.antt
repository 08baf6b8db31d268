use Rattle.jsonpath_owned_nodes.proofs.Words.{◌≡◌, string_bytes, BeginsWith}
use Rattle.jsonpath_owned_nodes.proofs.Kept.{IsBegun}
use Rattle.jsonpath_owned_nodes.proofs.stored_location.push_steps.Given as goal

-- the steps that were passed are stored, the others are still to come
abbrev pub invariant-loop-element : goal.invariant-loop-element
invariant-loop-element l = record {
  grown : BeginsWith (string_bytes l.names) (string_bytes l.fn.names);
  ended : l.locations.ended ≡ l.fn.locations.ended;
  begun : IsBegun (string_bytes l.names) l.locations.begun l.element-iterator l.fn.location;
}
