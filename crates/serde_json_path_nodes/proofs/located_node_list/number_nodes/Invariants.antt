use Rattle.serde_json_path_nodes.proofs.Words.{◌≡◌, ℕ, ◌<◌, get_or, map, located, LocatedNode}
use Rattle.serde_json_path_nodes.proofs.located_node_list.number_nodes.Given as goal

-- the nodes that the loop has passed are numbered, and contracts see no difference
abbrev pub invariant-loop-number : goal.invariant-loop-number
invariant-loop-number l = record {
  numbered : (k : ℕ) (d : LocatedNode) → k < l.number → (get_or l.nodes k d).number ≡ k;
  same : map located l.nodes ≡ map located l.fn.nodes;
}
