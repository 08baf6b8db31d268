use Rattle.serde_json_path_syntax.proofs.Words.{◌≡◌, length, take, vec_capacity, vec_len}
use Rattle.serde_json_path_syntax.specs.Words.{AreBoundCopies, pairs_of, value_in}
use Rattle.serde_json_path_syntax.proofs.copies.bound_copies_of.Given as goal

abbrev pub invariant-loop-node : goal.invariant-loop-node
invariant-loop-node l = record {
  copied : AreBoundCopies (value_in (pairs_of l.bindings)) (take l.node-index l.nodes) l.copies.items;
  room : vec_capacity l.copies ≡ length l.nodes;
  long : vec_len l.copies ≡ l.node-index;
}
