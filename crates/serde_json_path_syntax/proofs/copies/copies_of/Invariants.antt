use Rattle.serde_json_path_syntax.proofs.Words.{◌≡◌, length, take, vec_capacity, vec_len, AreCopies}
use Rattle.serde_json_path_syntax.proofs.copies.copies_of.Given as goal

abbrev pub invariant-loop-node : goal.invariant-loop-node
invariant-loop-node l = record {
  copied : AreCopies (take l.node-index l.nodes) l.copies.items;
  room : vec_capacity l.copies ≡ length l.nodes;
  long : vec_len l.copies ≡ l.node-index;
}
