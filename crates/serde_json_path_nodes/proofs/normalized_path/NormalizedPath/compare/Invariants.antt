use Rattle.serde_json_path_nodes.proofs.Words.{◌≡◌, length, map, vec_len, nat_cmp, location_cmp, step_view, iter_rest}
use Rattle.serde_json_path_nodes.proofs.normalized_path.NormalizedPath.compare.Given as goal

-- the steps that are left decide as the whole locations do, and so do their numbers
abbrev pub invariant-loop-mine : goal.invariant-loop-mine
invariant-loop-mine l = record {
  order : location_cmp (map step_view (iter_rest l.mine-iterator.a)) (map step_view (iter_rest l.mine-iterator.b)) ≡ location_cmp l.fn.self l.fn.other;
  lengths : nat_cmp (length (iter_rest l.mine-iterator.a)) (length (iter_rest l.mine-iterator.b)) ≡ nat_cmp (vec_len l.self-inside.steps) (vec_len l.other-inside.steps);
}
