use Rattle.serde_json_path_nodes.proofs.Words.{◌≡◌, map, take, string_bytes, pointer, step_view}
use Rattle.serde_json_path_nodes.proofs.normalized_path.NormalizedPath.to_json_pointer.Given as goal

abbrev pub invariant-loop-element : goal.invariant-loop-element
invariant-loop-element l = string_bytes l.text ≡ pointer (map step_view (take l.element-index l.element-items))
