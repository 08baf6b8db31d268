use Rattle.serde_json_path_nodes.proofs.Words.{◌≡◌, ◌++◌, map, take, string_bytes, normal, step_view}
use Rattle.serde_json_path_nodes.proofs.normalized_path.NormalizedPath.push_to.Given as goal

-- the text of the steps so far is appended
abbrev pub invariant-loop-element : goal.invariant-loop-element
invariant-loop-element l = string_bytes l.text ≡ string_bytes l.fn.text ++ normal (map step_view (take l.element-index l.element-items))
