use Rattle.serde_json_path_nodes.proofs.Words.{◌≡◌, ◌++◌, string_bytes, flat_map, in_pointer, chars_rest}
use Rattle.serde_json_path_nodes.proofs.normalized_path.push_in_pointer.Given as goal

-- what is written and what is left are the whole name
abbrev pub invariant-loop-c : goal.invariant-loop-c
invariant-loop-c l = string_bytes l.text ++ flat_map in_pointer (chars_rest l.c-iterator) ≡ string_bytes l.fn.text ++ flat_map in_pointer l.fn.name
