-- The word goes as far as the loop has come, and then as far as the word of what is left.
use Rattle.std.proofs.Common.{◌≡◌, ◌+◌, drop}
use Rattle.std.specs.List.{prefix_len}
use Rattle.serde_json_path_hints.specs.Conditions.{is_name_byte}
use Rattle.serde_json_path_hints.proofs.condition.word.Given as goal

abbrev pub invariant-loop-end : goal.invariant-loop-end
invariant-loop-end l =
    prefix_len is_name_byte l.text ≡ l.end + prefix_len is_name_byte (drop l.end l.text)
