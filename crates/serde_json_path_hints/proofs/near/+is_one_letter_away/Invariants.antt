use Rattle.std.proofs.Common.{length}
use Rattle.serde_json_path_hints.proofs.near.+is_one_letter_away.Given as goal

abbrev pub decreases-is_one_letter_away : goal.decreases-is_one_letter_away
decreases-is_one_letter_away l = length l.name.now
