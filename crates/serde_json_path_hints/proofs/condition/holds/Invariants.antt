-- A part is in the text if it is in the rest, as it starts nowhere before that.
use Rattle.std.proofs.Common.{◌≡◌, length}
use Rattle.serde_json_path_hints.specs.Conditions.{holds}
use Rattle.serde_json_path_hints.proofs.condition.holds.Given as goal

abbrev pub invariant-loop-rest : goal.invariant-loop-rest
invariant-loop-rest l = holds l.rest l.part ≡ holds l.text l.part

abbrev pub decreases-loop-rest : goal.decreases-loop-rest
decreases-loop-rest l = length l.rest
