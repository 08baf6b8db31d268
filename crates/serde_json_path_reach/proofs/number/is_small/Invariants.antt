use Rattle.serde_json_path_reach.proofs.Words.{false, ℕ, ◌<◌, ◌≡◌, ◌==◌, ◌||◌}
use Rattle.fast_float.specs.Text.{lower_e, upper_e}
use Rattle.std.specs.Prelude.{slice_index}
use Rattle.serde_json_path_reach.proofs.number.is_small.Given as goal

abbrev pub invariant-loop-byte : goal.invariant-loop-byte
invariant-loop-byte l = (i : ℕ) → i < l.byte-index → (slice_index l.bytes i == lower_e || slice_index l.bytes i == upper_e) ≡ false
