-- Which positions of an array a slice selects (RFC 9535, section 2.3.4.2).
use Rattle.std.specs.Prelude.{◌≡◌, ℕ, ℤ, pos, ◌+ℤ◌, ◌-ℤ◌, ◌*ℤ◌, ◌<ℤ◌, ◌≤ℤ◌, int_lt, Option, unwrap_or, if◌then◌else◌, ◌⊎◌}
use Rattle.serde_json_path_core.specs.Imports.{int_max, int_min, Slice}

-- a missing step is 1
abbrev pub step_of : Slice → ℤ
step_of s = unwrap_or s.step (pos 1)

-- a negative bound counts from the end
abbrev pub from_end : ℤ → ℤ → ℤ
from_end len bound = if int_lt bound (pos 0) then bound +ℤ len else bound

-- the bound that is given, or its default, counted from the end where it is negative, and cut to low .. high
abbrev pub bound_of : ℤ → Option ℤ → ℤ → ℤ → ℤ → ℤ
bound_of len given default low high = int_min high (int_max low (from_end len (unwrap_or given default)))

-- a step above 0: from the start upwards, a whole number of steps, below the end
abbrev pub SelectsRising : Slice → ℤ → ℤ → Type 0
SelectsRising s len p =
    let start = bound_of len s.start (pos 0) (pos 0) len in
    let end = bound_of len s.end len (pos 0) len in
    (pos 0 <ℤ step_of s) × (start ≤ℤ p) × (p <ℤ end) × (n : ℕ) × (p ≡ (start +ℤ (pos n *ℤ step_of s)))

-- a step below 0: from the start downwards, a whole number of steps, above the end
abbrev pub SelectsFalling : Slice → ℤ → ℤ → Type 0
SelectsFalling s len p =
    let last = len -ℤ pos 1 in
    let start = bound_of len s.start last (pos 0 -ℤ pos 1) last in
    let end = bound_of len s.end ((pos 0 -ℤ len) -ℤ pos 1) (pos 0 -ℤ pos 1) last in
    (step_of s <ℤ pos 0) × (end <ℤ p) × (p ≤ℤ start) × (n : ℕ) × (p ≡ (start +ℤ (pos n *ℤ step_of s)))

-- the slice selects that position of an array of that length; step 0 selects none
abbrev pub SelectsPosition : Slice → ℕ → ℕ → Type 0
SelectsPosition s len p = SelectsRising s (pos len) (pos p) ⊎ SelectsFalling s (pos len) (pos p)
