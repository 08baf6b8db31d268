-- The range of the numbers in a tree, and the double of a decimal.
use Rattle.std.specs.Prelude.{ℤ, pos, ◌^◌, ◌*◌, ◌-◌, ◌-ℤ◌, ◌≤ℤ◌, Float, Option, Some, None}
use Rattle.serde_json.specs.Data.{Data, number, float}
use Rattle.serde_json_path_syntax.specs.Tree.{IsInteger}

-- -2 ^ 63 to 2 ^ 64 - 1, in billionths
abbrev pub IsLiteralAmount : ℤ → Type 0
IsLiteralAmount amount = ((pos 0 -ℤ pos (2 ^ 63 * 1000000000)) ≤ℤ amount) × (amount ≤ℤ pos ((2 ^ 64 - 1) * 1000000000))

-- a number of a slice, which may be missing
abbrev pub IsOptionalInteger : Option ℤ → Type 0
IsOptionalInteger None = Unit {0}
IsOptionalInteger (Some i) = IsInteger i

-- the double that a value is, if it is one
abbrev pub double_in : Data → Option Float
double_in (number (float x)) = Some x
double_in _ = None
