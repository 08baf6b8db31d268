-- What contracts of private functions cite: what holds a number, and the order of two.
use Rattle.std.specs.Prelude.{◌≡◌, ℕ, Option, ◌^◌, Bool, nat_lt, unsigned_abs}
use Rattle.std.specs.declared.cmp.Ordering.{Ordering}
use Rattle.std.specs.declared.cmp.Ordering.TheVariants.{Less, Equal, Greater}
use Rattle.std.specs.Float.{float_is_finite}
use Rattle.std.specs.Float.Ieee.{Float}
use Rattle.serde_json_path_numbers.specs.Numbers.{integer, AreEqualNumbers, IsLessNumber}
use Rattle.serde_json_path_numbers.specs.Numerals.{Amount, held_or}
use Rattle.serde_json_path_numbers.specs.declared.exact_number.Form.{Form}
use Rattle.serde_json_path_numbers.specs.declared.exact_number.Form.TheVariants.{Integer, Double}

-- the number that is held
abbrev pub held_number : Form → Float
held_number (Integer n) = integer n
held_number (Double x) = x

-- an integer of 64 bits and a sign, or a finite double
abbrev pub is_exact : Form → Bool
is_exact (Integer n) = nat_lt (unsigned_abs n) (2 ^ 64)
is_exact (Double x) = float_is_finite x

-- the first is less than, equal to or greater than the second
abbrev pub IsOrder : Float → Float → Ordering → Type 0
IsOrder x y Less = IsLessNumber x y
IsOrder x y Equal = AreEqualNumbers x y
IsOrder x y Greater = IsLessNumber y x

-- the two are held alike, whatever comes next
abbrev pub AreHeldAlike : Option ℕ → Option ℕ → Type 0
AreHeldAlike a b = (negative : Bool) (other : Option Amount) → held_or negative a other ≡ held_or negative b other
