-- Laws of exact numbers.
use Rattle.std.specs.Prelude.{◌≡◌, IsTrue, ◌⊎◌, ◌↔◌, ℤ, ◌<ℤ◌}
use Rattle.std.specs.Float.{float_is_finite}
use Rattle.std.specs.Float.Ieee.{Float}
use Rattle.serde_json_path_numbers.specs.Numbers.{integer, literal_number, IsInLiteralRange, AreEqualNumbers, IsLessNumber}

-- neither infinite nor `nan`
abbrev pub IsFinite : Float → Type 0
IsFinite x = IsTrue (float_is_finite x)

-- each number equals itself, equal numbers are equal either way round, and what is equal to the same is equal
pub record EqualityIsEquivalence : Type 0 where
  pub reflexive : (x : Float) → IsFinite x → AreEqualNumbers x x
  pub symmetric : (x y : Float) → AreEqualNumbers x y → AreEqualNumbers y x
  pub transitive : (x y z : Float) → AreEqualNumbers x y → AreEqualNumbers y z → AreEqualNumbers x z

-- one of the three holds, and neither of the others
abbrev pub IsExactlyOne : Type 0 → Type 0 → Type 0 → Type 0
IsExactlyOne A B C = (A ⊎ (B ⊎ C)) × (A → ¬ B) × (A → ¬ C) × (B → ¬ C)

-- a number is not less than itself, less is transitive, of two numbers one is less or they are equal, and equal numbers
-- are less, and greater, than the same numbers
pub record LessIsStrictOrder : Type 0 where
  pub irreflexive : (x : Float) → ¬ (IsLessNumber x x)
  pub transitive : (x y z : Float) → IsLessNumber x y → IsLessNumber y z → IsLessNumber x z
  pub total : (x y : Float) → IsFinite x → IsFinite y → IsExactlyOne (IsLessNumber x y) (AreEqualNumbers x y) (IsLessNumber y x)
  pub equal_below : (x y z : Float) → AreEqualNumbers x y → IsLessNumber y z → IsLessNumber x z
  pub equal_above : (x y z : Float) → IsLessNumber x y → AreEqualNumbers y z → IsLessNumber x z

-- integers and literals are finite; a document's double is, as its type says
pub record NumbersAreFinite : Type 0 where
  pub integers : (z : ℤ) → IsFinite (integer z)
  pub literals : (b : ℤ) → IsInLiteralRange b → IsFinite (literal_number b)

-- integers are equal, and less, just where they are so as integers
pub record IntegersKeepTheirOrder : Type 0 where
  pub equal : (a b : ℤ) → AreEqualNumbers (integer a) (integer b) ↔ (a ≡ b)
  pub less : (a b : ℤ) → IsLessNumber (integer a) (integer b) ↔ (a <ℤ b)
