-- Steps into a value, the locations that they make up, and the order of locations in a document (RFC 9535,
-- sections 1.1, 2.5.2.2 and 2.7). A value is `serde_json`'s `Data`: an object has each name once, in the
-- order of the names' bytes.
use Rattle.std.specs.Prelude.{◌≡◌, ℕ, ◌<◌, List, [], ◌∷◌, ◌⊎◌, Option, Some, None, option_and_then}
use Rattle.std.specs.Ordering.{nat_cmp}
use Rattle.std.specs.declared.cmp.Ordering.TheVariants.{Less}
use Rattle.std.specs.Cmp.Lexicographic.{slice_cmp}
use Rattle.std.specs.Str.{IsUtf8}
use Rattle.serde_json.specs.Data.{Data, array, object}
use Rattle.serde_json.specs.Find.{get_item, get_member}

-- one step down: the name of an object's member, as its bytes, or the index of an array's item, from 0
pub data Step : Type 0 where
  by_name : List ℕ → Step
  by_position : ℕ → Step

-- the child that a step leads to: the member of that name, or the item at that index
abbrev pub child_at : Data → Step → Option Data
child_at (object members) (by_name name) = get_member name members
child_at (array items) (by_position position) = get_item position items
child_at _ _ = None

-- the value that a location's steps lead to, one after the other
abbrev pub at : Data → List Step → Option Data
at value [] = Some value
at value (step ∷ steps) = option_and_then (λ child. at child steps) (child_at value step)

-- the steps are such as a document has: the bytes of each name are those of Unicode scalar values
abbrev pub IsProper : List Step → Type 0
IsProper [] = Unit {0}
IsProper (by_name name ∷ steps) = IsUtf8 name × IsProper steps
IsProper (by_position position ∷ steps) = IsProper steps

-- of two children of one value, the first in document order: by index, and by the bytes of names (which the RFC leaves
-- open)
abbrev pub StepBefore : Step → Step → Type 0
StepBefore (by_name a) (by_name b) = slice_cmp nat_cmp a b ≡ Less
StepBefore (by_position i) (by_position j) = i < j
StepBefore _ _ = ⊥

-- of two descents from one value, the first in document order: a prefix of the other comes first, else the first step
-- that differs decides
abbrev pub DescentBefore : List Step → List Step → Type 0
DescentBefore [] [] = ⊥
DescentBefore [] (t ∷ ts) = Unit {0}
DescentBefore (s ∷ ss) [] = ⊥
DescentBefore (s ∷ ss) (t ∷ ts) = StepBefore s t ⊎ ((s ≡ t) × DescentBefore ss ts)

-- a node with its location
pub record Located : Type 0 where
  pub location : List Step
  pub value : Data
