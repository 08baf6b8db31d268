-- Paths that fit the built-in functions.
use Rattle.std.specs.Prelude.{ℕ, List, [], ◌∷◌}
use Rattle.std.specs.Coded.{×_prop, Unit-prop}
use Rattle.std.proofs.Props.{props}
use Rattle.serde_json_path_functions.specs.Functions.{FunctionSet, Fits, Signature}
use Rattle.serde_json_path_functions.specs.Patterns.{builtin_functions}

-- a path that calls these fits the built-in functions
abbrev pub FitsBuiltin : List (List ℕ × Signature) → Type 0
FitsBuiltin = Fits builtin_functions

-- this is shown in one way only, as the fields of structs want
Fits-prop : (F : FunctionSet) (used : List (List ℕ × Signature)) → IsProp (Fits F used)
Fits-prop F [] = Unit-prop
Fits-prop F (u ∷ more) = ×_prop (hlevel props) (Fits-prop F more)

pub FitsBuiltin-prop : (used : List (List ℕ × Signature)) → IsProp (FitsBuiltin used)
FitsBuiltin-prop = Fits-prop builtin_functions
