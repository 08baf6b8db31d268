-- How far down a document goes.
use Rattle.std.specs.Prelude.{◌≡◌, ◌≤◌, ℕ, List, length, Some}
use Rattle.serde_json_path_core.specs.Imports.{Data, Step, at}

-- the length of the document's longest location: none is longer, and some location is that long
abbrev pub IsHeight : Data → ℕ → Type 0
IsHeight document n =
    ((location : List Step) (v : Data) → at document location ≡ Some v → length location ≤ n)
    × ((location : List Step) × (v : Data) × (at document location ≡ Some v) × (length location ≡ n))
