-- Nodes of which each location is wanted once, up to a limit.
use Rattle.std.specs.Prelude.{◌≡◌, ◌<◌, ◌++◌, ◌⊎◌, ◌*◌, max, ℕ, List, [], Option, Some, None, length}
use Rattle.serde_json_path_nodes.specs.Location.{Located}

-- a limit, if there is one, is exceeded
abbrev pub IsExceeded : Option ℕ → ℕ → Type 0
IsExceeded None count = ⊥
IsExceeded (Some most) count = most < count

-- what is found of some nodes is enough to have the first of them, up to a limit: it is all, or their beginning and more
abbrev pub AreEnough : Option ℕ → List Located → List Located → Type 0
AreEnough limit nodes found = (later : List Located) × (nodes ≡ found ++ later) × ((later ≡ []) ⊎ IsExceeded limit (length found))

-- how many nodes are held at most, of which so many differ in their locations
abbrev pub most_held : ℕ → ℕ
most_held differing = max 64 (4 * differing)
