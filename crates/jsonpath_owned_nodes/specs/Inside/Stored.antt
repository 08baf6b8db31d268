-- Locations whose names stand in one text that all of them share.
use Rattle.std.specs.Prelude.{◌≡◌, ℕ, ◌≤◌, List, [], ◌∷◌, ◌++◌, length, map, slice_range}
use Rattle.std.specs.List.{All}
use Rattle.serde_json_path_nodes.specs.Words.{IsCharBoundary, Step, by_name, by_position}
use Rattle.jsonpath_owned_nodes.specs.Kept.{KeptNode}
use Rattle.jsonpath_owned_nodes.specs.declared.node_info.NodeInfo.{NodeInfo}
use Rattle.jsonpath_owned_nodes.specs.declared.stored_step.StoredStep.{StoredStep}
use Rattle.jsonpath_owned_nodes.specs.declared.stored_step.StoredStep.TheVariants.{Name, Index}

-- the step that is stored, with its name out of that text
abbrev pub step_in : List ℕ → StoredStep → Step
step_in names (Name start end) = by_name (slice_range names start end)
step_in names (Index index) = by_position index

-- its name stands in that text, from one character on and up to another
abbrev pub IsStored : List ℕ → StoredStep → Type 0
IsStored names (Name start end) = (start ≤ end) × IsCharBoundary names start × IsCharBoundary names end
IsStored names (Index index) = Unit {0}

-- the location that these steps store
pub record IsLocation (names : List ℕ) (steps : List StoredStep) (location : List Step) : Type 0 where
  pub stored : All (IsStored names) steps
  pub same : map (step_in names) steps ≡ location

-- a text that goes on after another
abbrev pub BeginsWith : List ℕ → List ℕ → Type 0
BeginsWith text front = (more : List ℕ) × (text ≡ front ++ more)

-- the nodes whose parts these are: the names of all, and of each its steps and what is known of it
abbrev pub nodes_in : List ℕ → List (List StoredStep) → List NodeInfo → List KeptNode
nodes_in names (steps ∷ others) (info ∷ infos) =
    record { location = map (step_in names) steps; info = info } ∷ nodes_in names others infos
nodes_in names _ _ = []

-- the parts belong together
pub record AreParts (names : List ℕ) (locations : List (List StoredStep)) (infos : List NodeInfo) : Type 0 where
  pub one_each : length locations ≡ length infos
  pub stored : All (All (IsStored names)) locations
