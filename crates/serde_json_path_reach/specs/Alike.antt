-- A value from which queries select the same as from a document.
use Rattle.std.specs.Prelude.{◌≡◌, ◌↔◌, ℕ, List, Some, map}
use Rattle.std.specs.Borrow.{Bor}
use Rattle.std.specs.Str.{IsUtf8}
use Rattle.serde_json.specs.Data.{Data}
use Rattle.serde_json.specs.Read.{read}
use Rattle.serde_json_path_nodes.specs.Location.{Located, Step}
use Rattle.serde_json_path_functions.specs.Functions.{FunctionSet}
use Rattle.serde_json_path_syntax.specs.Lists.{IsIn}
use Rattle.serde_json_path_syntax.specs.Parts.{tree_of}
use Rattle.serde_json_path_syntax.specs.Tree.{Query}
use Rattle.serde_json_path_syntax.specs.declared.checked.Checked.{Checked}
use Rattle.serde_json_path_core.specs.Selects.{Selects}

-- under every function set each of the queries has the same result: the same nodes, in the same order
abbrev pub SelectAlike : List Query → Data → Data → Type 0
SelectAlike queries d e = (F : FunctionSet) (q : Query) (nodes : List Located) → IsIn q queries → Selects F q d nodes ↔ Selects F q e nodes

-- the locations of a query's result, in order
abbrev pub SelectsPlaces : FunctionSet → Query → Data → List (List Step) → Type 0
SelectsPlaces F q d places = (nodes : List Located) × Selects F q d nodes × (map (λ node. node.location) nodes ≡ places)

-- under every function set each of the queries has a result with the same locations, in the same order
abbrev pub SelectPlacesAlike : List Query → Data → Data → Type 0
SelectPlacesAlike queries d e =
    (F : FunctionSet) (q : Query) (places : List (List Step)) → IsIn q queries → SelectsPlaces F q d places ↔ SelectsPlaces F q e places

abbrev pub trees_of : List (Bor Checked) → List Query
trees_of paths = map (λ path. tree_of path.now) paths

-- the bytes read as some document, from which the queries select the same as from the value
abbrev pub IsReadFor : List ℕ → List Query → Data → Type 0
IsReadFor bytes queries value = IsUtf8 bytes × ((document : Data) × (read bytes ≡ Some document) × SelectAlike queries document value)

-- the same of a value that has, for the queries, the places of nodes, and need not have their values
abbrev pub IsReadForPlaces : List ℕ → List Query → Data → Type 0
IsReadForPlaces bytes queries value = IsUtf8 bytes × ((document : Data) × (read bytes ≡ Some document) × SelectPlacesAlike queries document value)
