-- What the calls of a list of nodes answer (RFC 9535, section 1.1).
use Rattle.std.specs.Prelude.{Bool, List, [], ◌∷◌, ◌++◌, length, Option, Some, None, Result, Ok, Err, if◌then◌else◌}
use Rattle.std.specs.List.{list_any}
use Rattle.serde_json_path_nodes.specs.Location.{Step, Located}
use Rattle.serde_json_path_nodes.specs.Same.{same_steps}
use Rattle.serde_json_path_nodes.specs.declared.error.AtMostOneError.{AtMostOneError}
use Rattle.serde_json_path_nodes.specs.declared.error.ExactlyOneError.{ExactlyOneError}
use Rattle.serde_json_path_nodes.specs.declared.error.ExactlyOneError.TheVariants.{Empty, MoreThanOne}

-- whether a location is among these
abbrev pub is_among : List Step → List (List Step) → Bool
is_among location locations = list_any (same_steps location) locations

-- of nodes that follow those at the locations `earlier`, the ones whose location does not occur before them
abbrev pub first_places_after : List (List Step) → List Located → List Located
first_places_after earlier [] = []
first_places_after earlier (node ∷ nodes) =
    (if is_among node.location earlier then [] else node ∷ []) ++ first_places_after (earlier ++ node.location ∷ []) nodes

-- the nodes whose location does not occur earlier in the list, in their order
abbrev pub first_places : List Located → List Located
first_places nodes = first_places_after [] nodes

-- the only node of a list, or none; where there are more, an error with their number
abbrev pub at_most_one_of : {A : Type 0} → List A → Result (Option A) AtMostOneError
at_most_one_of [] = Ok None
at_most_one_of (node ∷ []) = Ok (Some node)
at_most_one_of (node ∷ next ∷ nodes) = Err (record { 0 = length (node ∷ next ∷ nodes) })

-- the only node of a list; an error where there is none, or more than one
abbrev pub exactly_one_of : {A : Type 0} → List A → Result A ExactlyOneError
exactly_one_of [] = Err Empty
exactly_one_of (node ∷ []) = Ok node
exactly_one_of (node ∷ next ∷ nodes) = Err (MoreThanOne (length (node ∷ next ∷ nodes)))
