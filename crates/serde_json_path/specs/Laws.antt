-- Laws of paths: the one that joins the typed grammar and its meaning, one of locations and one of function sets.
use Rattle.std.specs.Prelude.{◌≡◌, ◌≤◌, ◌↔◌, ℕ, pos, List, [], ◌∷◌, Option, Some}
use Rattle.std.specs.Str.{chars}
use Rattle.serde_json.specs.Data.{Data}
use Rattle.serde_json.specs.View.{view}
use Rattle.serde_json.specs.declared.value.Value.{Value}
use Rattle.serde_json_path_nodes.specs.Location.{Step, by_name, by_position, at, IsProper}
use Rattle.serde_json_path_nodes.specs.Text.{normal}
use Rattle.serde_json_path_syntax.specs.Tree.{Query, query, root, Segments, no_segments, segment, child, long_hand, no_selectors, selector, Selector, name, index, largest}
use Rattle.serde_json_path_syntax.specs.Calls.{calls_of}
use Rattle.serde_json_path_syntax.specs.Depth.{depth}
use Rattle.serde_json_path_core.specs.Meaning.{IsResult}
use Rattle.serde_json_path_functions.specs.Functions.{Numbers, FunctionSet, Signature, Fits, both}
use Rattle.serde_json_path_parser.specs.Accepted.{IsAccepted}

-- each index can be written
abbrev pub ArePositionsWritten : List Step → Type 0
ArePositionsWritten [] = Unit {0}
ArePositionsWritten (by_name k ∷ steps) = ArePositionsWritten steps
ArePositionsWritten (by_position p ∷ steps) = (p ≤ largest) × ArePositionsWritten steps

-- the selector of a step alone
abbrev pub selector_to : Step → Selector
selector_to (by_name k) = name k
selector_to (by_position p) = index (pos p)

-- a bracket with one selector for each step
abbrev pub segments_to : List Step → Segments
segments_to [] = no_segments
segments_to (s ∷ steps) = segment child (long_hand (selector (selector_to s) no_selectors)) (segments_to steps)

-- the tree of a location
abbrev pub tree_to : List Step → Query
tree_to location = query root (segments_to location)

-- What a normalised path is (RFC 9535, section 2.7).
pub record IsNormal (location : List Step) : Type 0 where
  -- it is accepted with the location's tree, by both rules for numbers and whatever functions are declared, and with no other
  pub accepted : (rule : Numbers) (signature : List ℕ → Option Signature)
      → IsAccepted rule signature (chars (normal location)) (tree_to location)
  pub only : (rule : Numbers) (signature : List ℕ → Option Signature) (q : Query)
      → IsAccepted rule signature (chars (normal location)) q → q ≡ tree_to location
  -- that tree calls nothing, and nests nothing
  pub no_calls : calls_of (tree_to location) ≡ []
  pub flat : depth (tree_to location) ≡ 0
  -- and its result is the node at the location alone
  pub selects : (F : FunctionSet) (top v : Data) → at top location ≡ Some v
      → IsResult F top (tree_to location) top (record { location = location; value = v } ∷ [])

-- so is that of each location whose names are Unicode text, and whose indexes can be written
abbrev pub Normal : Type 0
Normal = (location : List Step) → IsProper location → ArePositionsWritten location → IsNormal location

-- the names on the way to a value of a document are Unicode text
abbrev pub LocationsAreProper : Type 0
LocationsAreProper = (document : Value) (location : List Step) (v : Data) → at (view document) location ≡ Some v → IsProper location

-- a set before itself fits what it fits alone
abbrev pub SetBeforeItself : Type 0
SetBeforeItself = (F : FunctionSet) (used : List (List ℕ × Signature)) → Fits (both F F) used ↔ Fits F used
