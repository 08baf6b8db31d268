-- What contracts of private functions and proofs cite alone.
use Rattle.std.specs.Prelude.{◌≡◌, ◌<◌, ◌≤◌, ◌+◌, ◌⊎◌, ℕ, Bool, List, [], ◌∷◌, ◌++◌, Result, Ok, Err, length, map, string_bytes, true, false}
use Rattle.jsonpath_c.specs.Words.{Data, Located, IsLineOfEach, compact_lines, KeptNode, kept, Form, Location, path_tree, IsReadFor, IsReadForPlaces}
use Rattle.jsonpath_c.specs.Exports.{IsPut, FindsNoRoom}
use Rattle.jsonpath_c.specs.Handles.{AreFirstLines, SelectsFrom, all_name_bytes, name_bytes}
use Rattle.jsonpath_c.specs.declared.bounded.BoundedLines.{BoundedLines}
use Rattle.jsonpath_c.specs.declared.bounded.FirstLines.{FirstLines}
use Rattle.jsonpath_c.specs.declared.compiled.Compiled.{Compiled}
use Rattle.jsonpath_c.specs.declared.limits.Limits.{Limits}

-- the status of a step: 0 where it goes on
abbrev pub status_of : {A : Type 0} → Result A ℕ → ℕ
status_of (Ok a) = 0
status_of (Err status) = status

-- ---- lines

-- the lines are those of what a path selects from a document, as many as the limits allow
abbrev pub AreLinesFrom : Form → Limits → Compiled → Data → FirstLines → Type 0
AreLinesFrom form limits c d lines =
    (nodes : List Located) × SelectsFrom c d nodes × AreFirstLines form limits nodes (string_bytes lines.text) lines.all

-- Lines are put, with what is lent before and after: `out` and `size`.
pub record ArePut (lines : FirstLines) (old_out new_out : List ℕ) (new_size status : ℕ) : Type 0 where
  pub statuses : (status ≡ 0) ⊎ (status ≡ 5) ⊎ (status ≡ 8)
  pub done : status ≡ 0 → (lines.all ≡ true) × IsPut (string_bytes lines.text) old_out new_out new_size
  pub cut : status ≡ 8 → (lines.all ≡ false) × IsPut (string_bytes lines.text) old_out new_out new_size
  pub no_room : status ≡ 5 → FindsNoRoom (string_bytes lines.text) old_out new_size × (new_out ≡ old_out)

-- ---- documents that are bytes

-- what is read of bytes for lines of a path in a form: what the path can reach, and of locations alone the places
abbrev pub IsReached : Form → Compiled → List ℕ → Data → Type 0
IsReached Location c bytes value = IsReadForPlaces bytes (path_tree c.path.value ∷ []) value
IsReached form c bytes value = IsReadFor bytes (path_tree c.path.value ∷ []) value

-- what is left of limits has room for a node, and this is what is left after it
abbrev pub IsLeftAfter : Located → Limits → Limits → Type 0
IsLeftAfter node left less = (less.nodes + 1 ≡ left.nodes) × (less.bytes + name_bytes node.location ≡ left.bytes)

-- what is left of limits has no room for a node
abbrev pub HasNoRoomFor : Located → Limits → Type 0
HasNoRoomFor node left = (left.nodes ≡ 0) ⊎ (left.bytes < name_bytes node.location)

-- ---- where a walk stands

-- whether there is a next node is told, and those after it are left
abbrev pub TellsNext : Bool → List Located → List Located → Type 0
TellsNext true nodes left = (next : Located) × (nodes ≡ next ∷ left)
TellsNext false nodes left = (nodes ≡ []) × (left ≡ [])

-- where the shown nodes are not all, those are left that come after them and one more
abbrev pub AreLeft : List Located → List Located → Bool → List Located → Type 0
AreLeft nodes shown true left = left ≡ []
AreLeft nodes shown false left = (next : Located) × (nodes ≡ shown ++ next ∷ left)

-- ---- what is taken within limits

-- the lines of these nodes, all within the limits
pub record TookLines (now : BoundedLines) (nodes : List Located) : Type 0 where
  pub lines : IsLineOfEach (compact_lines now.form) [] nodes (string_bytes now.text)
  pub count : now.count ≡ length nodes
  pub few : now.count ≤ now.limits.now.nodes
  pub short : length (string_bytes now.text) ≤ now.limits.now.bytes

-- a list has these nodes, and the limits leave so much for more
pub record AreWithin (limits left : Limits) (shown : List Located) (list : List KeptNode) : Type 0 where
  pub same : list ≡ map kept shown
  pub nodes : left.nodes + length shown ≡ limits.nodes
  pub bytes : left.bytes + all_name_bytes shown ≡ limits.bytes
