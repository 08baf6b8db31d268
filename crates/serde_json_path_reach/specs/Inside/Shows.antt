-- A value that shows what is asked of another. Asked are segments, each with whether places are enough of what it ends at.
use Rattle.std.specs.Prelude.{◌≡◌, ◌⊎◌, ℕ, List, [], ◌∷◌, Bool, true, false, Option, Some, option_and_then, option_map}
use Rattle.serde_json.specs.Data.{Data}
use Rattle.serde_json.specs.Events.{items_len}
use Rattle.serde_json.specs.Find.{as_array}
use Rattle.serde_json_path_nodes.specs.Location.{Step, at, child_at}
use Rattle.serde_json_path_syntax.specs.Lists.{IsIn}
use Rattle.serde_json_path_syntax.specs.Stages.{selectors_of}
use Rattle.serde_json_path_syntax.specs.Tree.{query, current, Segments, no_segments, segment, SegmentKind, descendant, Segment}
use Rattle.serde_json_path_reach.specs.Inside.Queries.{queries_in_segment}
use Rattle.serde_json_path_reach.specs.Inside.Steps.{any_may_admit}

-- What is asked at a child: what follows a segment that may admit the step, ..
abbrev pub Follows : (Bool → Segments → Type 0) → Step → Bool → Segments → Type 0
Follows Asked s places segs = (kind : SegmentKind) × (seg : Segment) × Asked places (segment kind seg segs) × (any_may_admit (selectors_of seg) s ≡ true)

-- .. a descendant segment again, ..
abbrev pub Stays : (Bool → Segments → Type 0) → Bool → Segments → Type 0
Stays Asked places segs = (seg : Segment) × (more : Segments) × (segs ≡ segment descendant seg more) × Asked places segs

-- .. and the `@` queries of a segment's filters, of which values are asked.
abbrev pub IsInFilter : (Bool → Segments → Type 0) → Bool → Segments → Type 0
IsInFilter Asked places segs =
    (places ≡ false) × ((ends : Bool) × (kind : SegmentKind) × (seg : Segment) × (more : Segments) × Asked ends (segment kind seg more) × IsIn (query current segs) (queries_in_segment seg))

abbrev pub Then : Step → (Bool → Segments → Type 0) → Bool → Segments → Type 0
Then s Asked places segs = Follows Asked s places segs ⊎ (Stays Asked places segs ⊎ IsInFilter Asked places segs)

-- what is asked at the end of a location
abbrev pub along : List Step → (Bool → Segments → Type 0) → Bool → Segments → Type 0
along [] Asked places segs = Asked places segs
along (s ∷ steps) Asked places segs = along steps (Then s Asked) places segs

-- what stands at a location of a value, if there is one
abbrev pub below : Option Data → List Step → Option Data
below o steps = option_and_then (λ v. at v steps) o

-- how many items an array has
abbrev pub array_len : Data → Option ℕ
array_len d = option_map items_len (as_array d)

-- Where something is asked, what is shown is there, and arrays of which an item is shown are as long; where a query ends, the
-- value is shown, or something in its place.
pub record Shows (Asked : Bool → Segments → Type 0) (value shown : Option Data) : Type 0 where
  pub ends : (steps : List Step) (places : Bool) (d : Data) → along steps Asked places no_segments → below value steps ≡ Some d
      → (e : Data) × (below shown steps ≡ Some e) × (places ≡ false → e ≡ d)
  pub back : (steps : List Step) (places : Bool) (segs : Segments) (e : Data) → along steps Asked places segs → below shown steps ≡ Some e
      → (d : Data) × (below value steps ≡ Some d)
  pub lens : (steps : List Step) (places : Bool) (segs : Segments) (d e c : Data) (s : Step) → along steps Asked places segs → below value steps ≡ Some d → below shown steps ≡ Some e
      → child_at e s ≡ Some c → array_len e ≡ array_len d
