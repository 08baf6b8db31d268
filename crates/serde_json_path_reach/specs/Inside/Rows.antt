-- The rows of a plan: which segments are pending at a value, and what is pending at its children.
use Rattle.std.specs.Prelude.{◌≡◌, ◌⊎◌, ℕ, List, [], Bool, true, false, if◌then◌else◌, Option, Some, None, option_map}
use Rattle.std.specs.Int.Bits.{bit_or}
use Rattle.serde_json.specs.Data.{Data, null}
use Rattle.serde_json.specs.View.{view}
use Rattle.serde_json.specs.declared.value.Value.{Value}
use Rattle.serde_json_path_nodes.specs.Location.{Step}
use Rattle.serde_json_path_syntax.specs.Flat.{branch_at, segment_at, segment_kind_in, segments_at}
use Rattle.serde_json_path_syntax.specs.Lists.{IsIn}
use Rattle.serde_json_path_syntax.specs.Parts.{nodes_in, number_of}
use Rattle.serde_json_path_syntax.specs.Stages.{selectors_of}
use Rattle.serde_json_path_syntax.specs.Tree.{Query, query, root, current, segments_of, Segments, no_segments, segment, SegmentKind, descendant, Segment, Selector}
use Rattle.serde_json_path_reach.specs.Inside.Bits.{is_end, is_place, is_whole, meets}
use Rattle.serde_json_path_reach.specs.Inside.Queries.{queries_in_segment, queries_in_segments}
use Rattle.serde_json_path_reach.specs.Inside.Shows.{Shows}
use Rattle.serde_json_path_reach.specs.Inside.Steps.{any_may_admit, may_admit_by}
use Rattle.serde_json_path_syntax.specs.declared.node.Node.{Node}
use Rattle.serde_json_path_syntax.specs.declared.node.Part.{Part}
use Rattle.serde_json_path_reach.specs.declared.plan.Plan.{Plan}
use Rattle.serde_json_path_reach.specs.declared.row.Row.{Row}

-- ---- what a row stands for

abbrev pub segment_kind_at : List Node → Part → SegmentKind
segment_kind_at nodes part = segment_kind_in (branch_at nodes (number_of part))

abbrev pub kind_of_row : Row → SegmentKind
kind_of_row row = segment_kind_at (nodes_in row.query.now) row.segment

abbrev pub segment_of_row : Row → Segment
segment_of_row row = segment_at (nodes_in row.query.now) row.segment

abbrev pub selectors_of_row : Row → List Selector
selectors_of_row row = selectors_of (segment_of_row row)

abbrev pub rest_of_row : Row → Segments
rest_of_row row = segments_at (nodes_in row.query.now) row.rest.now

-- the segments are pending: all is kept there, or it is one of their rows; of what they end at the places may be enough
abbrev pub Includes : List Row → ℕ → Bool → Segments → Type 0
Includes rows pending places no_segments = is_end places pending ≡ true
Includes rows pending places (segment kind seg more) =
    (is_whole pending ≡ true)
    ⊎ ((row : Row) × IsIn row rows × (row.places ≡ places) × (meets pending row.bit ≡ true) × (segment (kind_of_row row) (segment_of_row row) (rest_of_row row) ≡ segment kind seg more))

-- ---- after a step

-- a row's segment may admit the step
abbrev pub may_admit_by_row : Row → Step → Bool
may_admit_by_row row s = may_admit_by row.children (selectors_of_row row) s

-- what is pending by a row
abbrev pub onward : Row → Step → ℕ
onward row s = if may_admit_by_row row s then bit_or row.again row.next else row.again

-- after the step all is pending that is pending by a row; below a value that is kept whole all is
pub record Leads (rows : List Row) (s : Step) (pending next : ℕ) : Type 0 where
  pub stays : is_whole pending ≡ true → is_whole next ≡ true
  pub by_rows : (row : Row) (m : ℕ) → is_whole pending ≡ false → IsIn row rows → meets pending row.bit ≡ true → meets (onward row s) m ≡ true → meets next m ≡ true

-- ---- rows that are right

-- after a segment the rest is pending, and each `@` query of the segment's filters
pub record IsNext (rows : List Row) (places : Bool) (next : ℕ) (seg : Segment) (more : Segments) : Type 0 where
  pub rest : Includes rows next places more
  pub asked : (segs : Segments) → IsIn (query current segs) (queries_in_segment seg) → Includes rows next false segs

pub record IsRight (rows : List Row) (row : Row) : Type 0 where
  pub next : IsNext rows row.places row.next (segment_of_row row) (rest_of_row row)
  pub again : kind_of_row row ≡ descendant → meets row.again row.bit ≡ true
  pub named : (s : Step) → any_may_admit (selectors_of_row row) s ≡ true → may_admit_by_row row s ≡ true

abbrev pub AreRight : List Row → Type 0
AreRight rows = (row : Row) → IsIn row rows → IsRight rows row

-- among some queries each `$` query is pending at the root, and each `@` query is by `asked`
pub record Covers (rows : List Row) (at_root asked : ℕ) (qs : List Query) : Type 0 where
  pub dollar : (segs : Segments) → IsIn (query root segs) qs → Includes rows at_root false segs
  pub at : (segs : Segments) → IsIn (query current segs) qs → Includes rows asked false segs

-- what was pending still is
pub record Grows (old new : Plan) : Type 0 where
  pub by_rows : (places : Bool) (pending : ℕ) (segs : Segments) → Includes old.rows.items pending places segs → Includes new.rows.items pending places segs
  pub at_root : (places : Bool) (segs : Segments) → Includes old.rows.items old.at_root places segs → Includes new.rows.items new.at_root places segs

-- a plan grows by rows for some queries
pub record Gains (old new : Plan) (asked : ℕ) (qs : List Query) : Type 0 where
  pub right : AreRight old.rows.items → AreRight new.rows.items
  pub grows : Grows old new
  pub covers : Covers new.rows.items new.at_root asked qs

-- the segments of each query are pending at the root, and those of each `$` query in their filters
pub record AsksAll (plan : Plan) (places : Bool) (qs : List Query) : Type 0 where
  pub themselves : (q : Query) → IsIn q qs → Includes plan.rows.items plan.at_root places (segments_of q)
  pub inside : (q : Query) (segs : Segments) → IsIn q qs → IsIn (query root segs) (queries_in_segments (segments_of q)) → Includes plan.rows.items plan.at_root false segs

-- a row for a segment and the rest, of which the bit is given
abbrev pub AddsRow : Plan → Plan → SegmentKind → Segment → Segments → Bool → ℕ → ℕ → Type 0
AddsRow old new kind seg rest places next bit =
    IsNext old.rows.items places next seg rest → Gains old new 0 [] × Includes new.rows.items bit places (segment kind seg rest)

-- ---- what is read

-- where the rows are right, what is read of a value shows what is pending there
abbrev pub IsShown : List Row → ℕ → Data → Option Value → Type 0
IsShown rows pending d v = AreRight rows → Shows (Includes rows pending) (Some d) (option_map view v)

-- what stands for a value of which nothing is shown inside
abbrev pub in_stead : ℕ → Option Data
in_stead pending = if is_place pending then Some null else None
