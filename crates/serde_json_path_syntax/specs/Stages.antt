-- The segments of a tree as a walk takes them: each with its kind and the list of its selectors.
use Rattle.std.specs.Prelude.{List, [], ◌∷◌}
use Rattle.serde_json_path_syntax.specs.Tree.{Segments, no_segments, segment, SegmentKind, Segment, dot_name, dot_wildcard, long_hand, Selectors, no_selectors, selector, Selector, name, wildcard, index, slice, filter}
use Rattle.serde_json_path_syntax.specs.Flat.{or_at, segment_kind_in, segment_in, branch_at, segments_at}
use Rattle.serde_json_path_syntax.specs.SliceView.{slice_view}
use Rattle.serde_json_path_syntax.specs.declared.node.Node.{Node}
use Rattle.serde_json_path_syntax.specs.declared.node.Part.{Part}
use Rattle.serde_json_path_syntax.specs.declared.selector_ref.SelectorRef.{SelectorRef}
use Rattle.serde_json_path_syntax.specs.declared.selector_ref.SelectorRef.TheVariants as selector_ref

-- the selectors of a segment; a `.name` and a `.*` have one
abbrev pub selectors_list : Selectors → List Selector
selectors_list no_selectors = []
selectors_list (selector sel more) = sel ∷ selectors_list more

abbrev pub selectors_of : Segment → List Selector
selectors_of (dot_name k) = name k ∷ []
selectors_of dot_wildcard = wildcard ∷ []
selectors_of (long_hand sels) = selectors_list sels

-- how a segment goes down, and its selectors
pub record Stage : Type 0 where
  pub kind : SegmentKind
  pub selectors : List Selector

abbrev pub stage_of : SegmentKind → Segment → Stage
stage_of kind seg = record { kind = kind; selectors = selectors_of seg }

abbrev pub stages : Segments → List Stage
stages no_segments = []
stages (segment kind seg more) = stage_of kind seg ∷ stages more

abbrev pub selector_view : List Node → SelectorRef → Selector
selector_view nodes (selector_ref.Name k) = name k.now
selector_view nodes selector_ref.Wildcard = wildcard
selector_view nodes (selector_ref.Index i) = index i
selector_view nodes (selector_ref.Slice s) = slice (slice_view s)
selector_view nodes (selector_ref.Filter part) = filter (or_at nodes part)

-- the stage of a part, and those of so many
abbrev pub stage_at : List Node → Part → Stage
stage_at nodes part = stage_of (segment_kind_in (branch_at nodes part.number)) (segment_in (branch_at nodes part.number))

abbrev pub stages_at : List Node → List Part → List Stage
stages_at nodes parts = stages (segments_at nodes parts)
