-- Where a query goes on after segments that select one child at most (RFC 9535, section 2.3.5.1).
use Rattle.std.specs.Prelude.{◌≡◌, List, [], map, Bool, true, false}
use Rattle.serde_json_path_core.specs.Imports.{option_map_or, Data, view, Step, Located, FunctionSet, segments_at, Segments, Selector, name, index, Node, Part}
use Rattle.serde_json_path_core.specs.Inside.Computed.{itself, results_from}
use Rattle.serde_json_path_core.specs.Inside.Rest.{candidates}
use Rattle.serde_json_path_core.specs.declared.evaluation.single_children.Reached.{Reached}
use Rattle.serde_json_path_core.specs.declared.evaluation.single_children.SingleSelector.{SingleSelector}
use Rattle.serde_json_path_core.specs.declared.evaluation.single_children.SingleSelector.TheVariants as single

abbrev pub single_view : SingleSelector → Selector
single_view (single.Name k) = name k.now
single_view (single.Index i) = index i

-- it is a name or an index
abbrev pub is_single : Selector → Bool
is_single (name k) = true
is_single (index i) = true
is_single _ = false

-- the values of the children that a selector chooses from
abbrev pub candidate_values : Selector → Data → List Data
candidate_values sel v = map (λ (c : Step × Data). c.1) (candidates sel v)

-- the values that segments select from a value, in order
abbrev pub values_from : FunctionSet → Data → Segments → Data → List Data
values_from F top segs v = map (λ (n : Located). n.value) (results_from F top segs (itself v))

-- the segments are one child segment of that selector alone, which admits all children that it chooses from
abbrev pub SelectOnly : List Node → List Part → Selector → Type 0
SelectOnly nodes segments sel = (F : FunctionSet) (top v : Data) → values_from F top (segments_at nodes segments) v ≡ candidate_values sel v

-- those that the segments that are left select
abbrev pub values_reached : FunctionSet → Data → List Node → Reached → List Data
values_reached F top nodes reached = option_map_or (λ v. values_from F top (segments_at nodes reached.segments.now) (view v.now)) reached.value []
