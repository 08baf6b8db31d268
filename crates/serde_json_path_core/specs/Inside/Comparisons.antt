-- Comparisons, by how their sides are found.
use Rattle.std.specs.Prelude.{◌≡◌, ℕ, suc, ◌<◌, ◌≤◌, ◌&&◌, Bool, List, length, Option, Some, slice_get, true}
use Rattle.serde_json_path_core.specs.Imports.{Data, of_value, Part, call_at, segments_at, are_singular, operator_view, Operator, parts_bound, result_kind}
use Rattle.serde_json_path_core.specs.Compared.{Compared, value_compared}
use Rattle.serde_json_path_core.specs.Inside.Computed.{answer_compared, compare_sides}
use Rattle.serde_json_path_core.specs.Inside.Evaluates.{SoundBasics, SoundCall, SoundSegments, all_hold, answer_at, compared_at, or_holds, values_of_segments}
use Rattle.serde_json_path_core.specs.Inside.Scopes.{nodes_of, set_of}
use Rattle.serde_json_path_core.specs.Inside.Sides.{side_view}
use Rattle.serde_json_path_core.specs.Inside.SingleChildren.{candidate_values, single_view}
use Rattle.serde_json_path_core.specs.declared.evaluation.scope.Scope.{Scope}
use Rattle.serde_json_path_core.specs.declared.filter.comparison.Comparison.{Comparison}
use Rattle.serde_json_path_core.specs.declared.filter.comparison.PlainForm.{PlainForm}
use Rattle.serde_json_path_core.specs.declared.filter.comparison.PlainForm.TheVariants.{Fixed, Child, Descent}
use Rattle.serde_json_path_core.specs.declared.filter.comparison.SideForm.{SideForm}
use Rattle.serde_json_path_core.specs.declared.filter.comparison.SideForm.TheVariants.{Plain, Called}

-- the first of some values, or Nothing
abbrev pub first_compared : List Data → Compared
first_compared vs = value_compared (slice_get vs 0)

-- what a side of that form stands for, with `@` at the value
abbrev pub plain_compared : {F : Type 0} {g : _} → Scope F g → PlainForm → Data → Compared
plain_compared scope (Fixed side) v = side_view side
plain_compared scope (Child single) v = first_compared (candidate_values (single_view single) v)
plain_compared scope (Descent segments) v = first_compared (values_of_segments scope segments.now v)

abbrev pub compared_by : {F : Type 0} {g : _} → Scope F g → SideForm → Data → Option Compared
compared_by scope (Plain form) v = Some (plain_compared scope form v)
compared_by scope (Called call) v = answer_compared (answer_at scope call v)

-- whether a comparison with that left side holds
abbrev pub compared_with : {F : Type 0} {g : _} → Scope F g → Option Compared → Operator → SideForm → Data → Bool
compared_with scope left op right v = compare_sides (set_of scope).numbers op left (compared_by scope right v)

-- whether the comparison holds
abbrev pub holds_by : {F : Type 0} {g : _} → Scope F g → Comparison → Data → Bool
holds_by scope comparison v = compared_with scope (compared_by scope comparison.left v) (operator_view comparison.operator) comparison.right v

-- whether what has to hold besides does, too
abbrev pub filter_holds_by : {F : Type 0} {g : _} → Scope F g → Comparison → Data → Bool
filter_holds_by scope comparison v = holds_by scope comparison v && all_hold scope comparison.others.now v

-- whether a comparison of two comparables holds
abbrev pub relation_holds : {F : Type 0} {g : _} → Scope F g → Part → Operator → Part → Data → Bool
relation_holds scope left op right v = compare_sides (set_of scope).numbers op (compared_at scope left v) (compared_at scope right v)

-- its segments are sound, and of a singular query
abbrev pub SoundPlain : {F : Type 0} {g : _} → Scope F g → PlainForm → Type 0
SoundPlain scope (Descent segments) =
    (parts_bound segments.now ≤ length (nodes_of scope)) × SoundSegments scope segments.now
    × (are_singular (segments_at (nodes_of scope) segments.now) ≡ true)
SoundPlain scope _ = Unit {0}

-- its call is sound, and its answer is a value
abbrev pub SoundForm : {F : Type 0} {g : _} → Scope F g → SideForm → Type 0
SoundForm scope (Plain form) = SoundPlain scope form
SoundForm scope (Called call) =
    (call.number < length (nodes_of scope)) × SoundCall scope call
    × (result_kind (set_of scope).signature (call_at (nodes_of scope) call) ≡ Some of_value)

-- its call is below that bound
abbrev pub form_bound : SideForm → ℕ
form_bound (Plain form) = 0
form_bound (Called call) = suc call.number

-- the filter holds exactly where the comparison does, and what has to hold besides
abbrev pub IsComparisonOf : {F : Type 0} {g : _} → Scope F g → Comparison → Part → Type 0
IsComparisonOf scope comparison test =
    ((v : Data) → or_holds scope test v ≡ filter_holds_by scope comparison v)
    × (form_bound comparison.left ≤ test.number) × (form_bound comparison.right ≤ test.number)
    × (parts_bound comparison.others.now ≤ test.number)
    × SoundForm scope comparison.left × SoundForm scope comparison.right × SoundBasics scope comparison.others.now
