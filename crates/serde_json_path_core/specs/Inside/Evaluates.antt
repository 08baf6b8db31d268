-- The words of the functions that evaluate: what is asked of a part, and what it computes to where `@` is a value.
use Rattle.std.specs.Prelude.{◌≡◌, ℕ, ◌<◌, List, length, map, Bool, true, Option, Result, IfOk, IfErr}
use Rattle.serde_json_path_core.specs.Imports.{Data, QueryError, Pattern, Step, Located, Kind, Signature, Term, Call, calls_of, calls_in_segments, calls_in_segment, calls_in_selector, calls_in_or, calls_in_and, calls_in_basic, calls_in_operand, calls_from, calls_in_argument, IsTyped, AreTypedSegments, IsTypedSegment, IsTypedSelector, IsTypedOr, IsTypedAnd, IsTypedBasic, IsTypedComparable, IsTypedCall, IsTypedArgument, IsTypedOperand, of_logical, AreOfKind, IsOfKind, is_query, is_segment, is_or, is_and, is_basic, is_comparable, is_call, is_argument, is_tested, selector_ref_fits, Part, SelectorRef, or_at, and_at, basic_at, operand_at, call_at, argument_at, part_query, segment_at, segments_at, ors_in, ands_in, branches, branches_named, selector_view, stage_at, stages_at}
use Rattle.serde_json_path_core.specs.Inside.Rest as advances
use Rattle.serde_json_path_core.specs.Compared.{Compared}
use Rattle.serde_json_path_core.specs.PatternCalls.{StandsIn}
use Rattle.serde_json_path_core.specs.Inside.Computed as computed
use Rattle.serde_json_path_core.specs.Inside.Rest.{Frame}
use Rattle.serde_json_path_core.specs.Inside.SingleChildren.{values_from}
use Rattle.serde_json_path_core.specs.Inside.Scopes.{nodes_of, query_of, set_of, top_of, IsSound, MayRefuse}
use Rattle.serde_json_path_core.specs.declared.evaluation.scope.Scope.{Scope}

-- ---- what is sound

-- the tree is well-typed under the set, and its calls are among the query's
abbrev pub Sound : {F : Type 0} {g : _} {A : Type 0} → Scope F g → ((List ℕ → Option Signature) → A → Type 0) → (A → List Call) → A → Type 0
Sound scope typed calls tree = IsSound (set_of scope) (query_of scope) typed calls tree

-- the part is of its kind, and its tree is sound
abbrev pub SoundQuery : {F : Type 0} {g : _} → Scope F g → Part → Type 0
SoundQuery scope part = IsOfKind is_query (nodes_of scope) part × Sound scope IsTyped calls_of (part_query (nodes_of scope) part)

abbrev pub SoundSegments : {F : Type 0} {g : _} → Scope F g → List Part → Type 0
SoundSegments scope parts = AreOfKind is_segment (nodes_of scope) parts × Sound scope AreTypedSegments calls_in_segments (segments_at (nodes_of scope) parts)

abbrev pub SoundSegment : {F : Type 0} {g : _} → Scope F g → Part → Type 0
SoundSegment scope part = IsOfKind is_segment (nodes_of scope) part × Sound scope IsTypedSegment calls_in_segment (segment_at (nodes_of scope) part)

abbrev pub SoundSelector : {F : Type 0} {g : _} → Scope F g → SelectorRef → Type 0
SoundSelector scope selector = (selector_ref_fits (branches (nodes_of scope)) selector ≡ true) × Sound scope IsTypedSelector calls_in_selector (selector_view (nodes_of scope) selector)

abbrev pub SoundOr : {F : Type 0} {g : _} → Scope F g → Part → Type 0
SoundOr scope part = IsOfKind is_or (nodes_of scope) part × Sound scope IsTypedOr calls_in_or (or_at (nodes_of scope) part)

-- the same of the operands of `||`
abbrev pub SoundOperands : {F : Type 0} {g : _} → Scope F g → List Part → Type 0
SoundOperands scope parts = AreOfKind is_and (nodes_of scope) parts × Sound scope IsTypedOr calls_in_or (ors_in (branches_named (branches (nodes_of scope)) parts))

abbrev pub SoundAnd : {F : Type 0} {g : _} → Scope F g → Part → Type 0
SoundAnd scope part = IsOfKind is_and (nodes_of scope) part × Sound scope IsTypedAnd calls_in_and (and_at (nodes_of scope) part)

abbrev pub SoundBasics : {F : Type 0} {g : _} → Scope F g → List Part → Type 0
SoundBasics scope parts = AreOfKind is_basic (nodes_of scope) parts × Sound scope IsTypedAnd calls_in_and (ands_in (branches_named (branches (nodes_of scope)) parts))

abbrev pub SoundBasic : {F : Type 0} {g : _} → Scope F g → Part → Type 0
SoundBasic scope part = IsOfKind is_basic (nodes_of scope) part × Sound scope IsTypedBasic calls_in_basic (basic_at (nodes_of scope) part)

abbrev pub SoundComparable : {F : Type 0} {g : _} → Scope F g → Part → Type 0
SoundComparable scope part = IsOfKind is_comparable (nodes_of scope) part × Sound scope IsTypedComparable calls_in_operand (operand_at (nodes_of scope) part)

-- the same of what is tested
abbrev pub SoundTest : {F : Type 0} {g : _} → Scope F g → Part → Type 0
SoundTest scope part = IsOfKind is_tested (nodes_of scope) part × Sound scope (λ signature o. IsTypedOperand signature o of_logical) calls_in_operand (operand_at (nodes_of scope) part)

abbrev pub SoundCall : {F : Type 0} {g : _} → Scope F g → Part → Type 0
SoundCall scope part = IsOfKind is_call (nodes_of scope) part × Sound scope IsTypedCall calls_from (call_at (nodes_of scope) part)

-- the same of an argument, as a parameter of that type takes it
abbrev pub SoundArgument : {F : Type 0} {g : _} → Scope F g → Kind → Part → Type 0
SoundArgument scope kind part = IsOfKind is_argument (nodes_of scope) part × Sound scope (λ signature a. IsTypedArgument signature a kind) calls_in_argument (argument_at (nodes_of scope) part)

-- ---- what an evaluation asks, and what it gives

-- the part is one of the query's, and sound, and `@` is a value of the document
pub record MayEvaluate {F : Type 0} {g : _} (scope : Scope F g) (is_sound : Part → Type 0) (part : Part) (v : Data) : Type 0 where
  pub below : part.number < length (nodes_of scope)
  pub sound : is_sound part
  pub inside : StandsIn (top_of scope) v

-- the answer is the computed one, and `Pattern` is refused only where some call of the query goes by a pattern
pub record Computes {F : Type 0} {g : _} {A : Type 0} (scope : Scope F g) (result : Result A QueryError) (is_computed : A → Type 0) : Type 0 where
  pub means : IfOk result is_computed
  pub refused : IfErr result (λ e. e ≡ Pattern → MayRefuse scope)

-- the same of an answer whether something holds
abbrev pub Tells : {F : Type 0} {g : _} → Scope F g → Result Bool QueryError → Bool → Type 0
Tells scope result holds = Computes scope result (λ told. told ≡ holds)

-- ---- what a part computes to

-- whether a logical expression holds
abbrev pub or_holds : {F : Type 0} {g : _} → Scope F g → Part → Data → Bool
or_holds scope part v = computed.is_true (set_of scope) (top_of scope) (or_at (nodes_of scope) part) v

-- whether one of the operands of `||` does
abbrev pub any_holds : {F : Type 0} {g : _} → Scope F g → List Part → Data → Bool
any_holds scope parts v = computed.is_true (set_of scope) (top_of scope) (ors_in (branches_named (branches (nodes_of scope)) parts)) v

abbrev pub and_holds : {F : Type 0} {g : _} → Scope F g → Part → Data → Bool
and_holds scope part v = computed.all_true (set_of scope) (top_of scope) (and_at (nodes_of scope) part) v

-- whether each of the operands of `&&` does
abbrev pub all_hold : {F : Type 0} {g : _} → Scope F g → List Part → Data → Bool
all_hold scope parts v = computed.all_true (set_of scope) (top_of scope) (ands_in (branches_named (branches (nodes_of scope)) parts)) v

abbrev pub basic_holds : {F : Type 0} {g : _} → Scope F g → Part → Data → Bool
basic_holds scope part v = computed.basic_true (set_of scope) (top_of scope) (basic_at (nodes_of scope) part) v

-- whether what is tested does
abbrev pub test_holds : {F : Type 0} {g : _} → Scope F g → Part → Data → Bool
test_holds scope part v = computed.test_true (set_of scope) (top_of scope) (operand_at (nodes_of scope) part) v

-- what a side of a comparison stands for
abbrev pub compared_at : {F : Type 0} {g : _} → Scope F g → Part → Data → Option Compared
compared_at scope part v = computed.compared (set_of scope) (top_of scope) (operand_at (nodes_of scope) part) v

-- what a call answers
abbrev pub answer_at : {F : Type 0} {g : _} → Scope F g → Part → Data → Term
answer_at scope part v = computed.answer (set_of scope) (top_of scope) (call_at (nodes_of scope) part) v

-- an argument as a parameter of that type takes it
abbrev pub given_at : {F : Type 0} {g : _} → Scope F g → Part → Kind → Data → Term
given_at scope part kind v = computed.argument_as (set_of scope) (top_of scope) (argument_at (nodes_of scope) part) kind v

-- the nodes of a query, and their values
abbrev pub results_at : {F : Type 0} {g : _} → Scope F g → Part → Data → List Located
results_at scope part v = computed.results (set_of scope) (top_of scope) (part_query (nodes_of scope) part) v

abbrev pub values_at : {F : Type 0} {g : _} → Scope F g → Part → Data → List Data
values_at scope part v = map (λ (n : Located). n.value) (results_at scope part v)

-- the values of the nodes that segments select from a value
abbrev pub values_of_segments : {F : Type 0} {g : _} → Scope F g → List Part → Data → List Data
values_of_segments scope segments v = values_from (set_of scope) (top_of scope) (segments_at (nodes_of scope) segments) v

-- ---- steps of a walk

-- nothing is given, there is no more work than before, and what was a stack is one
abbrev pub IsKept : {F : Type 0} {g : _} → Scope F g → List Part → List Frame → List Frame → Type 0
IsKept scope segments old new = advances.IsKept (set_of scope) (top_of scope) (stages_at (nodes_of scope) segments) old new

-- of these children some are passed, but none that the selector admits
abbrev pub Skips : {F : Type 0} {g : _} → Scope F g → SelectorRef → List (Step × Data) → List (Step × Data) → Type 0
Skips scope selector old new = advances.Skips (set_of scope) (top_of scope) (selector_view (nodes_of scope) selector) old new

-- the first of these children is the next one that the selector admits, if there is one
abbrev pub IsAtAdmitted : {F : Type 0} {g : _} → Scope F g → SelectorRef → List (Step × Data) → Option (Step × Data) → Type 0
IsAtAdmitted scope selector left found = advances.IsAtAdmitted (set_of scope) (top_of scope) (selector_view (nodes_of scope) selector) left found

-- the frame has passed some children, but no arrival
abbrev pub Passes : {F : Type 0} {g : _} → Scope F g → Part → Frame → Frame → Type 0
Passes scope segment old new = advances.Passes (set_of scope) (top_of scope) (stage_at (nodes_of scope) segment) old new

-- the first child that is left at the frame is its next arrival, if there is one
abbrev pub IsAtArrival : {F : Type 0} {g : _} → Scope F g → Part → Frame → Option (ℕ × (Step × Data)) → Type 0
IsAtArrival scope segment p found = advances.IsAtArrival (set_of scope) (top_of scope) (stage_at (nodes_of scope) segment) p found

-- the walk has come to a node, at that step from the last frame, with that value
abbrev pub IsAtNode : {F : Type 0} {g : _} → Scope F g → List Part → List Frame → Option Step → Data → Type 0
IsAtNode scope segments frames step v = advances.IsAtNode (set_of scope) (top_of scope) (stages_at (nodes_of scope) segments) frames step v
