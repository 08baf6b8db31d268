-- The trees of a vector of nodes, each of which names earlier ones.
use Rattle.std.specs.Prelude.{ℕ, ◌<◌, ◌≤◌, false, List, [], ◌∷◌, ◌++◌, length, map, flat_map, slice_index_or, string_bytes, Option, Some, None}
use Rattle.serde_json.specs.Data.{Data, boolean, string}
use Rattle.serde_json.specs.View.{view}
use Rattle.serde_json_path_syntax.specs.Tree.{QueryKind, root, current, SegmentKind, child, descendant, Query, query, Segments, no_segments, segment, Segment, dot_name, dot_wildcard, long_hand, Selectors, no_selectors, selector, Selector, name, wildcard, index, slice, filter, LogicalOr, no_or, or, LogicalAnd, no_and, and, Basic, paren, relation, test, Operand, literal, queried, called, Call, call, Arguments, no_arguments, argument, Argument, operand, logical_argument, Literal, text, truth, null}
use Rattle.serde_json_path_syntax.specs.Tree as tree
use Rattle.serde_json_path_syntax.specs.SliceView.{slice_view}
use Rattle.serde_json_path_syntax.specs.Literals.{number_amount, operator_view}
use Rattle.serde_json_path_numbers.specs.Views.{decimal_view}
use Rattle.serde_json_path_functions.specs.Functions.{Signature}
use Rattle.serde_json_path_functions.specs.Terms.{signature_view}
use Rattle.serde_json_path_syntax.specs.PartBounds.{parts_bound}
use Rattle.serde_json_path_syntax.specs.Branch.{Branch, a_query, a_segment, a_selector, an_or, an_and, a_basic, an_operand, a_call}
use Rattle.serde_json_path_syntax.specs.declared.node.Node.{Node}
use Rattle.serde_json_path_syntax.specs.declared.node.Node.TheVariants as node
use Rattle.serde_json_path_syntax.specs.declared.node.Segment as segments
use Rattle.serde_json_path_syntax.specs.declared.node.Segment.TheVariants.{DotName, DotWildcard, LongHand}
use Rattle.serde_json_path_syntax.specs.declared.node.Selector as selectors
use Rattle.serde_json_path_syntax.specs.declared.node.Selector.TheVariants as one
use Rattle.serde_json_path_syntax.specs.declared.node.Basic as basics
use Rattle.serde_json_path_syntax.specs.declared.node.Basic.TheVariants.{Paren, Relation, Test}
use Rattle.serde_json_path_syntax.specs.declared.node.Operand as operands
use Rattle.serde_json_path_syntax.specs.declared.node.Operand.TheVariants as one_operand
use Rattle.serde_json_path_syntax.specs.declared.literal.LiteralValue as held
use Rattle.serde_json_path_syntax.specs.declared.literal.LiteralValue.TheVariants.{Value, Number, Decimal}
use Rattle.serde_json_path_syntax.specs.declared.node.Part.{Part}
use Rattle.serde_json_path_syntax.specs.declared.node.QueryKind as kind
use Rattle.serde_json_path_syntax.specs.declared.node.QueryKind.TheVariants.{Root, Current}
use Rattle.serde_json_path_syntax.specs.declared.node.SegmentKind as reach
use Rattle.serde_json_path_syntax.specs.declared.node.SegmentKind.TheVariants.{Child, Descendant}
use Rattle.serde_json_path_syntax.specs.declared.parts.Kept.{Kept}
use Rattle.serde_json_path_syntax.specs.declared.parts.Kept.TheVariants as kept
use Rattle.serde_json_path_syntax.specs.declared.parts.Parts.{Parts}

abbrev pub query_kind_view : kind.QueryKind → QueryKind
query_kind_view Root = root
query_kind_view Current = current

abbrev pub segment_kind_view : reach.SegmentKind → SegmentKind
segment_kind_view Child = child
segment_kind_view Descendant = descendant

-- ---- out of branches; what a branch of another kind gives is never used, since each place has a branch of its kind (`Kinds`)

-- beyond the last branch
abbrev pub no_branch : Branch
no_branch = a_query (query root no_segments)

-- the query of a branch
abbrev pub query_in : Branch → Query
query_in (a_query q) = q
query_in _ = query root no_segments

-- the kind and the segment of a branch
abbrev pub segment_kind_in : Branch → SegmentKind
segment_kind_in (a_segment kind seg) = kind
segment_kind_in _ = child

abbrev pub segment_in : Branch → Segment
segment_in (a_segment kind seg) = seg
segment_in _ = dot_wildcard

abbrev pub selector_in : Branch → Selector
selector_in (a_selector sel) = sel
selector_in _ = wildcard

abbrev pub or_in : Branch → LogicalOr
or_in (an_or e) = e
or_in _ = no_or

abbrev pub and_in : Branch → LogicalAnd
and_in (an_and e) = e
and_in _ = no_and

abbrev pub basic_in : Branch → Basic
basic_in (a_basic b) = b
basic_in _ = paren false no_or

abbrev pub operand_in : Branch → Operand
operand_in (an_operand o) = o
operand_in _ = literal null

abbrev pub call_in : Branch → Call
call_in (a_call c) = c
call_in _ = call [] no_arguments

-- an argument is an operand or a logical expression
abbrev pub argument_in : Branch → Argument
argument_in (an_or e) = logical_argument e
argument_in branch = operand (operand_in branch)

abbrev pub segments_in : List Branch → Segments
segments_in [] = no_segments
segments_in (branch ∷ more) = segment (segment_kind_in branch) (segment_in branch) (segments_in more)

abbrev pub selectors_in : List Branch → Selectors
selectors_in [] = no_selectors
selectors_in (branch ∷ more) = selector (selector_in branch) (selectors_in more)

abbrev pub ors_in : List Branch → LogicalOr
ors_in [] = no_or
ors_in (branch ∷ more) = or (and_in branch) (ors_in more)

abbrev pub ands_in : List Branch → LogicalAnd
ands_in [] = no_and
ands_in (branch ∷ more) = and (basic_in branch) (ands_in more)

abbrev pub arguments_in : List Branch → Arguments
arguments_in [] = no_arguments
arguments_in (branch ∷ more) = argument (argument_in branch) (arguments_in more)

-- ---- nodes

-- the branch of that number
abbrev pub branch_in : List Branch → ℕ → Branch
branch_in branches number = slice_index_or branches number no_branch

-- the parts, in order
abbrev pub kept_parts : Kept → List Part
kept_parts kept.None = []
kept_parts (kept.One part) = part ∷ []
kept_parts (kept.Listed parts) = parts.items

unfoldable pub parts_in : Parts → List Part
parts_in parts = kept_parts parts.kept

-- the branches of so many parts
abbrev pub branches_named : List Branch → List Part → List Branch
branches_named earlier parts = map (λ (part : Part). branch_in earlier part.number) parts

abbrev pub segment_of : List Branch → segments.Segment → Segment
segment_of earlier (DotName k) = dot_name (string_bytes k)
segment_of earlier DotWildcard = dot_wildcard
segment_of earlier (LongHand parts) = long_hand (selectors_in (branches_named earlier (parts_in parts)))

abbrev pub selector_of : List Branch → selectors.Selector → Selector
selector_of earlier (one.Name k) = name (string_bytes k)
selector_of earlier one.Wildcard = wildcard
selector_of earlier (one.Index i) = index i
selector_of earlier (one.Slice s) = slice (slice_view s)
selector_of earlier (one.Filter part) = filter (or_in (branch_in earlier part.number))

abbrev pub basic_of : List Branch → basics.Basic → Basic
basic_of earlier (Paren negated part) = paren negated (or_in (branch_in earlier part.number))
basic_of earlier (Relation left operator right) = relation (operand_in (branch_in earlier left.number)) (operator_view operator) (operand_in (branch_in earlier right.number))
basic_of earlier (Test negated part) = test negated (operand_in (branch_in earlier part.number))

-- the literal that writes a text, a truth value or null; no builder makes one of any other value
abbrev pub literal_of : Data → Literal
literal_of (string t) = text t
literal_of (boolean b) = truth b
literal_of _ = null

-- a literal as a tree holds it
abbrev pub held_view : held.LiteralValue → Literal
held_view (Value v) = literal_of (view v)
held_view (Number n) = tree.number (number_amount n)
held_view (Decimal d) = tree.decimal (decimal_view d.value.decimal)

abbrev pub operand_of : List Branch → operands.Operand → Operand
operand_of earlier (one_operand.Literal l) = literal (held_view l)
operand_of earlier (one_operand.Query part) = queried (query_in (branch_in earlier part.number))
operand_of earlier (one_operand.Call part) = called (call_in (branch_in earlier part.number))

-- the branch that a node makes of earlier ones
abbrev pub branch_of : List Branch → Node → Branch
branch_of earlier (node.Query start parts) = a_query (query (query_kind_view start) (segments_in (branches_named earlier (parts_in parts))))
branch_of earlier (node.Segment kind seg) = a_segment (segment_kind_view kind) (segment_of earlier seg)
branch_of earlier (node.Selector sel) = a_selector (selector_of earlier sel)
branch_of earlier (node.LogicalOr parts) = an_or (ors_in (branches_named earlier (parts_in parts)))
branch_of earlier (node.LogicalAnd parts) = an_and (ands_in (branches_named earlier (parts_in parts)))
branch_of earlier (node.Basic b) = a_basic (basic_of earlier b)
branch_of earlier (node.Operand o) = an_operand (operand_of earlier o)
branch_of earlier (node.Call k s parts) = a_call (call (string_bytes k) (arguments_in (branches_named earlier parts.items)))

abbrev pub branches_from : List Branch → List Node → List Branch
branches_from earlier [] = earlier
branches_from earlier (n ∷ nodes) = branches_from (earlier ++ branch_of earlier n ∷ []) nodes

unfoldable pub branches : List Node → List Branch
branches nodes = branches_from [] nodes

abbrev pub branch_at : List Node → ℕ → Branch
branch_at nodes number = branch_in (branches nodes) number

abbrev pub segment_at : List Node → Part → Segment
segment_at nodes part = segment_in (branch_at nodes part.number)

abbrev pub selector_at : List Node → Part → Selector
selector_at nodes part = selector_in (branch_at nodes part.number)

abbrev pub or_at : List Node → Part → LogicalOr
or_at nodes part = or_in (branch_at nodes part.number)

abbrev pub and_at : List Node → Part → LogicalAnd
and_at nodes part = and_in (branch_at nodes part.number)

abbrev pub basic_at : List Node → Part → Basic
basic_at nodes part = basic_in (branch_at nodes part.number)

abbrev pub operand_at : List Node → Part → Operand
operand_at nodes part = operand_in (branch_at nodes part.number)

abbrev pub call_at : List Node → Part → Call
call_at nodes part = call_in (branch_at nodes part.number)

abbrev pub argument_at : List Node → Part → Argument
argument_at nodes part = argument_in (branch_at nodes part.number)

-- the segments of so many parts
abbrev pub segments_at : List Node → List Part → Segments
segments_at nodes parts = segments_in (branches_named (branches nodes) parts)

-- the selectors of so many parts
abbrev pub selectors_at : List Node → List Part → Selectors
selectors_at nodes parts = selectors_in (branches_named (branches nodes) parts)

-- the query of a part
abbrev pub part_query : List Node → Part → Query
part_query nodes part = query_in (branch_at nodes part.number)

-- the same, or `$` without segments
abbrev pub query_at : List Node → Option Part → Query
query_at nodes None = query root no_segments
query_at nodes (Some part) = query_in (branch_at nodes part.number)

-- ---- references

abbrev pub segment_parts : segments.Segment → List Part
segment_parts (LongHand parts) = parts_in parts
segment_parts (DotName k) = []
segment_parts DotWildcard = []

abbrev pub selector_parts : selectors.Selector → List Part
selector_parts (one.Filter part) = part ∷ []
selector_parts (one.Name k) = []
selector_parts one.Wildcard = []
selector_parts (one.Index i) = []
selector_parts (one.Slice s) = []

abbrev pub basic_parts : basics.Basic → List Part
basic_parts (Paren negated part) = part ∷ []
basic_parts (Relation left operator right) = left ∷ right ∷ []
basic_parts (Test negated part) = part ∷ []

abbrev pub operand_parts : operands.Operand → List Part
operand_parts (one_operand.Literal l) = []
operand_parts (one_operand.Query part) = part ∷ []
operand_parts (one_operand.Call part) = part ∷ []

-- the parts that a node names
abbrev pub parts_named : Node → List Part
parts_named (node.Query start parts) = parts_in parts
parts_named (node.Segment kind seg) = segment_parts seg
parts_named (node.Selector sel) = selector_parts sel
parts_named (node.LogicalOr parts) = parts_in parts
parts_named (node.LogicalAnd parts) = parts_in parts
parts_named (node.Basic b) = basic_parts b
parts_named (node.Operand o) = operand_parts o
parts_named (node.Call k s parts) = parts.items

-- the node names numbers below the bound alone
abbrev pub NamesBelow : ℕ → Node → Type 0
NamesBelow bound n = parts_bound (parts_named n) ≤ bound

-- each node names earlier ones
abbrev pub IsGrown : List Node → Type 0
IsGrown nodes = (i : ℕ) (d : Node) → i < length nodes → NamesBelow i (slice_index_or nodes i d)

-- ---- calls

-- the name and the signature that a node calls, if it is a call
abbrev pub called_by : Node → List (List ℕ × Signature)
called_by (node.Call k s parts) = (string_bytes k, signature_view s) ∷ []
called_by _ = []

-- those of the calls among nodes, in the order of the nodes
abbrev pub calls_among : List Node → List (List ℕ × Signature)
calls_among nodes = flat_map called_by nodes
