-- The kinds of branches, and which kind stands at each place of a node.
use Rattle.std.specs.Prelude.{◌≡◌, ◌<◌, ◌&&◌, ℕ, Bool, true, false, List, [], ◌∷◌, length, slice_index_or}
use Rattle.serde_json.specs.Data.{Data, null as null_data, boolean, string}
use Rattle.serde_json.specs.View.{view}
use Rattle.serde_json_path_syntax.specs.Flat.{parts_in, branch_at, branch_in, branches, branches_named, segment_parts}
use Rattle.serde_json_path_syntax.specs.Tree.{Query, query, Segments, no_segments, segment, child, descendant, Segment, dot_name, long_hand, selector, no_selectors, name, index, literal, queried}
use Rattle.serde_json_path_syntax.specs.Branch.{Branch, a_query, a_segment, a_selector, an_or, an_and, a_basic, an_operand, a_call}
use Rattle.serde_json_path_syntax.specs.declared.node.Node.{Node}
use Rattle.serde_json_path_syntax.specs.declared.node.Node.TheVariants as node
use Rattle.serde_json_path_syntax.specs.declared.node.Segment as segments
use Rattle.serde_json_path_syntax.specs.declared.node.Selector as selectors
use Rattle.serde_json_path_syntax.specs.declared.node.Selector.TheVariants as one
use Rattle.serde_json_path_syntax.specs.declared.node.Basic as basics
use Rattle.serde_json_path_syntax.specs.declared.node.Basic.TheVariants.{Paren, Relation, Test}
use Rattle.serde_json_path_syntax.specs.declared.node.Operand as operands
use Rattle.serde_json_path_syntax.specs.declared.node.Operand.TheVariants as one_operand
use Rattle.serde_json_path_syntax.specs.declared.literal.LiteralValue.{LiteralValue}
use Rattle.serde_json_path_syntax.specs.declared.literal.LiteralValue.TheVariants.{Value, Number, Decimal}
use Rattle.serde_json_path_syntax.specs.declared.node.Part.{Part}
use Rattle.serde_json_path_syntax.specs.declared.selector_ref.SelectorRef.{SelectorRef}
use Rattle.serde_json_path_syntax.specs.declared.selector_ref.SelectorRef.TheVariants as selector_ref

-- whether a query is a singular one, computed (RFC 9535, section 2.3.5.1)
abbrev pub is_singular_segment : Segment → Bool
is_singular_segment (dot_name k) = true
is_singular_segment (long_hand (selector (name k) no_selectors)) = true
is_singular_segment (long_hand (selector (index i) no_selectors)) = true
is_singular_segment _ = false

abbrev pub are_singular : Segments → Bool
are_singular no_segments = true
are_singular (segment child seg more) = is_singular_segment seg && are_singular more
are_singular (segment descendant seg more) = false

abbrev pub is_singular : Query → Bool
is_singular (query kind segs) = are_singular segs

abbrev pub is_query : Branch → Bool
is_query (a_query q) = true
is_query _ = false

abbrev pub is_segment : Branch → Bool
is_segment (a_segment kind seg) = true
is_segment _ = false

abbrev pub is_selector : Branch → Bool
is_selector (a_selector sel) = true
is_selector _ = false

abbrev pub is_or : Branch → Bool
is_or (an_or e) = true
is_or _ = false

abbrev pub is_and : Branch → Bool
is_and (an_and e) = true
is_and _ = false

abbrev pub is_basic : Branch → Bool
is_basic (a_basic b) = true
is_basic _ = false

abbrev pub is_operand : Branch → Bool
is_operand (an_operand o) = true
is_operand _ = false

-- an operand that may be compared: of queries a singular one alone
abbrev pub is_comparable : Branch → Bool
is_comparable (an_operand (queried q)) = is_singular q
is_comparable (an_operand o) = true
is_comparable _ = false

-- an operand that may be tested: a query or a call
abbrev pub is_tested : Branch → Bool
is_tested (an_operand (literal l)) = false
is_tested (an_operand o) = true
is_tested _ = false

abbrev pub is_call : Branch → Bool
is_call (a_call c) = true
is_call _ = false

abbrev pub is_argument : Branch → Bool
is_argument (an_operand o) = true
is_argument (an_or e) = true
is_argument _ = false

-- each of these branches is of the kind
abbrev pub each_is : (Branch → Bool) → List Branch → Bool
each_is is [] = true
each_is is (p ∷ ps) = is p && each_is is ps

-- the part is of the kind, and each of the parts
abbrev pub IsOfKind : (Branch → Bool) → List Node → Part → Type 0
IsOfKind is nodes part = is (branch_at nodes part.number) ≡ true

abbrev pub AreOfKind : (Branch → Bool) → List Node → List Part → Type 0
AreOfKind is nodes parts = each_is is (branches_named (branches nodes) parts) ≡ true

-- ---- the branches that a node names are of the kinds that their places want

abbrev pub segment_fits : List Branch → segments.Segment → Bool
segment_fits earlier seg = each_is is_selector (branches_named earlier (segment_parts seg))

abbrev pub selector_fits : List Branch → selectors.Selector → Bool
selector_fits earlier (one.Filter part) = is_or (branch_in earlier part.number)
selector_fits earlier _ = true

abbrev pub selector_ref_fits : List Branch → SelectorRef → Bool
selector_ref_fits earlier (selector_ref.Filter part) = is_or (branch_in earlier part.number)
selector_ref_fits earlier _ = true

abbrev pub basic_fits : List Branch → basics.Basic → Bool
basic_fits earlier (Paren negated part) = is_or (branch_in earlier part.number)
basic_fits earlier (Relation left operator right) = is_comparable (branch_in earlier left.number) && is_comparable (branch_in earlier right.number)
basic_fits earlier (Test negated part) = is_tested (branch_in earlier part.number)

-- a value that a literal writes: a text, a truth value or null
abbrev pub is_written : Data → Bool
is_written (string t) = true
is_written (boolean b) = true
is_written null_data = true
is_written _ = false

abbrev pub literal_fits : LiteralValue → Bool
literal_fits (Value v) = is_written (view v)
literal_fits (Number n) = true
literal_fits (Decimal d) = true

abbrev pub operand_fits : List Branch → operands.Operand → Bool
operand_fits earlier (one_operand.Literal l) = literal_fits l
operand_fits earlier (one_operand.Query part) = is_query (branch_in earlier part.number)
operand_fits earlier (one_operand.Call part) = is_call (branch_in earlier part.number)

abbrev pub fits : List Branch → Node → Bool
fits earlier (node.Query start parts) = each_is is_segment (branches_named earlier (parts_in parts))
fits earlier (node.Segment kind seg) = segment_fits earlier seg
fits earlier (node.Selector sel) = selector_fits earlier sel
fits earlier (node.LogicalOr parts) = each_is is_and (branches_named earlier (parts_in parts))
fits earlier (node.LogicalAnd parts) = each_is is_basic (branches_named earlier (parts_in parts))
fits earlier (node.Basic b) = basic_fits earlier b
fits earlier (node.Operand o) = operand_fits earlier o
fits earlier (node.Call k s parts) = each_is is_argument (branches_named earlier parts.items)

-- each node of a vector names branches of the right kinds
abbrev pub AreFitting : List Node → Type 0
AreFitting nodes = (i : ℕ) (d : Node) → i < length nodes → fits (branches nodes) (slice_index_or nodes i d) ≡ true
