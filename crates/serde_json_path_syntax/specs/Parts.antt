-- The parts that a builder has made and the finished tree, as contracts see them.
use Rattle.std.specs.Prelude.{◌≡◌, ◌<◌, ℕ, List, [], ◌∷◌, length, slice_get, Option, Some, None}
use Rattle.serde_json_path_syntax.specs.Tree.{Query, Segments, no_segments, segment, Selectors, no_selectors, selector, LogicalOr, no_or, or, LogicalAnd, no_and, and, Arguments, no_arguments, argument, Argument, operand, logical_argument, literal, queried, called, Call}
use Rattle.serde_json_path_functions.specs.Functions.{Kind, Numbers, Signature}
use Rattle.serde_json_path_functions.specs.Terms.{kind_view, numbers_view, signature_view}
use Rattle.serde_json_path_syntax.specs.Used.{each_once}
use Rattle.serde_json_path_syntax.specs.Branch.{Branch, a_query, a_segment, a_selector, an_or, an_and, a_basic, an_operand}
use Rattle.serde_json_path_syntax.specs.Flat.{calls_among, branch_at, held_view, query_at}
use Rattle.serde_json_path_syntax.specs.declared.argument_ref.ArgumentRef.{ArgumentRef}
use Rattle.serde_json_path_syntax.specs.declared.argument_ref.ArgumentRef.TheVariants as seen
use Rattle.serde_json_path_syntax.specs.declared.node.Node.{Node}
use Rattle.serde_json_path_syntax.specs.declared.node.Node.TheVariants as node
use Rattle.serde_json_path_syntax.specs.declared.node.Operand.TheVariants as one_operand
use Rattle.serde_json_path_syntax.specs.declared.node.Part.{Part}
use Rattle.serde_json_path_syntax.specs.declared.builder.SyntaxBuilder.{SyntaxBuilder}
use Rattle.serde_json_path_syntax.specs.declared.checked.Checked.{Checked}

-- the part is good for the builder, and stands for that tree
abbrev pub IsPart : SyntaxBuilder → Part → Branch → Type 0
IsPart builder part branch = (part.number < length builder.arena.nodes.items) × (branch_at builder.arena.nodes.items part.number ≡ branch)

-- no part is good for the builder
abbrev pub HasNoParts : SyntaxBuilder → Type 0
HasNoParts builder = (part : Part) (branch : Branch) → IsPart builder part branch → ⊥

-- the parts stand for these branches, one for each
abbrev pub ArePartsFor : SyntaxBuilder → List Part → List Branch → Type 0
ArePartsFor builder [] [] = Unit {0}
ArePartsFor builder (part ∷ parts) (branch ∷ branches) = IsPart builder part branch × ArePartsFor builder parts branches
ArePartsFor builder _ _ = ⊥

-- the branches of segments, and of selectors
abbrev pub segment_branches : Segments → List Branch
segment_branches no_segments = []
segment_branches (segment kind seg more) = a_segment kind seg ∷ segment_branches more

abbrev pub selector_branches : Selectors → List Branch
selector_branches no_selectors = []
selector_branches (selector sel more) = a_selector sel ∷ selector_branches more

-- the branches of what is joined by `||`, and by `&&`
abbrev pub or_branches : LogicalOr → List Branch
or_branches no_or = []
or_branches (or e more) = an_and e ∷ or_branches more

abbrev pub and_branches : LogicalAnd → List Branch
and_branches no_and = []
and_branches (and e more) = a_basic e ∷ and_branches more

-- the branches of arguments: each is an operand or a logical expression
abbrev pub argument_branch : Argument → Branch
argument_branch (operand o) = an_operand o
argument_branch (logical_argument e) = an_or e

abbrev pub argument_branches : Arguments → List Branch
argument_branches no_arguments = []
argument_branches (argument a more) = argument_branch a ∷ argument_branches more

-- the parts stand for the segments, one for each
abbrev pub ArePartsOf : SyntaxBuilder → List Part → Segments → Type 0
ArePartsOf builder parts segs = ArePartsFor builder parts (segment_branches segs)

-- the parts stand for the selectors in brackets, of which there is one at least
abbrev pub AreSelectorsOf : SyntaxBuilder → List Part → Selectors → Type 0
AreSelectorsOf builder [] sels = ⊥
AreSelectorsOf builder (part ∷ parts) sels = ArePartsFor builder (part ∷ parts) (selector_branches sels)

-- the parts stand for what is joined by `||`, of which there is one at least
abbrev pub AreOrPartsOf : SyntaxBuilder → List Part → LogicalOr → Type 0
AreOrPartsOf builder [] e = ⊥
AreOrPartsOf builder (part ∷ parts) e = ArePartsFor builder (part ∷ parts) (or_branches e)

-- the parts stand for what is joined by `&&`, of which there is one at least
abbrev pub AreAndPartsOf : SyntaxBuilder → List Part → LogicalAnd → Type 0
AreAndPartsOf builder [] e = ⊥
AreAndPartsOf builder (part ∷ parts) e = ArePartsFor builder (part ∷ parts) (and_branches e)

-- the parts stand for the arguments, one for each
abbrev pub AreArgumentsOf : SyntaxBuilder → List Part → Arguments → Type 0
AreArgumentsOf builder parts args = ArePartsFor builder parts (argument_branches args)

-- the names and the signatures of the calls that a builder has made, in that order
abbrev pub calls_in : SyntaxBuilder → List (List ℕ × Signature)
calls_in builder = calls_among builder.arena.nodes.items

-- the type of a call's result, by the signature that it keeps
abbrev pub result_by : Option Node → Option Kind
result_by (Some (node.Call k s parts)) = Some (signature_view s).result
result_by _ = None

abbrev pub result_of_call : SyntaxBuilder → Part → Option Kind
result_of_call builder part = result_by (slice_get builder.arena.nodes.items part.number)

-- that of an operand, if it is a call
abbrev pub result_through : SyntaxBuilder → Option Node → Option Kind
result_through builder (Some (node.Operand (one_operand.Call part))) = result_of_call builder part
result_through builder _ = None

abbrev pub result_of_operand : SyntaxBuilder → Part → Option Kind
result_of_operand builder part = result_through builder (slice_get builder.arena.nodes.items part.number)

-- what the builder tells of a part is so of the argument for which the part stands
abbrev pub IsSeenAs : SyntaxBuilder → Part → ArgumentRef → Argument → Type 0
IsSeenAs builder part (seen.Literal l) x = x ≡ operand (literal (held_view l.now))
IsSeenAs builder part (seen.Query q) x = (y : Query) × (x ≡ operand (queried y)) × IsPart builder q (a_query y)
IsSeenAs builder part (seen.Call kind) x = (c : Call) × (x ≡ operand (called c)) × (result_of_operand builder part ≡ Some (kind_view kind))
IsSeenAs builder part seen.Logical x = (e : LogicalOr) × (x ≡ logical_argument e)

-- each part stays good, with its tree
abbrev pub KeepsTrees : SyntaxBuilder → SyntaxBuilder → Type 0
KeepsTrees old new = (part : Part) (branch : Branch) → IsPart old part branch → IsPart new part branch

-- each part stays good, with its tree, and there is no further call
pub record KeepsParts (old new : SyntaxBuilder) : Type 0 where
  pub trees : KeepsTrees old new
  pub calls : calls_in new ≡ calls_in old

-- the number of a part, and the nodes of a finished query
abbrev pub number_of : Part → ℕ
number_of part = part.number

abbrev pub nodes_in : Checked → List Node
nodes_in checked = checked.arena.nodes.items

-- the names that a finished query calls, each once, with the signature under which it is well-typed
abbrev pub signatures_of : Checked → List (List ℕ × Signature)
signatures_of checked = each_once (calls_among (nodes_in checked))

-- the tree of a finished query
abbrev pub tree_of : Checked → Query
tree_of checked = query_at (nodes_in checked) checked.query

-- the rule by which its comparisons take numbers
abbrev pub rule_of : Checked → Numbers
rule_of checked = numbers_view checked.numbers
