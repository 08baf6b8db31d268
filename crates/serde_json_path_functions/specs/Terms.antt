-- What contracts see of arguments, answers and signatures.
use Rattle.std.specs.Prelude.{List, map, take, Bool, true, false, Option, Some, None}
use Rattle.std.specs.Borrow.{Bor}
use Rattle.serde_json.specs.Data.{Data}
use Rattle.serde_json.specs.View.{view}
use Rattle.serde_json.specs.declared.value.Value.{Value}
use Rattle.serde_json_path_functions.specs.Functions.{Kind, of_value, of_nodes, of_logical, Signature, Term, value, nodes, logical, whole_text, any_part, whole_numbers, all_numbers}
use Rattle.serde_json_path_functions.specs.Functions as spec
use Rattle.serde_json_path_functions.specs.declared.types.FunctionArgType.{FunctionArgType}
use Rattle.serde_json_path_functions.specs.declared.types.FunctionArgType.TheVariants as kind
use Rattle.serde_json_path_functions.specs.declared.numbers.Numbers.{Numbers}
use Rattle.serde_json_path_functions.specs.declared.numbers.Numbers.TheVariants.{Whole, All}
use Rattle.serde_json_path_functions.specs.declared.types.LogicalType.{LogicalType}
use Rattle.serde_json_path_functions.specs.declared.types.LogicalType.TheVariants as truth
use Rattle.serde_json_path_functions.specs.declared.types.ValueType.{ValueType}
use Rattle.serde_json_path_functions.specs.declared.types.ValueType.TheVariants as some
use Rattle.serde_json_path_functions.specs.declared.types.NodesType.{NodesType}
use Rattle.serde_json_path_functions.specs.declared.types.FunctionValue.{FunctionValue}
use Rattle.serde_json_path_functions.specs.declared.types.FunctionValue.TheVariants as function
use Rattle.serde_json_path_functions.specs.declared.signature.Signature as declared
use Rattle.serde_json_path_functions.specs.declared.patterns.Matching.{Matching}
use Rattle.serde_json_path_functions.specs.declared.patterns.Matching.TheVariants.{WholeText, AnyPart}

abbrev pub kind_view : FunctionArgType → Kind
kind_view kind.Value = of_value
kind_view kind.Nodelist = of_nodes
kind_view kind.Logical = of_logical

abbrev pub truth_view : LogicalType → Bool
truth_view truth.True = true
truth_view truth.False = false

-- the value of a node
abbrev pub node_view : Bor Value → Data
node_view node = view node.now

abbrev pub value_view : ValueType → Option Data
value_view (some.Value v) = Some (view v)
value_view (some.Node node) = Some (node_view node)
value_view some.Nothing = None

-- the values of the nodes, in order
abbrev pub nodes_view : NodesType → List Data
nodes_view list = map node_view list.nodes.items

abbrev pub term_view : FunctionValue → Term
term_view (function.Value v) = value (value_view v)
term_view (function.Nodes list) = nodes (nodes_view list)
term_view (function.Logical b) = logical (truth_view b)

abbrev pub signature_view : declared.Signature → Signature
signature_view s = record { params = map kind_view (take s.count s.types); result = kind_view s.answer }

abbrev pub numbers_view : Numbers → spec.Numbers
numbers_view Whole = whole_numbers
numbers_view All = all_numbers

abbrev pub matching_view : Matching → spec.Matching
matching_view WholeText = whole_text
matching_view AnyPart = any_part
