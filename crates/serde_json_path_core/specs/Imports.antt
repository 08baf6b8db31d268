-- What the definitions take from the crates below, from one place.
pub use Rattle.serde_json.specs.Data.{Data, Items, Members, Num, array, boolean, float, item, member, no_items, no_members, null, null as null_data, number, number as number_data, object, put, string}
pub use Rattle.serde_json.specs.Events.{items_len}
pub use Rattle.serde_json.specs.Find.{as_array, as_integer, get, get_item, get_member}
pub use Rattle.serde_json.specs.View.{items_view, members_view, number_view, view, view_step}
pub use Rattle.serde_json.specs.declared.value.Value.{Value}
pub use Rattle.serde_json_path_functions.specs.Functions.{Fits, FunctionSet, KeepsTypes, Kind, Numbers, Signature, Term, all_numbers, kind_of_term, logical, nodes, of_logical, of_nodes, of_value, value, whole_numbers, with_rule}
pub use Rattle.serde_json_path_functions.specs.Patterns.{MayRefuse}
pub use Rattle.serde_json_path_functions.specs.Terms.{kind_view, numbers_view, term_view}
pub use Rattle.serde_json_path_functions.specs.declared.error.QueryError.{QueryError}
pub use Rattle.serde_json_path_functions.specs.declared.error.QueryError.TheVariants.{Memory, Pattern}
pub use Rattle.serde_json_path_nodes.specs.Location.{DescentBefore, Located, Step, StepBefore, at, by_name, by_position, child_at}
pub use Rattle.serde_json_path_nodes.specs.Views.{located, node_value, step_view}
pub use Rattle.serde_json_path_numbers.specs.Decimals.{decimal_number}
pub use Rattle.serde_json_path_numbers.specs.Numbers.{AreEqualNumbers, IsInLiteralRange, IsLessNumber, document_number, literal_held, literal_number}
pub use Rattle.serde_json_path_numbers.specs.Views.{exact_view}
pub use Rattle.serde_json_path_syntax.specs.Calls.{OfEach, calls_from, calls_in_and, calls_in_argument, calls_in_basic, calls_in_operand, calls_in_or, calls_in_segment, calls_in_segments, calls_in_selector, calls_of}
pub use Rattle.serde_json_path_syntax.specs.Flat.{and_at, and_in, ands_in, argument_at, argument_in, arguments_in, basic_at, basic_in, call_at, operand_at, held_view, or_at, ors_in, part_query, branch_at, branch_in, branches, branches_named, segment_at, segment_in, segment_kind_in, segment_kind_view, segments_at, segments_in}
pub use Rattle.serde_json_path_syntax.specs.Kinds.{AreOfKind, IsOfKind, are_singular, each_is, is_and, is_argument, is_basic, is_call, is_comparable, is_or, is_query, is_segment, is_singular, is_tested, literal_fits, selector_ref_fits}
pub use Rattle.serde_json_path_syntax.specs.Lists.{IsIn, IsInOrder}
pub use Rattle.serde_json_path_syntax.specs.Literals.{number_amount, operator_view, whole_amount}
pub use Rattle.serde_json_path_syntax.specs.PartBounds.{parts_bound, selector_bound}
pub use Rattle.serde_json_path_syntax.specs.Parts.{nodes_in, rule_of, signatures_of, tree_of}
pub use Rattle.serde_json_path_syntax.specs.SliceView.{slice_view}
pub use Rattle.serde_json_path_syntax.specs.Stages.{Stage, selector_view, selectors_list, selectors_of, stage_at, stage_of, stages, stages_at}
pub use Rattle.serde_json_path_syntax.specs.Tree.{AreSingular, Argument, Arguments, Basic, Call, Operand, IsSingular, IsSingularSegment, Literal, LogicalAnd, LogicalOr, Operator, Query, QueryKind, Segment, SegmentKind, Segments, Selector, Selectors, Slice, and, argument, call, called, child, current, descendant, dot_name, dot_wildcard, equal, filter, greater, greater_or_equal, index, kind_of, less, less_or_equal, literal, logical_argument, long_hand, name, no_and, no_arguments, no_or, no_segments, no_selectors, not_equal, or, paren, query, operand, relation, root, segment, segments_of, selector, queried, slice, test, text, truth, wildcard}
pub use Rattle.serde_json_path_syntax.specs.Typing.{AreTypedArguments, AreTypedSegments, AreTypedSelectors, IsTyped, IsTypedAnd, IsTypedArgument, IsTypedBasic, IsTypedCall, IsTypedComparable, IsTypedOperand, IsTypedOr, IsTypedSegment, IsTypedSelector, result_kind}
pub use Rattle.serde_json_path_syntax.specs.declared.node.Node.{Node}
pub use Rattle.serde_json_path_syntax.specs.declared.node.Part.{Part}
pub use Rattle.serde_json_path_syntax.specs.declared.selector_ref.SelectorRef.{SelectorRef}
pub use Rattle.std.specs.BTreeMap.{insert_entry}
pub use Rattle.std.specs.Bool.{beq}
pub use Rattle.std.specs.Cmp.Lexicographic.{slice_cmp}
pub use Rattle.std.specs.Float.Ieee.{Float, eq, lt}
pub use Rattle.std.specs.Int.{int_max, int_min}
pub use Rattle.std.specs.List.{AllZip}
pub use Rattle.std.specs.Option.{option_map_or}
pub use Rattle.std.specs.Ordering.{int_eq, is_lt, match_ordering, nat_cmp, ordering_reverse}
pub use Rattle.std.specs.Str.{chars}
pub use Rattle.std.specs.declared.cmp.Ordering.TheVariants.{Less}
