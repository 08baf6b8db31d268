-- The words of contracts of private functions, and of proofs, from one place.
pub use Rattle.serde_json_path_core.specs.Compared.{AreEqual, AreEqualAmounts, AreEqualExact, AreRisingAmounts, AreRisingExact, Compared, Compares, EqualData, EqualItems, EqualMembers, EqualNumbers, EqualSides, IsLess, RisingSides, amount_of, billionths, exact_of, literal_compared, nothing, value_compared}
pub use Rattle.serde_json_path_core.specs.Derivation.{Before, Triple, start_of}
pub use Rattle.serde_json_path_core.specs.Height.{IsHeight}
pub use Rattle.serde_json_path_core.specs.Imports.{AreOfKind, AreSingular, AreTypedArguments, AreTypedSegments, AreTypedSelectors, Argument, Arguments, Basic, Call, Data, DescentBefore, Fits, FunctionSet, IsOfKind, IsSingular, IsSingularSegment, IsTyped, IsTypedAnd, IsTypedArgument, IsTypedBasic, IsTypedCall, IsTypedComparable, IsTypedOperand, IsTypedOr, IsTypedSegment, IsTypedSelector, Items, KeepsTypes, Kind, Located, LogicalAnd, LogicalOr, Members, Memory, Node, Num, Numbers, Operand, Operator, Pattern, Query, QueryKind, Segment, SegmentKind, Segments, Selector, Selectors, Signature, Slice, Stage, Step, StepBefore, Term, all_numbers, and, and_at, and_in, ands_in, are_singular, argument, argument_in, arguments_in, array, as_integer, at, basic_at, basic_in, boolean, branch_at, branch_in, branches, branches_named, by_name, by_position, call, call_at, called, chars, child, child_at, current, descendant, dot_name, dot_wildcard, each_is, eq, equal, exact_view, filter, float, get, get_item, get_member, greater, greater_or_equal, held_view, index, int_eq, is_and, is_argument, is_basic, is_comparable, is_lt, is_segment, is_singular, is_tested, item, items_view, kind_of, kind_of_term, kind_view, less, less_or_equal, literal, literal_fits, located, logical, logical_argument, long_hand, lt, match_ordering, member, members_view, name, nat_cmp, no_and, no_arguments, no_items, no_members, no_or, no_segments, no_selectors, node_value, nodes, nodes_in, not_equal, null, number, number_view, numbers_view, object, of_logical, of_nodes, of_value, operand, operand_at, operator_view, or, or_at, ordering_reverse, ors_in, paren, part_query, parts_bound, put, queried, query, relation, result_kind, root, rule_of, segment, segment_in, segment_kind_in, segment_kind_view, segments_at, segments_in, segments_of, selector, selector_bound, selector_view, selectors_list, selectors_of, signatures_of, slice, slice_cmp, slice_view, stage_at, stage_of, stages, stages_at, step_view, string, term_view, test, tree_of, value, view, view_step, whole_numbers, wildcard, with_rule}
pub use Rattle.serde_json_path_core.specs.Inside.Comparisons.{IsComparisonOf, SoundForm, SoundPlain, compared_by, compared_with, first_compared, filter_holds_by, form_bound, holds_by, plain_compared, relation_holds}
pub use Rattle.serde_json_path_core.specs.Inside.Computed.{SlicePositions, all_true, answer, answer_compared, answer_holds, are_taken, argument_as, arguments, at_positions, basic_true, below_member, child_by, children, chosen, chosen_by, comes_before, compare, compare_sides, compared, count_within, descents, falling, in_order, is_answered, is_given, is_nonempty, is_same, is_taken, is_true, item_at, items_descents, items_from, itself, members_all, members_descents, next_position, not_if, of_both, operand_as, placed, position_in, positions_by, reached, results, results_from, rising, rising_sides, same_data, same_items, same_members, same_number, same_sides, selected, sliced, strided, test_true, whole_of}
pub use Rattle.serde_json_path_core.specs.Inside.Evaluates.{Computes, IsAtAdmitted, IsAtArrival, IsAtNode, IsKept, MayEvaluate, Passes, Skips, Sound, SoundAnd, SoundArgument, SoundBasic, SoundBasics, SoundCall, SoundComparable, SoundOperands, SoundOr, SoundQuery, SoundSegment, SoundSegments, SoundSelector, SoundTest, Tells, all_hold, and_holds, answer_at, any_holds, basic_holds, compared_at, given_at, or_holds, results_at, test_holds, values_at, values_of_segments}
pub use Rattle.serde_json_path_core.specs.Inside.Rest.{AllStandIn, ComesTo, EndsIn, Frame, IsAtChild, IsAtStart, IsChain, IsDone, IsInside, IsOfValue, IsSameFrame, IsStack, IsStackIn, admitted, arrivals, begun, candidates, entered, entering, frame_arrivals, here, is_leaf, last_passed, lower, opened, passed, rest_of, stack_path, unfiltered, visit, visit_place, visit_rest, visit_stack, without_node, work}
pub use Rattle.serde_json_path_core.specs.Inside.Scopes.{IsSound, MayRefuse, nodes_of, query_of, set_of, top_of}
pub use Rattle.serde_json_path_core.specs.Inside.Sides.{side_view}
pub use Rattle.serde_json_path_core.specs.Inside.SingleChildren.{SelectOnly, candidate_values, is_single, single_view, values_from, values_reached}
pub use Rattle.serde_json_path_core.specs.Inside.Views.{arrival_view, child_view, cursor_left, frame_view, frames_view, members_from, members_left, positions_left, positions_view}
pub use Rattle.serde_json_path_core.specs.Laws.{DescendantsInDocumentOrder, EachDocumentHasAHeight, EqualityIsAnEquivalence, EveryQueryHasAResult, LastSegmentSelectsAtEach, LessOrEqualIsEither, NotEqualNegatesEqual, OrderIsTotal, SingularQuerySelectsAtMostOne}
pub use Rattle.serde_json_path_core.specs.Meaning.{Admits, AdmitsBy, AdmitsIn, Answers, AnswersYes, AreArguments, Derives, Exists, Holds, HoldsAll, HoldsBasic, HoldsTest, IsArgument, IsComparedAs, IsPositionOf, IsResult, IsTakenAs, IsTruthOf, MayDescend, NotIf, SelectsIndex, first_value, params_of}
pub use Rattle.serde_json_path_core.specs.PatternCalls.{CallsByPattern, StandsIn}
pub use Rattle.serde_json_path_core.specs.Selects.{OnlyMemoryOrPattern, Selects, SelectsValues}
pub use Rattle.serde_json_path_core.specs.Slices.{SelectsPosition, bound_of, from_end, step_of}
pub use Rattle.serde_json_path_core.specs.Walks.{document_of, places_of, rest, steps_of}
pub use Rattle.serde_json_path_nodes.specs.Words.{located_nodes, node_values}
pub use Rattle.serde_json_path_syntax.specs.Words.{query_kind_view}
