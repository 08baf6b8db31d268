-- The words of definitions that proofs cite, from one place.
unfoldable pub use Rattle.serde_json_path_core.specs.Inside.Rest.{AreChildrenOf}
unfoldable pub use Rattle.serde_json_path_core.specs.Inside.Scopes.{AreCallsOf}
unfoldable pub use Rattle.std.specs.List.Sorted.{IsStrictlySortedBy}
pub use Rattle.serde_json.specs.Events.{items_len}
pub use Rattle.serde_json.specs.declared.value.Value.TheVariants.{Null}
pub use Rattle.serde_json_path_core.specs.Derivation.{Before, BelongsTo, SelectedBefore, SelectedBeforeBy, SelectedBeforeIn, Triple, TripleBefore, beneath, location_of, start_of}
pub use Rattle.serde_json_path_core.specs.Inside.Rest.{IsAtAdmitted, IsAtArrival, IsAtNode, IsKept, Passes, Skips}
pub use Rattle.serde_json_path_core.specs.Inside.Words.{Admits, AdmitsBy, AdmitsIn, AllStandIn, Answers, AnswersYes, AreArguments, AreEqual, AreEqualAmounts, AreEqualExact, AreOfKind, AreRisingAmounts, AreRisingExact, AreSingular, AreTypedArguments, AreTypedSegments, AreTypedSelectors, Argument, Arguments, Basic, Call, CallsByPattern, ComesTo, Compared, Compares, Data, Derives, DescentBefore, EndsIn, EqualData, EqualItems, EqualMembers, EqualNumbers, EqualSides, Exists, Fits, Frame, FunctionSet, Holds, HoldsAll, HoldsBasic, HoldsTest, IsArgument, IsAtChild, IsAtStart, IsChain, IsComparedAs, IsDone, IsHeight, IsInside, IsLess, IsOfKind, IsOfValue, IsPositionOf, IsResult, IsSameFrame, IsSingular, IsSingularSegment, IsSound, IsStack, IsStackIn, IsTakenAs, IsTruthOf, IsTyped, IsTypedAnd, IsTypedArgument, IsTypedBasic, IsTypedCall, IsTypedComparable, IsTypedOperand, IsTypedOr, IsTypedSegment, IsTypedSelector, Items, KeepsTypes, Kind, Located, LogicalAnd, LogicalOr, MayDescend, Members, Node, NotIf, Num, Numbers, Operand, Operator, Pattern, Query, QueryKind, RisingSides, Segment, SegmentKind, Segments, SelectOnly, Selector, Selectors, SelectsIndex, SelectsPosition, Signature, Slice, SlicePositions, Sound, SoundComparable, SoundTest, Stage, StandsIn, Step, StepBefore, Term, admitted, all_hold, all_numbers, all_true, amount_of, and, and_at, and_in, ands_in, answer, answer_compared, answer_holds, any_holds, are_singular, are_taken, argument, argument_as, argument_in, arguments, arguments_in, array, arrival_view, arrivals, as_integer, at, at_positions, basic_at, basic_in, basic_true, begun, below_member, billionths, boolean, bound_of, branch_at, branch_in, branches, branches_named, by_name, by_position, call, call_at, called, candidate_values, candidates, child, child_at, child_by, child_view, children, chosen, chosen_by, comes_before, compare, compare_sides, compared, compared_at, compared_by, count_within, current, cursor_left, descendant, descents, document_of, dot_name, dot_wildcard, each_is, entered, entering, equal, exact_of, falling, filter, first_value, float, form_bound, frame_arrivals, frame_view, frames_view, from_end, get, get_item, get_member, greater, greater_or_equal, here, in_order, index, int_eq, is_and, is_answered, is_argument, is_basic, is_comparable, is_given, is_leaf, is_lt, is_nonempty, is_same, is_segment, is_single, is_taken, is_tested, is_true, item, item_at, items_descents, items_from, items_view, itself, kind_of, kind_of_term, kind_view, last_passed, less, less_or_equal, literal, literal_compared, located, logical, logical_argument, long_hand, lower, match_ordering, member, members_all, members_descents, members_view, name, next_position, no_and, no_arguments, no_items, no_members, no_or, no_segments, no_selectors, node_value, nodes, nodes_in, nodes_of, not_equal, not_if, nothing, null, number, number_view, numbers_view, object, of_both, of_logical, of_nodes, of_value, opened, operand, operand_as, operand_at, operator_view, or, or_at, ordering_reverse, ors_in, params_of, paren, part_query, parts_bound, passed, placed, position_in, positions_by, positions_left, put, queried, query, query_kind_view, query_of, reached, relation, rest, rest_of, result_kind, results, results_from, rising, rising_sides, root, rule_of, same_data, same_items, same_members, same_number, same_sides, segment, segment_in, segment_kind_in, segment_kind_view, segments_at, segments_in, segments_of, selected, selector, selector_bound, selector_view, selectors_list, selectors_of, set_of, signatures_of, single_view, slice, slice_cmp, slice_view, sliced, stack_path, stage_at, stage_of, stages, stages_at, step_of, step_view, steps_of, strided, string, term_view, test, test_true, top_of, tree_of, unfiltered, value, value_compared, values_from, view, view_step, visit, visit_place, visit_rest, visit_stack, whole_numbers, whole_of, wildcard, with_rule, without_node, work}
pub use Rattle.serde_json_path_core.specs.Laws.{AreChildren, AreResultsAt, AreSubtreeResults, with_segment}
pub use Rattle.serde_json_path_core.specs.declared.child.Child.{Child}
pub use Rattle.serde_json_path_core.specs.declared.evaluation.frame.Arrival.{Arrival}
pub use Rattle.serde_json_path_core.specs.declared.evaluation.single_children.SingleSelector.{SingleSelector}
pub use Rattle.serde_json_path_functions.specs.declared.types.FunctionArgType.{FunctionArgType}
pub use Rattle.serde_json_path_functions.specs.declared.types.FunctionValue.{FunctionValue}
pub use Rattle.serde_json_path_nodes.proofs.Words.{AllByRecursion, AllZip, Bool, Decides, Decides-and, Decides-int_eq, Decides-not, Decides-or, Entry, Float, IfSome, IsTrue, N, NegInt, PosInt, Value, Value-F, YieldsList-from_chars, and_parts, append-nil, as_i64, booleans_Decides, bytes_eq-Decides, cases_Bool, cases_lt, chars_rest, clamps, common_steps, drop-drop, drop_all, drop_more, eq, flat_map-append, flat_map-map, fold_out-Value, get_item_past, get_item_within, get_member-put, get_member-put_other, get_or_append_left, get_or_default, get_or_from_slice_get, int_div, int_lt, int_max, int_min, ints, is_some, is_valid, items_len-items_view, iter_rest, length-drop, length-map, length-set, lt, map-Value, map-append, nat_list_cmp_total, nat_lt, nat_tests, negative, none-some, num_of, option_and_then_some, option_map_or, out-Value, pos-*ℤ-negsuc, pos-*ℤ-pos, same_Some, same_from_decides, set-append_left, slice_get_cases, slice_get_past, slice_get_read, slice_get_within, take-append-drop, take-append_seam, take-map, take-set, take_all, take_more, take_more_set, tied_itself, to_z-of_z, unsigned, view-Array, view-lookup, ∥∥₁_elim, ∥∥₁_map, ∥∥₁_map₂, ∥∥₁_prop, ◌*ℤ◌, ◌+ℤ◌, ◌-ℤ◌, ◌<ℤ◌, ◌≤ℤ◌}
pub use Rattle.serde_json_path_numbers.proofs.Floats.{equality}
pub use Rattle.serde_json_path_numbers.proofs.Forms.{integers_less, integers_same}
pub use Rattle.serde_json_path_numbers.proofs.Whole.{whole_amount, whole_number}
pub use Rattle.serde_json_path_syntax.proofs.Lists.{always, flat_map-flat_map, flat_map-same, in_append, in_flat_map, in_keep, in_map, in_option, in_order-append, in_order-flat_map, in_order-keep, in_order-map, in_order-option, map-flat_map, map_in, never, weaker}
pub use Rattle.serde_json_path_syntax.proofs.Names.Once.{fits_each, found_in, in_from}
pub use Rattle.serde_json_path_syntax.proofs.Tree.NamedParts.{below_length, one_is, one_of, past_length, within_bound, within_get}
pub use Rattle.serde_json_path_syntax.proofs.Typing.TypedByNames.{typed_by_names}
pub use Rattle.serde_json_path_syntax.proofs.Typing.Typings.{typed_recovered}
pub use Rattle.serde_json_path_syntax.proofs.Words.{Bor, Branch, Gives, IsFinite, IsIn, IsInOrder, MayRefuse, QueryError, all_finite, arguments_of, calls_from, calls_in_and, calls_in_argument, calls_in_arguments, calls_in_basic, calls_in_operand, calls_in_or, calls_in_segment, calls_in_segments, calls_in_selector, calls_in_selectors, calls_of, document_number, integer, literal_double, literal_number, name_of, signature_in}
pub use Rattle.serde_json_path_syntax.specs.declared.node.Part.{Part}
pub use Rattle.serde_json_path_syntax.specs.declared.selector_ref.SelectorRef.{SelectorRef}
pub use Rattle.serde_json_path_syntax.specs.declared.selector_ref.SelectorRef.TheVariants.{Filter}
pub use Rattle.std.proofs.Common.{Equal, Err, Global, Greater, IfErr, IfOk, Less, List, MatchOption, None, Ok, Option, Ordering, Result, SFits, Some, String, [], ap, append_assoc, arith, bytes_eq, chars, cond, drop, false, flat_map, get_or, inl, inr, is_eq, le-div_iff_mul-le, length, length-append, map, max, min, mul-lt-mul_of_pos_right, nat_abs, nat_cmp, neg_ℤ, negsuc, option_and_then, option_map, option_to_list, pos, refl, rules, set, slice_get, slice_index_or, string_bytes, string_cmp, subst, suc, suc-mul, sym, take, true, true≢false, unwrap_or, w64, zero, ℕ, ℤ, ◌&&◌, ◌*◌, ◌++◌, ◌+◌, ◌-◌, ◌<◌, ◌^◌, ◌||◌, ◌↔◌, ◌∙◌, ◌∷◌, ◌≡◌, ◌≤◌, ◌⊎◌}
pub use Rattle.std.proofs.Math.Bridge.{le_prop}
pub use Rattle.std.proofs.lemmas.Iterator.Search.{cmp_from_yields_List}
pub use Rattle.std.proofs.lemmas.List.Concat.{flat_map_single}
pub use Rattle.std.proofs.lemmas.Map.Text.{is_eq-slice_cmp}
pub use Rattle.std.proofs.lemmas.Simd.{map-map}
pub use Rattle.std.specs.BTreeMap.{insert_entry, is_at}
pub use Rattle.std.specs.Map.{keys_of, lookup}
