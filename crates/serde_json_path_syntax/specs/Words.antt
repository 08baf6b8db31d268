-- The words of contracts and proofs, from one place.
pub use Rattle.serde_json.specs.Find.{of_integer}
pub use Rattle.serde_json_path_functions.specs.Words.{Fits, FunctionSet, Kind, Signature, kind_view, numbers_view, of_logical, of_nodes, of_value, signature_view, whole_numbers}
pub use Rattle.serde_json_path_functions.specs.declared.error.QueryError.TheVariants.{Memory}
pub use Rattle.serde_json_path_nodes.specs.Words.{HasWritten, IfOk, IsPlainFormatter, List, Some, WritesOnOk, decimal, map, number, partial_equiv_from_equiv, string_bytes, true, view, ℕ}
pub use Rattle.serde_json_path_numbers.specs.Numbers.{literal_held, literal_number}
pub use Rattle.serde_json_path_numbers.specs.Views.{exact_view}
pub use Rattle.serde_json_path_syntax.specs.Bindings.{pairs_of}
pub use Rattle.serde_json_path_syntax.specs.Bound.{bound, bound_literal, value_in}
pub use Rattle.serde_json_path_syntax.specs.Branch.{Branch, a_basic, a_call, a_query, a_segment, a_selector, an_and, an_operand, an_or}
pub use Rattle.serde_json_path_syntax.specs.Calls.{OfEach, arguments_of, calls_from, calls_in_and, calls_in_argument, calls_in_arguments, calls_in_basic, calls_in_operand, calls_in_or, calls_in_segment, calls_in_segments, calls_in_selector, calls_in_selectors, calls_of, name_of, names_of}
pub use Rattle.serde_json_path_syntax.specs.Flat.{IsGrown, NamesBelow, and_at, ands_in, argument_in, arguments_in, basic_of, basic_parts, branch_at, branch_in, branch_of, branches, branches_from, branches_named, call_at, call_in, called_by, calls_among, held_view, no_branch, operand_in, operand_of, operand_parts, or_at, or_in, ors_in, part_query, parts_in, query_at, query_in, query_kind_view, segment_at, segment_in, segment_kind_view, segment_of, segment_parts, segments_at, segments_in, selector_at, selector_in, selector_of, selector_parts, selectors_at, selectors_in}
pub use Rattle.serde_json_path_syntax.specs.Inside.Copies.{AreBoundCopies, AreCopies, IsBoundCopy, IsCopy, bound_branch, bound_branches}
pub use Rattle.serde_json_path_syntax.specs.Inside.Openings.{opening_text}
pub use Rattle.serde_json_path_syntax.specs.Inside.SameLaws.{same_trees-equiv}
pub use Rattle.serde_json_path_syntax.specs.Kinds.{AreFitting, AreOfKind, IsOfKind, are_singular, basic_fits, each_is, fits, is_and, is_argument, is_basic, is_call, is_comparable, is_operand, is_or, is_query, is_segment, is_selector, is_singular, is_singular_segment, is_tested, literal_fits, operand_fits, segment_fits, selector_fits, selector_ref_fits}
pub use Rattle.serde_json_path_syntax.specs.Lists.{IsIn, IsInOrder}
pub use Rattle.serde_json_path_syntax.specs.Literals.{literal_view, number_amount, operator_view, whole_amount}
pub use Rattle.serde_json_path_syntax.specs.PartBounds.{parts_bound, selector_bound}
pub use Rattle.serde_json_path_syntax.specs.Parts.{AreAndPartsOf, AreArgumentsOf, AreOrPartsOf, ArePartsFor, ArePartsOf, AreSelectorsOf, HasNoParts, IsPart, IsSeenAs, KeepsParts, KeepsTrees, and_branches, argument_branch, argument_branches, calls_in, nodes_in, number_of, or_branches, result_of_call, result_of_operand, rule_of, segment_branches, selector_branches, signatures_of, tree_of}
pub use Rattle.serde_json_path_syntax.specs.SliceView.{slice_view}
pub use Rattle.serde_json_path_syntax.specs.Stages.{selectors_list}
pub use Rattle.serde_json_path_syntax.specs.Text.{amount_text, and_text, and_texts, argument_text, argument_texts, basic_text, basic_texts, bracket_dots_of, branch_text, call_text, dots_of, fraction_digits, fraction_text, integer_text, joined, literal_text, negation_text, number_text, operand_text, operator_text, or_text, query_kind_text, query_text, segment_text, segments_text, selector_text, selector_texts, sign_text, slice_text}
pub use Rattle.serde_json_path_syntax.specs.Tree.{AreSingular, Argument, Arguments, Basic, Call, IsComparable, IsSingular, IsSingularSegment, IsTested, Literal, LogicalAnd, LogicalOr, Operand, Query, Segment, Segments, Selector, Selectors, and, argument, call, called, child, filter, index, kind_of, literal, logical_argument, long_hand, name, no_and, no_arguments, no_or, no_segments, no_selectors, operand, or, paren, queried, query, relation, root, segment, segments_of, selector, slice, test, wildcard}
pub use Rattle.serde_json_path_syntax.specs.Typing.{AreTypedArguments, AreTypedSegments, AreTypedSelectors, IsTestKind, IsTyped, IsTypedAnd, IsTypedArgument, IsTypedBasic, IsTypedCall, IsTypedComparable, IsTypedOperand, IsTypedOr, IsTypedSegment, IsTypedSelector, TakesResult, result_kind}
pub use Rattle.serde_json_path_syntax.specs.Used.{AreCalled, AreDeclared, AreNamesOf, MayFinish, deepest, each_once, names_in, signature_in}
pub use Rattle.serde_json_path_syntax.specs.WellFormed.{IsOptionalInteger}
pub use Rattle.std.specs.Cmp.Lexicographic.{pointwise}
