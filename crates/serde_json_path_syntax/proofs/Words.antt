-- The words that proofs cite, from one place.
unfoldable pub use Rattle.serde_json_path_syntax.specs.Flat.{branches}
pub use Rattle.serde_json_path_functions.specs.Functions.{Gives, Numbers, whole_numbers, with_rule}
pub use Rattle.serde_json_path_functions.specs.Patterns.{MayRefuse, before_builtin}
pub use Rattle.serde_json_path_functions.specs.declared.error.QueryError.{QueryError}
pub use Rattle.serde_json_path_functions.specs.declared.error.QueryError.TheVariants.{Pattern}
pub use Rattle.serde_json_path_nodes.proofs.Words.{AllZip-get_or, AllocError, Data, Decides, Decides-and, Decides-eqb, Decides-like, Float, and_parts, append-nil, bytes_eq-Decides, cases_Bool, cases_lt, common_steps, drop_all, drop_more, flat_map-append, flat_map_more, float, has_written_append, has_written_of_eq, ints, iter_rest, length-map, map-append, map_more, nat_abs, nat_tests, none-some, pointwise, quot-rem, same_Some, slice_get_past, slice_get_read, take_all, unequal, unsigned_abs-mul, w128, ∥∥₁_elim}
pub use Rattle.serde_json_path_numbers.proofs.Finite.{all_finite, held_as_double}
pub use Rattle.serde_json_path_numbers.specs.Laws.{IsFinite, NumbersAreFinite}
pub use Rattle.serde_json_path_numbers.specs.Numbers.{document_number, integer, literal_double, literal_number}
pub use Rattle.serde_json_path_syntax.specs.Calls.{arguments_of}
pub use Rattle.serde_json_path_syntax.specs.Depth.{depth, segments_depth}
pub use Rattle.serde_json_path_syntax.specs.Inside.SameLaws.{Decides-same_query}
pub use Rattle.serde_json_path_syntax.specs.Parts.{calls_in, result_by, result_of_call, result_through}
pub use Rattle.serde_json_path_syntax.specs.SameTree.{same_and, same_arguments, same_branch, same_call, same_operand, same_or, same_query, same_segments, same_selectors}
pub use Rattle.serde_json_path_syntax.specs.Tree.{child, current, number}
pub use Rattle.serde_json_path_syntax.specs.WellFormed.{double_in}
pub use Rattle.serde_json_path_syntax.specs.Words.{AreAndPartsOf, AreCalled, AreCopies, AreDeclared, AreFitting, AreNamesOf, AreOrPartsOf, ArePartsFor, AreSelectorsOf, AreSingular, AreTypedArguments, AreTypedSegments, AreTypedSelectors, Argument, Arguments, Basic, Branch, Call, Fits, FunctionSet, HasWritten, IsCopy, IsGrown, IsIn, IsInOrder, IsPlainFormatter, IsSingular, IsSingularSegment, IsTestKind, IsTyped, IsTypedAnd, IsTypedArgument, IsTypedBasic, IsTypedCall, IsTypedComparable, IsTypedOperand, IsTypedOr, IsTypedSegment, IsTypedSelector, KeepsTrees, Kind, Literal, LogicalAnd, LogicalOr, MayFinish, NamesBelow, OfEach, Operand, Query, Segment, Segments, Selector, Selectors, Signature, TakesResult, a_basic, a_call, a_query, a_segment, a_selector, amount_text, an_and, an_operand, an_or, and, and_branches, and_text, and_texts, ands_in, are_singular, argument, argument_branch, argument_branches, argument_in, argument_text, argument_texts, arguments_in, basic_parts, basic_text, basic_texts, bracket_dots_of, branch_at, branch_in, branch_of, branch_text, branches_from, branches_named, call, call_in, call_text, called, called_by, calls_among, calls_from, calls_in_and, calls_in_argument, calls_in_arguments, calls_in_basic, calls_in_operand, calls_in_or, calls_in_segment, calls_in_segments, calls_in_selector, calls_in_selectors, calls_of, decimal, deepest, each_is, each_once, filter, fits, fraction_digits, fraction_text, index, is_and, is_argument, is_basic, is_call, is_comparable, is_operand, is_or, is_query, is_segment, is_selector, is_singular_segment, is_tested, joined, kind_of, literal, logical_argument, long_hand, name, name_of, names_in, names_of, no_and, no_arguments, no_branch, no_or, no_segments, no_selectors, nodes_in, number_text, of_logical, of_nodes, of_value, operand, operand_in, operand_parts, operand_text, or, or_branches, or_in, or_text, ors_in, paren, part_query, parts_bound, parts_in, queried, query, query_at, query_in, query_kind_view, query_text, relation, result_kind, root, segment, segment_branches, segment_in, segment_kind_view, segment_parts, segment_text, segments_at, segments_in, segments_of, segments_text, selector, selector_branches, selector_in, selector_parts, selector_text, selector_texts, selectors_in, selectors_list, sign_text, signature_in, signature_view, slice, test, tree_of, wildcard}
pub use Rattle.serde_json_path_syntax.specs.declared.builder.SyntaxBuilder.{SyntaxBuilder}
pub use Rattle.serde_json_path_syntax.specs.declared.node.Basic.TheVariants.{Relation}
pub use Rattle.serde_json_path_syntax.specs.declared.node.Node.{Node}
pub use Rattle.serde_json_path_syntax.specs.declared.node.Part.{Part}
pub use Rattle.serde_json_path_syntax.specs.declared.node.Segment.TheVariants.{LongHand}
pub use Rattle.std.proofs.Common.{Bool, Equal, Err, Greater, IfOk, Less, List, None, Ok, OnErr, OnOk, Option, Ordering, Result, Some, [], ap, append_assoc, arith, bytes_eq, codes, drop, false, filter as keep, flat_map, get_or, if◌then◌else◌, inl, inr, int_div, int_rem, length, length-append, map, nat_cmp, nat_eq, nat_lt, neg_ℤ, negsuc, not, of_z, option_map, option_to_list, pos, refl, rules, slice_get, slice_index_or, string_bytes, subst, suc, sym, take, to_z, true, true≢false, unsigned_abs, vec_capacity, vec_len, zero, ℕ, ℤ, ◌%◌, ◌&&◌, ◌*◌, ◌++◌, ◌+◌, ◌-◌, ◌/◌, ◌<◌, ◌==◌, ◌↔◌, ◌∙◌, ◌∷◌, ◌≡◌, ◌≢◌, ◌≤◌, ◌⊎◌}
pub use Rattle.std.proofs.Math.Decide.{map_dec}
pub use Rattle.std.proofs.lemmas.List.{length-take, length-take-le, map_push, nil_from_length, take-append-le, take-map, take_more}
pub use Rattle.std.proofs.lemmas.List.Sums.{fold-append}
pub use Rattle.std.proofs.lemmas.Slice.Zip.{AllZip-long}
pub use Rattle.std.specs.Borrow.{Bor}
pub use Rattle.std.specs.declared.fmt.Formatter.{Formatter}
