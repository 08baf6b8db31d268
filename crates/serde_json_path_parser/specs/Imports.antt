-- What the definitions take from the crates below, from one place.
pub use Rattle.serde_json_path_functions.specs.Functions.{Fits, FunctionSet, Kind, Numbers, Signature, all_numbers, of_logical, of_nodes, of_value, whole_numbers}
pub use Rattle.serde_json_path_nodes.specs.Text.{code}
pub use Rattle.serde_json_path_numbers.specs.Numerals.{Amount, billionths, held_as, held_or}
pub use Rattle.serde_json_path_syntax.specs.Calls.{calls_from, calls_in_and, calls_in_argument, calls_in_arguments, calls_in_basic, calls_in_operand, calls_in_or, calls_in_segments, calls_in_selectors, calls_of, name_of, names_of}
pub use Rattle.serde_json_path_syntax.specs.Depth.{depth}
pub use Rattle.serde_json_path_syntax.specs.Flat.{query_kind_view, parts_in, segment_kind_view}
pub use Rattle.serde_json_path_syntax.specs.Kinds.{is_singular}
pub use Rattle.serde_json_path_syntax.specs.Literals.{literal_view, operator_view}
pub use Rattle.serde_json_path_syntax.specs.Parts.{AreAndPartsOf, AreArgumentsOf, AreOrPartsOf, ArePartsFor, ArePartsOf, AreSelectorsOf, IsPart, KeepsParts, KeepsTrees, and_branches, argument_branch, calls_in, or_branches, result_of_call, result_of_operand, rule_of, segment_branches, selector_branches, signatures_of, tree_of}
pub use Rattle.serde_json_path_syntax.specs.Branch.{Branch, a_basic, an_operand, a_query, a_segment, a_selector, an_and, an_or, calls_in_branch}
pub use Rattle.serde_json_path_syntax.specs.SliceView.{slice_view}
pub use Rattle.serde_json_path_syntax.specs.Text.{query_text}
pub use Rattle.serde_json_path_syntax.specs.Tree.{AreSingular, Argument, Arguments, Basic, Call, Operand, IsInteger, IsSingular, IsSingularSegment, Literal, LogicalAnd, LogicalOr, Operator, Query, QueryKind, Segment, SegmentKind, Segments, Selector, Selectors, Slice, and, argument, call, called, child, current, decimal, descendant, dot_name, dot_wildcard, equal, filter, greater, greater_or_equal, index, kind_of as query_kind, largest, less, less_or_equal, literal, logical_argument, long_hand, name, no_and, no_arguments, no_or, no_segments, no_selectors, not_equal, null, number, or, paren, query, operand, relation, root, segment, selector, queried, slice, test, text, truth, wildcard}
pub use Rattle.serde_json_path_syntax.specs.Typing.{IsTyped, result_kind}
pub use Rattle.serde_json_path_syntax.specs.Used.{AreCalled, AreDeclared, deepest, names_in}
pub use Rattle.serde_json_path_syntax.specs.WellFormed.{IsLiteralAmount, IsOptionalInteger}
pub use Rattle.serde_json_path_syntax.specs.declared.builder.SyntaxBuilder.{SyntaxBuilder}
pub use Rattle.serde_json_path_syntax.specs.declared.checked.Checked.{Checked}
pub use Rattle.serde_json_path_syntax.specs.declared.node.Part.{Part}
pub use Rattle.serde_json_path_syntax.specs.declared.parts.Parts.{Parts}
pub use Rattle.std.specs.Char.{IsScalar, digit_char}
pub use Rattle.std.specs.Float.Numeral.{scan_numeral as scan}
pub use Rattle.std.specs.Fmt.{sign_text}
pub use Rattle.std.specs.List.{AllByRecursion}
pub use Rattle.std.specs.Option.{ForSome}
pub use Rattle.std.specs.Result.{result_map_both}
pub use Rattle.std.specs.Str.{IsAscii, IsCharBoundary, IsUtf8, all_scalars, chars, encode_utf8_all, is_utf8}
pub use Rattle.std.specs.Str.Pattern.{StartsWithChar}
