-- The words of contracts of private functions, and of proofs, from one place.
pub use Rattle.serde_json_path_parser.specs.Imports.{IsLiteralAmount, Amount, Numbers, all_numbers, billionths, held_as, held_or, scan, sign_text, AreAndPartsOf, AreOrPartsOf, ArePartsFor, ArePartsOf, AreSelectorsOf, AreSingular, Argument, Arguments, Basic, Call, Operand, Fits, ForSome, IsAscii, IsCharBoundary, IsInteger, IsOptionalInteger, IsPart, IsScalar, IsSingular, IsSingularSegment, IsUtf8, KeepsParts, KeepsTrees, Kind, Literal, LogicalAnd, LogicalOr, Operator, Branch, Query, QueryKind, Segment, SegmentKind, Segments, Selector, Selectors, Signature, Slice, StartsWithChar, SyntaxBuilder, a_basic, an_operand, a_query, a_selector, all_scalars, an_and, an_or, and, and_branches, argument, call, called, calls_from, calls_in, calls_in_and, calls_in_argument, calls_in_arguments, calls_in_basic, calls_in_operand, calls_in_or, calls_in_branch, calls_in_segments, calls_in_selectors, chars, child, current, descendant, digit_char, dot_name, dot_wildcard, encode_utf8_all, equal, filter, greater, greater_or_equal, index, is_utf8, largest, less, less_or_equal, literal, literal_view, logical_argument, long_hand, name, name_of, names_of, no_and, no_arguments, no_or, no_segments, no_selectors, not_equal, null, number, of_logical, of_nodes, of_value, operator_view, or, or_branches, paren, parts_in, query, operand, query_kind_view, relation, root, rule_of, segment, segment_kind_view, segment_branches, selector, selector_branches, signatures_of, queried, slice, slice_view, test, text, tree_of, truth, whole_numbers, wildcard}
pub use Rattle.serde_json_path_parser.specs.Filters.{Deeper, and_list, begins_call, begins_test, ends_argument, or_list, past_word, read_and, read_and_from, read_argument, read_arguments, read_basic, read_basic_from, read_call, read_comparable, read_end, read_literal_word, read_logical_from, read_named, read_negated, read_negated_test, read_next_and, read_next_basic, read_operand, read_operator, read_or, read_or_from, read_paren, read_path, read_query, read_relation, read_right_side, read_some_arguments, read_test, read_text, word}
pub use Rattle.serde_json_path_parser.specs.Inside.Giving.{Fails, Grows, GrowsFrom, IsArgumentOf, IsAsRead, IsNear, IsQueryAsRead, IsRefused, IsWithin, Makes, MakesArgument, MakesArguments, MakesCall, MakesFrom, MakesOperand, MakesSegments, MakesSelectors, MakesSo, Moves, MovesTo, StopsNear, at_level, deeper, error_of, left, literal_word, read_filter, seen, segment_branch, signatures, observed}
pub use Rattle.serde_json_path_parser.specs.Inside.Looking.{Gathered, IsAhead, LooksOn, Stretched, begins_operator, is_ascii, is_ascii_name_char, is_ascii_plain, limit_of, up_to}
pub use Rattle.serde_json_path_parser.specs.Lexical.{AllPass, AreDigits, AreSignedDigits, IsAmount, IsBlank, IsDecimal, IsExponent, IsFraction, IsFunctionName, IsHex4, IsInt, IsName, IsNumber, IsNumberLiteral, IsNumeral, IsNumeralOf, IsPiece, IsPlaces, IsQuote, IsString, Joined, are_at, begins, begins_both, escaped_by, fraction_of, hex_escape, hexadecimal_of, is_at, is_blank, is_digit, is_function_char, is_name_char, is_name_first, is_plain, is_small_letter, letter_escape, opens, pair_escape, pair_of, plain, quote_escape, value_from, ◌∈◌}
pub use Rattle.serde_json_path_parser.specs.Numbers.{after_first, as_fraction, as_literal, capped, is_exponent, is_sign, literal_of, read_amount, read_exponent, read_fraction, read_number, read_numeral, read_places, read_signed, read_signed_digits, read_some_digits, read_whole, read_whole_text}
pub use Rattle.serde_json_path_parser.specs.Operands.{is_number_argument, is_result, is_test, is_value_literal, is_whole, suits, takes_result}
pub use Rattle.serde_json_path_parser.specs.Parsed.{Parsed, byte_count, front, past, past_blanks, refusal, refusal_at, with_front, ◌>>=◌}
pub use Rattle.serde_json_path_parser.specs.Parsing.{after_dot, begins_int, is_first_digit, negative, of_kind, opens_after_root, opens_next, read_after_dot, read_bound, read_bracket, read_descendant, read_digits, read_dotted, read_index_or_slice, read_int, read_name, read_next_segment, read_next_selector, read_quoted, read_segment, read_segments, read_selector, read_selectors, read_slice, read_step, segment_list, selector_list}
pub use Rattle.serde_json_path_parser.specs.Strings.{head, is_control, is_hexadecimal, is_high, is_inside, is_letter_escape, is_low, letter_value, read_escape, read_hex4, read_hexadecimal, read_low, read_piece, read_string, read_unicode}
pub use Rattle.std.specs.Prelude.{Bool, IfErr, IfOk, IsNone, IsTrue, List, None, Option, Some, drop, false, if◌then◌else◌, is_ok, length, map, max, min, option_map, slice_get, slice_index, string_bytes, true, ℕ, ◌%◌, ◌*◌, ◌++◌, ◌+◌, ◌-◌, ◌<◌, ◌==◌, ◌^◌, ◌||◌, ◌∷◌, ◌≡◌, ◌≤◌}
pub use Rattle.std.specs.Option.{ok_or, option_map}
pub use Rattle.serde_json_path_functions.specs.Terms.{kind_view, numbers_view}
pub use Rattle.serde_json_path_syntax.specs.Flat.{held_view}
