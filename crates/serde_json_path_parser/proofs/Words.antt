-- The words of definitions that proofs cite, from one place.
unfoldable pub use Rattle.serde_json_path_nodes.specs.Text.{in_decimal}
unfoldable pub use Rattle.serde_json_path_parser.specs.Filters.{read_argument, level, read_named_call, read_path, read_text}
unfoldable pub use Rattle.serde_json_path_parser.specs.Numbers.{read_amount, read_exponent, read_fraction, read_numeral, read_places, read_signed_digits}
unfoldable pub use Rattle.serde_json_path_parser.specs.Parsed.{many, many_within}
unfoldable pub use Rattle.serde_json_path_parser.specs.Parsing.{read_quoted}
pub use Rattle.std.specs.Prelude.{unsigned_abs, IsSome, IsTrue, None, Some, bytes_eq, codes, encode_utf8, nat_le, nat_lt, negsuc, not, pos, slice_get, string_bytes, ℤ, ◌%◌, ◌&&◌, ◌*◌, ◌-ℤ◌, ◌/◌, ◌==◌, ◌^◌, ◌||◌, ◌↔◌, neg_ℤ}
pub use Rattle.serde_json_path_parser.specs.Inside.Words.{IsArgumentOf, IsLiteralAmount, ok_or, Amount, IsNumberLiteral, IsNumeralOf, as_literal, billionths, held_as, held_or, literal_of, read_signed, scan, sign_text, AreDigits, AreSignedDigits, IsExponent, IsNumeral, IsPlaces, after_first, is_sign, read_some_digits, read_whole_text, with_front, Numbers, all_numbers, is_number_argument, AllPass, AreAndPartsOf, AreOrPartsOf, ArePartsFor, ArePartsOf, AreSelectorsOf, AreSingular, Argument, Arguments, Basic, Branch, Call, Deeper, Fails, Fits, Gathered, Grows, GrowsFrom, IsAhead, IsAmount, IsAsRead, IsAscii, IsBlank, IsCharBoundary, IsDecimal, IsFraction, IsFunctionName, IsHex4, IsInt, IsName, IsNumber, IsPart, IsPiece, IsQuote, IsRefused, IsScalar, IsSingular, IsSingularSegment, IsString, IsUtf8, IsWithin, Joined, KeepsParts, KeepsTrees, Kind, Literal, LogicalAnd, LogicalOr, LooksOn, MakesArguments, MakesSo, Moves, Operand, Operator, Parsed, Query, QueryKind, Segment, SegmentKind, Segments, Selector, Selectors, Signature, Slice, StartsWithChar, Stretched, SyntaxBuilder, a_basic, a_selector, after_dot, all_scalars, an_and, an_operand, and, and_branches, and_list, are_at, argument, at_level, begins, begins_both, begins_call, begins_int, begins_operator, begins_test, byte_count, call, called, calls_from, calls_in, calls_in_and, calls_in_argument, calls_in_arguments, calls_in_basic, calls_in_branch, calls_in_or, calls_in_segments, calls_in_selectors, chars, child, current, deeper, descendant, digit_char, dot_name, dot_wildcard, encode_utf8_all, ends_argument, equal, error_of, escaped_by, filter, fraction_of, front, greater, greater_or_equal, head, hex_escape, hexadecimal_of, index, is_ascii, is_ascii_name_char, is_ascii_plain, is_at, is_blank, is_digit, is_exponent, is_first_digit, is_function_char, is_hexadecimal, is_high, is_inside, is_letter_escape, is_low, is_name_char, is_name_first, is_plain, is_result, is_small_letter, is_utf8, largest, left, less, less_or_equal, letter_escape, letter_value, literal, literal_view, logical_argument, long_hand, name, name_of, names_of, negative, no_and, no_arguments, no_or, no_segments, no_selectors, not_equal, null, number, of_logical, of_value, opens, opens_after_root, opens_next, operand, operator_view, or, or_branches, or_list, pair_escape, paren, parts_in, past, past_blanks, past_word, plain, queried, query, query_kind_view, quote_escape, read_after_dot, read_and, read_and_from, read_arguments, read_basic, read_basic_from, read_bound, read_bracket, read_call, read_comparable, read_descendant, read_digits, read_dotted, read_end, read_escape, read_hex4, read_hexadecimal, read_index_or_slice, read_int, read_literal_word, read_low, read_name, read_named, read_negated, read_negated_test, read_next_and, read_next_basic, read_next_segment, read_next_selector, read_number, read_operand, read_operator, read_or, read_or_from, read_paren, read_piece, read_query, read_relation, read_right_side, read_segment, read_segments, read_selector, read_selectors, read_slice, read_some_arguments, read_step, read_string, read_test, read_unicode, read_whole, refusal, refusal_at, relation, root, rule_of, segment, segment_branch, segment_branches, segment_kind_view, segment_list, selector, selector_branches, selector_list, signatures, signatures_of, slice, suits, takes_result, test, text, tree_of, truth, value_from, whole_numbers, wildcard, word, ◌>>=◌, ◌∈◌}
pub use Rattle.serde_json_path_functions.specs.Terms.{kind_view, numbers_view, signature_view}
pub use Rattle.serde_json_path_nodes.specs.Text.{escape_of, hexadecimal_escape, in_quotes, quoted}
pub use Rattle.serde_json_path_parser.specs.Filters.{read_filter}
pub use Rattle.serde_json_path_parser.specs.Grammar.{IsNumberArgument, MayBeArgument, InParentheses, IsBound, IsLiteral, IsSign, IsSlice, IsSliceStep, Negated, ReadArguments, ReadMoreAnds, ReadMoreArguments, ReadMoreOrs, ReadMoreSelectors, ReadSegments, ReadSelectors, Reads, ReadsAnd, ReadsArgument, ReadsBasic, ReadsCall, ReadsOperand, ReadsOr, ReadsSegment, ReadsSelector, StandsAlone, dots_before_bracket, dots_before_name, operator_sign, query_sign}
pub use Rattle.serde_json_path_parser.specs.Parse.{IsParse, NeedsNoMemory, ParsedQuery, checked_view, is_dollar}
pub use Rattle.serde_json_path_parser.specs.Reported.{IsUndeclared, Reports, reported}
pub use Rattle.serde_json_path_parser.specs.Source.{Observed, greatest_usize, looked}
pub use Rattle.serde_json_path_parser.specs.declared.error.Context.{Context}
pub use Rattle.serde_json_path_parser.specs.declared.error.Context.TheVariants.{LongHand, Path}
pub use Rattle.serde_json_path_parser.specs.declared.error.Failure.{Failure}
pub use Rattle.serde_json_path_parser.specs.declared.error.Failure.TheVariants.{Memory, Refused}
pub use Rattle.serde_json_path_parser.specs.declared.error.ParseErrorKind.{ParseErrorKind}
pub use Rattle.serde_json_path_parser.specs.declared.error.ParseErrorKind.TheVariants.{BadEscape, ControlCharacter, ExpectedClosingBracket, ExpectedClosingParenthesis, ExpectedComparisonOperator, ExpectedEndingQuote, ExpectedExpression, ExpectedRoot, ExpectedSelector, ExponentOrEmptyFraction, FractionTooLong, IntegerOutOfRange, NoMemory, NumberOutOfRange, TextAfterPath, UndefinedFunction, WrongArgumentType, WrongNumberOfArguments, WrongReturnType}
pub use Rattle.serde_json_path_parser.specs.declared.error.Refusal.{Refusal}
pub use Rattle.serde_json_path_parser.specs.declared.parser.reader.Reader.{Reader}
pub use Rattle.serde_json_path_parser.specs.declared.source.PathSource.{Ghosts}
pub use Rattle.serde_json_path_syntax.proofs.Tree.NamedParts.{parts_for_kept, comparable_is}
pub use Rattle.serde_json_path_syntax.specs.Depth.{and_depth, argument_depth, arguments_depth, basic_depth, call_depth, operand_depth, depth, or_depth, segment_depth, segments_depth, selector_depth, selectors_depth}
pub use Rattle.serde_json_path_syntax.specs.Kinds.{are_singular, is_singular, is_singular_segment}
pub use Rattle.serde_json_path_syntax.specs.Text.{negation_text, amount_text, and_text, and_texts, argument_text, argument_texts, basic_text, basic_texts, bracket_dots_of, call_text, operand_text, dots_of, fraction_digits, fraction_text, integer_text, joined, literal_text, number_text, operator_text, or_text, query_kind_text, query_text, segment_text, segments_text, selector_text, selector_texts, slice_step_text, slice_text}
pub use Rattle.serde_json_path_syntax.specs.Parts.{argument_branch, IsSeenAs, result_of_operand}
pub use Rattle.serde_json_path_syntax.specs.Tree.{IsComparable, IsTested, decimal as decimal_literal}
pub use Rattle.serde_json_path_syntax.specs.Typing.{AreTypedArguments, AreTypedSegments, AreTypedSelectors, IsTestKind, IsTyped, IsTypedAnd, IsTypedArgument, IsTypedBasic, IsTypedCall, IsTypedComparable, IsTypedOperand, IsTypedOr, IsTypedSegment, IsTypedSelector, TakesResult, result_kind}
pub use Rattle.serde_json_path_syntax.specs.Used.{AreCalled, AreDeclared, MayFinish, deepest, names_in}
pub use Rattle.serde_json_path_syntax.specs.declared.node.Part.{Part}
pub use Rattle.std.proofs.Common.{Bool, Err, List, Ok, Option, Result, [], ap, append_assoc, arith, cond, drop, false, get_or, if◌then◌else◌, inl, inr, is_ok, length, lt-ltb, ltb-false, ltb-true, map, min, option_map, refl, rules, set, subst, suc, sym, take, true, true≢false, unwrap_or, zero, ℕ, ◌++◌, ◌+◌, ◌-◌, ◌<◌, ◌∙◌, ◌∷◌, ◌≡◌, ◌≢◌, ◌≤◌, ◌⊎◌, leb-true, div-le_self, div-lt_iff_lt-mul, mod-lt}
pub use Rattle.std.proofs.Math.Nat.{mul-lt-mul_of_pos_right, one-le-pow, pow-succ'}
pub use Rattle.std.proofs.Math.Seq.{drop-append_seam, take-append_seam}
pub use Rattle.std.proofs.lemmas.Bool.{and_parts, cases_Bool, cases_lt, eq-eqb, eqb-true, false_from_ne_true, le-ltb, or_parts, or_right}
pub use Rattle.std.proofs.lemmas.Bool.Decides.{eqb_tells, nat_tests, same_from_decides}
pub use Rattle.std.proofs.lemmas.Grind.{common_steps}
pub use Rattle.std.proofs.lemmas.Int.{ints}
pub use Rattle.std.proofs.lemmas.List.{append-nil, drop-drop, drop_all, get_or-drop, length-append, length-drop, length-set, map-append, nil_from_length, take_more_set}
pub use Rattle.std.proofs.lemmas.Nat.{pow-add}
pub use Rattle.std.proofs.lemmas.Option.{none-some, same_Some, slice_get-get_or, slice_get_past, slice_get_within}
pub use Rattle.std.proofs.lemmas.Result.{err_from_is_err_and}
pub use Rattle.std.proofs.lemmas.Slice.Eq.{bytes_eq-Decides}
pub use Rattle.std.proofs.lemmas.Str.{IsCharBoundary-at_seam, IsCharBoundary-start, IsUtf8-from_ascii, IsUtf8-from_is_utf8, byte_from_char, char_from_byte, chars-encodes, chars-nil, chars_past_char, encode_ascii, encodes-IsAscii, encodes-append, encodes-chars, is_utf8-from_IsUtf8, length-le-encodes, scalars-chars}
pub use Rattle.std.specs.Fmt.{decimal, signed_decimal}
pub use Rattle.std.specs.List.{AllByRecursion, flat_map}
pub use Rattle.std.specs.Str.Parse.{AllDigits, digits_value_after, digits_value}
pub use Rattle.serde_json_path_parser.specs.Laws.{AllNumbersReadMore, OneTreeAtMost}
pub use Rattle.serde_json_path_numbers.proofs.ReadBack.{plain_held, held_in_range, read_back}
pub use Rattle.serde_json_path_numbers.specs.Decimals.{most_billionths, Decimal, decimal_text, has_point, place_digits, size_text}
pub use Rattle.serde_json_path_numbers.specs.Numerals.{decimal as held_decimal}
