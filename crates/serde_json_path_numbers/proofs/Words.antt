-- The words of definitions and lemmas that proofs cite, from one place.
unfoldable pub use Rattle.std.specs.Float.{float_is_finite, round_with}
unfoldable pub use Rattle.std.specs.Float.Ieee.{eq, fits, is_nan, le, lt, neg, odd, of_bits, to_unsigned, units}
pub use Rattle.core.proofs.dec2flt.DigitsLemmas.{digits_value-append}
pub use Rattle.core.proofs.dec2flt.ExactLemmas.{ten_to_pos}
pub use Rattle.core.proofs.dec2flt.Rows.{AllDigits-append, AllDigits-drop}
pub use Rattle.fast_float.proofs.Reading.{scan_numeral-AllDigits}
pub use Rattle.fast_float.specs.Rounding.{nearest_to_decimal}
pub use Rattle.fast_float.specs.Text.{IsWellFormed, Parts, digits_of, exponent_text, nearest, point_at, scan, text_of, with_sign}
pub use Rattle.serde_json.specs.Data.{null, number}
pub use Rattle.serde_json.specs.Find.{of_float}
pub use Rattle.serde_json_path_numbers.specs.Decimals.{Decimal, decimal_of, fewest, first_digits, has_point, if_read, is_beyond, most_billionths, one_less, place_digits, reads_as, shortest, size_text}
pub use Rattle.serde_json_path_numbers.specs.Inside.{AreHeldAlike, IsOrder, held_number, is_exact}
pub use Rattle.serde_json_path_numbers.specs.Laws.{EqualityIsEquivalence, IntegersKeepTheirOrder, IsExactlyOne, IsFinite, LessIsStrictOrder, NumbersAreFinite}
pub use Rattle.serde_json_path_numbers.specs.Numbers.{AreEqualNumbers, IsInLiteralRange, IsLessNumber, integer, literal_double, literal_held, literal_number}
pub use Rattle.serde_json_path_numbers.specs.Numerals.{Amount, billionths, decimal_billionths, double_billionths, exponent_of, held_as, held_double, held_or, held_short, plain_billionths, shortest_of, whole_billionths}
pub use Rattle.serde_json_path_numbers.specs.Views.{amount_view}
pub use Rattle.serde_json_path_numbers.specs.declared.exact_number.Form.{Form}
pub use Rattle.serde_json_path_numbers.specs.declared.exact_number.Form.TheVariants.{Double, Integer}
pub use Rattle.std.proofs.Common.{Bool, Equal, Greater, Less, List, Option, Ordering, T, [], add_comm, ap, append-nil, arith, codes, div-add-mod', div-le_self, div-lt_iff_lt-mul, div-mul-le_self, div-one, drop, drop-cons, drop-set-lt, eq-eqb, eq-zero-or-pos, eqb-true, eqb→eq, false, get_or, get_or-set_same, inl, inr, is_eq, is_gt, is_lt, le-div_iff_mul-le, le-ltb, leb-true, length, length-append, length-drop, length-set, lit<, lt-ltb, ltb-false, ltb-true, min, mod-lt, mul-one, mul_assoc, mul_comm, nat_cmp, ne_eqb, of_z, option_map, pos_of_ne-zero, pow-add, pow-suc, refl, shl_lt, slice_index, subst, suc, suc-mul, sym, take, to_z, to_z-of_z, true, true≢false, unwrap_or, zero, zero-le, ℕ, ◌%◌, ◌*◌, ◌++◌, ◌+◌, ◌-◌, ◌/◌, ◌<◌, ◌^◌, ◌∙◌, ◌∷◌, ◌≡◌, ◌≤◌, ◌⊎◌}
pub use Rattle.std.proofs.Math.ListN.{drop_of_length-le}
pub use Rattle.std.proofs.Math.Nat.{div-div-eq-div-mul, mul-le-mul_left, mul-le-mul_right, pow-le-pow_right, pow-succ', zero-div}
pub use Rattle.std.proofs.lemmas.Bool.{and_parts, cases_Bool, cases_lt}
pub use Rattle.std.proofs.lemmas.Bool.Decides.{nat_tests}
pub use Rattle.std.proofs.lemmas.Float.{T_from_false, T_from_true, eq-not_lt, eq_flip, eq_trans, le_of_eq, le_of_not-lt, lt-or-eq, lt_irrefl, lt_of_le_of_lt, lt_of_lt_of_le, lt_of_not-le, lt_trans}
pub use Rattle.std.proofs.lemmas.Float.Parse.{scan_numeral-text_of}
pub use Rattle.std.proofs.lemmas.Fmt.{decimal_digit, decimal_is_IsNumeral}
pub use Rattle.std.proofs.lemmas.Int.{ints}
pub use Rattle.std.proofs.lemmas.List.{take-append-drop, take_all, take_more}
pub use Rattle.std.proofs.lemmas.Nat.{div-mul-add}
pub use Rattle.std.proofs.lemmas.Option.{none-some}
pub use Rattle.std.proofs.lemmas.Str.{digit_value_digit}
pub use Rattle.std.proofs.lemmas.Str.Parse.{digit_at, digits_value_short, numerals_by_value, tells_digits}
pub use Rattle.std.specs.Char.{digit_value}
pub use Rattle.std.specs.Float.{NotNan, minus_one, trunc, two_to}
pub use Rattle.std.specs.Float.Ieee.{Float, Format, binary64, down, emax, fin, inf, low, nan, prec, round, up}
pub use Rattle.std.specs.Float.Order.{lt_at}
pub use Rattle.std.specs.Fmt.{decimal, sign_text, signed_decimal}
pub use Rattle.std.specs.Int.{w128, w64}
pub use Rattle.std.specs.Option.{option_or}
pub use Rattle.std.specs.Ordering.{int_eq, ordering_reverse}
pub use Rattle.std.specs.Prelude.{FitsSigned, None, Some, if◌then◌else◌, int_div, int_lt, nat_eq, nat_le, nat_lt, negsuc, pos, slice_set, to_bits, unsigned_abs, ℤ, ◌*ℤ◌, ◌+ℤ◌, ◌-ℤ◌, ◌==◌}
pub use Rattle.std.specs.Str.Parse.{AllDigits, digits_value, digits_value_after}
pub use lib.Ieee.Bits.{of_bits-to_bits}
pub use lib.Ieee.Fits.{round-fits}
pub use lib.Ieee.Scale.{round_same}
