-- The words that proofs cite, from one place.
unfoldable pub use Rattle.serde_json_path_nodes.specs.Text.{in_decimal}
unfoldable pub use Rattle.std.specs.List.Sorted.{IsStrictlySortedBy}
pub use Rattle.serde_json.proofs.Views.{Entry, get_item_past, get_item_within, get_member-put, get_member-put_other, items_len-items_view, members_len-members_view, view-Array, view-Object, view-lookup}
pub use Rattle.serde_json.specs.Data.{Data, Items, Members, array, boolean, depth, float, item, items_depth, member, members_depth, negative, no_items, no_members, null, number, object, string, unsigned}
pub use Rattle.serde_json.specs.Find.{as_i64, as_number, as_u64, get_item, get_member}
pub use Rattle.serde_json.specs.Number.{is_valid, num_of}
pub use Rattle.serde_json.specs.View.{items_view, members_view, view, view_step}
pub use Rattle.serde_json.specs.declared.number.N.{N}
pub use Rattle.serde_json.specs.declared.number.N.TheVariants.{NegInt, PosInt}
pub use Rattle.serde_json.specs.declared.value.Value.{Value, fold_out-Value, map-Value, out-Value}
pub use Rattle.serde_json.specs.declared.value.Value.TheOpen.{Value-F}
pub use Rattle.serde_json_path_nodes.specs.Laws.{TextsTellLocations}
pub use Rattle.serde_json_path_nodes.specs.Lists.{exactly_one_of, first_places, first_places_after, is_among}
pub use Rattle.serde_json_path_nodes.specs.Location.{IsProper, Located, Step, at, by_name, by_position, child_at}
pub use Rattle.serde_json_path_nodes.specs.Same.{same_step, same_steps, same_steps_decides}
pub use Rattle.serde_json_path_nodes.specs.Text.{escape_of, in_pointer, in_quotes, is_escaped, normal, normal_step, pointer}
pub use Rattle.serde_json_path_nodes.specs.Views.{located_nodes, located_nodes_left}
pub use Rattle.serde_json_path_nodes.specs.Words.{AreNumbered, located, location_cmp, location_of, node_cmp, step_cmp, step_view}
pub use Rattle.serde_json_path_nodes.specs.declared.located_node.LocatedNode.{LocatedNode}
pub use Rattle.serde_json_path_nodes.specs.declared.path_element.PathElement.{PathElement}
pub use Rattle.std.proofs.Common.{Bool, Bor, Err, Global, IfOk, IsErr, List, None, Ok, Option, Result, Some, [], ap, append-nil, append_assoc, ap₂, arith, codes, cond, drop, encode_utf8, eq-eqb, false, fold, get_or, if◌then◌else◌, inl, inr, is_some, length, length-append, ltb, map, nat_eq, nat_lt, not, option_map, pos, refl, rules, slice_get, slice_range, string_bytes, subst, suc, sym, take, tests, true, true≢false, unwrap_or, vec_len, zero, ℕ, ◌&&◌, ◌*◌, ◌++◌, ◌+◌, ◌-◌, ◌<◌, ◌==◌, ◌^◌, ◌||◌, ◌∙◌, ◌∷◌, ◌≡◌, ◌≢◌, ◌≤◌, ◌⊎◌}
pub use Rattle.std.proofs.Math.IntN.{nat_abs, pos-*ℤ-negsuc, pos-*ℤ-pos}
pub use Rattle.std.proofs.Math.Logic.{∥∥₁_elim, ∥∥₁_map, ∥∥₁_map₂, ∥∥₁_prop}
pub use Rattle.std.proofs.Math.Seq.{map-set_same, take-append_seam}
pub use Rattle.std.proofs.Output.{has_written_append, has_written_of_eq}
pub use Rattle.std.proofs.lemmas.Bool.{and_from, and_parts, cases_Bool, cases_lt, false_from_ne_true, le-ltb, lt-ltb, ne_eqb, or_left}
pub use Rattle.std.proofs.lemmas.Bool.Decides.{Decides-and, Decides-eqb, Decides-int_eq, Decides-like, Decides-not, Decides-or, nat_tests, same_from_decides}
pub use Rattle.std.proofs.lemmas.Cmp.{lists_total, nat_cmp_total, nat_eq_equiv, nat_list_cmp_total, on_total, ranked, then_total, tied_back, tied_itself}
pub use Rattle.std.proofs.lemmas.Fmt.{decimal-digits_of, decimal_digit}
pub use Rattle.std.proofs.lemmas.Fn.{always_returns_same, dedup_same}
pub use Rattle.std.proofs.lemmas.Grind.{common_steps, flat_map-append, fold-append}
pub use Rattle.std.proofs.lemmas.Int.{clamps, ints, quot-rem, to_z-of_z, unsigned_abs-mul}
pub use Rattle.std.proofs.lemmas.Int.Digits.{all_below_base_digits_of, first_digits_of, number_digits_of}
pub use Rattle.std.proofs.lemmas.Iterator.{YieldsList-from_chars, YieldsList-from_map_by}
pub use Rattle.std.proofs.lemmas.List.{append_cancel_left, drop-append-le, drop-drop, drop_all, drop_more, flat_map_more, get_or-set_other, get_or_append_left, get_or_default, length-drop, length-map, length-set, length-take-le, length_push, map-append, map_more, map_push, nil_from_length, set-append_left, take-append-drop, take-append-le, take-set, take_all, take_more, take_more_set, take_rest, with_items_is}
pub use Rattle.std.proofs.lemmas.List.Elements.{All-filter, All-head, All-nil, All-push, All-same, All-tail, All-weaker, AllZip-get_or, filter_agree, recursion_from_All}
pub use Rattle.std.proofs.lemmas.List.Folds.{flat_map-map, list_any-append}
pub use Rattle.std.proofs.lemmas.List.Kept.{IsNonDecreasingBy-filter}
pub use Rattle.std.proofs.lemmas.List.Sorted.{All-permutation, IsNonDecreasingBy-drop, IsNonDecreasingBy-from_sort_by_key, list_any-IsPermutation, ranks_by, sum_by-IsPermutation}
pub use Rattle.std.proofs.lemmas.List.Sums.{sum_by-cons, sum_by-le, sum_by_push}
pub use Rattle.std.proofs.lemmas.Map.Keys.{IsDistinct-IsPermutation, IsDistinct-from_apart, apart_from_distinct, sorted_from_all_adjacent}
pub use Rattle.std.proofs.lemmas.Option.{get_or_from_slice_get, none-some, option_and_then_some, same_Some, slice_get_cases, slice_get_past, slice_get_read, slice_get_within}
pub use Rattle.std.proofs.lemmas.Result.{IfOk-weaker, on_ok_weaker}
pub use Rattle.std.proofs.lemmas.Slice.Eq.{bytes_eq-Decides}
pub use Rattle.std.proofs.lemmas.Str.{IsCharBoundary-end, IsCharBoundary-from_take, IsUtf8-drop, IsUtf8-string_bytes, IsUtf8-take, char_from_byte, chars-append, chars-encodes, chars-nil, chars_past_char, encode_same, encodes-chars}
pub use Rattle.std.specs.Bool.{Decides}
pub use Rattle.std.specs.Char.{digit_char}
pub use Rattle.std.specs.Cmp.{Equal-is, IsTotalOrder, booleans_Decides, unsigned_ties}
pub use Rattle.std.specs.Cmp.Lexicographic.{as_long, lists_ties, pointwise, slice_cmp, unequal}
pub use Rattle.std.specs.Float.Ieee.{Float, eq, lt}
pub use Rattle.std.specs.Fmt.{HasWritten, IsPlainFormatter, decimal, signed_decimal}
pub use Rattle.std.specs.Int.{int_max, int_min, w128}
pub use Rattle.std.specs.Int.Digits.{AllBelowBase, digits_of, number_from_digits}
pub use Rattle.std.specs.List.{All, AllByRecursion, AllZip, IsDistinct, dedup, dedup_from, filter, flat_map, list_any, sum_by, take-map}
pub use Rattle.std.specs.List.Sorted.{IsNonDecreasingBy, IsPermutation, IsSortedBy}
pub use Rattle.std.specs.Option.{option_copied, option_eq, option_map_or}
pub use Rattle.std.specs.Ordering.{eq_by_cmp, is_eq, is_lt, match_ordering, nat_cmp, on, ordering_reverse, ordering_then, then_cmp}
pub use Rattle.std.specs.Prelude.{IfSome, IsErrAnd, IsTrue, MatchOption, MatchResult, OnOk, String, find, int_div, int_lt, is_err, option_and_then, ◌*ℤ◌, ◌+ℤ◌, ◌-ℤ◌, ◌<ℤ◌, ◌≤ℤ◌}
pub use Rattle.std.specs.Slice.Iter.{iter_rest}
pub use Rattle.std.specs.Str.{IsCharBoundary, IsUtf8, NonePass, bytes_eq, chars, encode_utf8_all}
pub use Rattle.std.specs.Str.Iter.{chars_rest}
pub use Rattle.std.specs.declared.alloc.AllocError.{AllocError}
pub use Rattle.std.specs.declared.cmp.Ordering.{Ordering}
pub use Rattle.std.specs.declared.cmp.Ordering.TheVariants.{Equal, Less}
