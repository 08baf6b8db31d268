-- The words of definitions that proofs cite, from one place.
pub use Rattle.fast_float.specs.Text.{scan}
pub use Rattle.json.proofs.Grammar.{items_end, items_more, members_end, members_more, read_key-shorter, value-begin_array, value-begin_object, value_is}
pub use Rattle.json.specs.Json.{Json, Parse, after_end_array, parse_map, read_key}
pub use Rattle.json.specs.Reads.{token_of}
pub use Rattle.json.specs.Token.{Token}
pub use Rattle.serde_json.proofs.Views.{get_member-put, get_member-put_other, members_view-insert_entry, view-Object, view-lookup}
pub use Rattle.serde_json.specs.Find.{as_array}
pub use Rattle.serde_json.specs.Read.{number_from, read}
pub use Rattle.serde_json.specs.declared.value.Value.{the_lemmas}
pub use Rattle.serde_json_path_core.proofs.Words.{Admits, AdmitsBy, AdmitsIn, AllZip, Answers, AnswersYes, AreArguments, Argument, Arguments, Basic, BelongsTo, Bool, Branch, Call, Compared, Data, Derives, Entry, Err, Exists, FunctionSet, Holds, HoldsAll, HoldsBasic, HoldsTest, IfOk, IsArgument, IsComparedAs, IsIn, IsPositionOf, IsResult, IsTakenAs, IsTruthOf, Items, Kind, List, Located, LogicalAnd, LogicalOr, MayDescend, Members, Node, None, NotIf, Null, Num, Ok, Operand, Option, Part, Query, Result, Segment, SegmentKind, Segments, Selector, Selectors, SelectsIndex, SelectsPosition, Some, Step, Term, Triple, Value, [], and, and_in, ands_in, ap, append-nil, argument, argument_in, arguments_in, arith, array, at, basic_in, boolean, branch_at, branch_in, branches, branches_named, by_name, by_position, bytes_eq, bytes_eq-Decides, call, called, cases_Bool, child, child_at, common_steps, current, descendant, dot_name, dot_wildcard, drop, drop_all, false, filter, flat_map-append, get_item, get_member, get_or, in_append, index, inl, inr, ints, is_at, is_segment, item, items_len, items_view, length, length-drop, literal, location_of, logical_argument, long_hand, map, map-append, max, members_view, min, name, nat_cmp, negsuc, no_and, no_arguments, no_items, no_members, no_or, no_segments, no_selectors, nodes_in, none-some, null, number, object, of_logical, of_nodes, of_value, one_is, operand, option_and_then_some, option_map, or, ors_in, params_of, paren, parts_bound, pos, put, queried, query, refl, relation, root, rules, same_Some, segment, segment_in, segment_kind_in, segment_kind_view, segments_at, segments_of, selector, selector_view, selectors_list, selectors_of, slice, slice_cmp, slice_get, step_view, string, string_bytes, subst, suc, sym, take, take_all, take_more, test, tree_of, true, true≢false, value, view, view-Array, wildcard, within_get, zero, ℕ, ℤ, ◌*◌, ◌++◌, ◌+◌, ◌-◌, ◌<◌, ◌||◌, ◌↔◌, ◌∙◌, ◌∷◌, ◌≡◌, ◌≤◌, ◌⊎◌}
pub use Rattle.serde_json_path_core.specs.Selects.{Selects}
pub use Rattle.serde_json_path_reach.specs.Alike.{SelectAlike, SelectPlacesAlike, SelectsPlaces, trees_of}
pub use Rattle.serde_json_path_reach.specs.Inside.Bits.{is_end, is_place, is_whole, meets}
pub use Rattle.serde_json_path_reach.specs.Inside.Shows.{Shows, Then, along, array_len, below}
pub use Rattle.serde_json_path_reach.specs.Inside.Leaves.{leaf_of}
pub use Rattle.serde_json_path_reach.specs.Inside.Queries.{queries_in_and, queries_in_argument, queries_in_arguments, queries_in_basic, queries_in_branch, queries_in_branches, queries_in_call, queries_in_operand, queries_in_or, queries_in_segment, queries_in_segments, queries_in_selector, queries_in_selectors, queries_of}
pub use Rattle.serde_json_path_reach.specs.Inside.Rows.{AddsRow, AreRight, AsksAll, Gains, Includes, IsRight, Leads, in_stead, kind_of_row, may_admit_by_row, onward, rest_of_row, segment_kind_at, segment_of_row, selectors_of_row}
pub use Rattle.serde_json_path_reach.specs.Inside.Steps.{any_may_admit, may_admit}
pub use Rattle.serde_json_path_reach.specs.Inside.Tokens.{AreItems, AreMembers, IsRead}
pub use Rattle.serde_json_path_reach.specs.declared.plan.Plan.{Plan}
pub use Rattle.serde_json_path_reach.specs.declared.row.Row.{Row}
pub use Rattle.serde_json_path_syntax.specs.Branch.{a_basic, a_segment, a_selector, an_and, an_operand, an_or}
pub use Rattle.serde_json_path_syntax.specs.Flat.{operand_in, selector_in, selectors_in}
pub use Rattle.serde_json_path_syntax.specs.Words.{number_of}
pub use Rattle.std.proofs.Common.{IsSome, OnOk, ◌%◌, ◌&&◌, ◌/◌, add-one, drop-cons, eq-eqb, if◌then◌else◌, replicate, ◌==◌}
pub use Rattle.std.proofs.lemmas.Nat.{and_comm}
pub use Rattle.std.proofs.lemmas.Nat.Bits.{and_pow, bit_at-suc, bit_at-zero, bit_at_and, bit_at_lowest, bit_at_or, same_from_bits}
pub use Rattle.std.specs.Int.{bit_at}
pub use Rattle.std.specs.Int.Bits.{bit_and, bit_or}
pub use Rattle.std.specs.Map.{lookup}
pub use Rattle.std.specs.Option.{is_some}
