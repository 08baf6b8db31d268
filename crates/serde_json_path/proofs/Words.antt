-- The words of definitions that proofs cite, from one place.
pub use Rattle.serde_json_path.specs.Laws.{ArePositionsWritten, segments_to, selector_to, tree_to}
pub use Rattle.serde_json_path.specs.Words.{builtin_functions}
pub use Rattle.serde_json_path_core.proofs.Meaning.Derived.{computed_result}
pub use Rattle.serde_json_path_core.proofs.Words.{IsResult, chosen, itself, placed, results_from}
pub use Rattle.serde_json_path_functions.proofs.Sets.{before_itself}
pub use Rattle.serde_json_path_nodes.proofs.Words.{Data, IsProper, IsUtf8, IsUtf8-string_bytes, Located, Members, Step, String, Value, Value-F, array, at, by_name, by_position, chars, chars-encodes, child_at, fold_out-Value, get_item, get_member, items_view, map-Value, match_ordering, members_view, none-some, normal, normal_step, option_and_then_some, out-Value, same_Some, slice_cmp, string_bytes, view, view_step}
pub use Rattle.serde_json_path_parser.proofs.Grammar.Paths.{one_tree_at_most}
pub use Rattle.serde_json_path_parser.proofs.Printing.Literals.{position_spelt}
pub use Rattle.serde_json_path_parser.proofs.Printing.QuotedTexts.{Spelt, quoted_spelt, spell_both, spell_sign, spelt_nothing}
pub use Rattle.serde_json_path_parser.specs.Accepted.{IsAccepted}
pub use Rattle.serde_json_path_parser.specs.Grammar.{ReadSegments, ReadsSelector}
pub use Rattle.serde_json_path_parser.specs.Source.{Observed}
pub use Rattle.serde_json_path_syntax.proofs.Words.{AreTypedSegments, Equal, Fits, FunctionSet, Greater, Less, List, None, Numbers, Option, Ordering, Segments, Signature, Some, [], ap, append-nil, append_assoc, arith, calls_in_segments, child, codes, flat_map, long_hand, map, nat_cmp, no_selectors, option_map, option_to_list, query, refl, root, segment, segments_depth, selector, subst, suc, sym, zero, ℕ, ◌++◌, ◌∙◌, ◌∷◌, ◌≡◌}
pub use Rattle.std.proofs.Common.{Bool, Err, Ok, OnOk, Result, SFits, ap₂, decimal, encode_utf8, false, fold, if◌then◌else◌, inl, inr, int_lt, is_ok, length, length-append, max, nat_lt, negsuc, of_z, pos, rules, take, to_z, to_z-of_z, true, w64, ℤ, ◌+◌, ◌<◌, ◌==◌, ◌^◌, ◌||◌, ◌↔◌, ◌≤◌, ◌⊎◌}
pub use Rattle.std.proofs.lemmas.Map.Lookups.{exact_bytes}
pub use Rattle.std.specs.declared.alloc.Global.{Global}
