-- The words of definitions and lemmas that proofs cite, from one place.
unfoldable pub use Rattle.json.specs.Layout.{pretty_from}
unfoldable pub use Rattle.json.specs.Print.{ArePrintable, escape_byte, print_from}
pub use Rattle.json.proofs.Numbered.{ArePrintableOrBad-tokens, value-HasNumbers}
pub use Rattle.json.proofs.Printed.Decimals.{IsNumber-decimal, IsNumber-signed_decimal}
pub use Rattle.json.proofs.Printed.Strings.{escape_byte_plain}
pub use Rattle.json.proofs.Printed.Tokens.{print_from-append, tokens-print}
pub use Rattle.json.proofs.Printed.Trees.{ArePrintable-json_tokens, value-json_tokens}
pub use Rattle.json.specs.Layout.{pretty}
pub use Rattle.json.specs.Print.{ArePrintableOrBad, ends, escape, print, token_text}
pub use Rattle.json.specs.Reads.{token_of}
pub use Rattle.json.specs.Token.{Token, end_object}
pub use Rattle.json.specs.Tree.{HasNumbers, ItemsHaveNumbers, items_tokens, json_tokens, members_tokens}
pub use Rattle.jsonpath_lines.specs.Coloured.{IsColoured, byte, empty, is_sequence, parameters_of, sequence, unseen}
pub use Rattle.jsonpath_lines.specs.Inside.{Appends, ArePieces, ArePiecesIn, FilledLines, IsClosedIn, IsLaid, IsLaidOut, IsPiece, IsPieceIn, IsPrintedOf, IsUnseen, Pushes, TookDistinct, TookLines, asked, is_reached, leaves_out_in, limit_in, once, opening, path_string}
pub use Rattle.jsonpath_lines.specs.Output.{AreLines, AreLinesIn, IsCount, IsCountIn, IsJsonIn, IsJsonOf, IsLine, IsLineOfEach, IsPrettyOf, array_of, end_text, items_of, object_of, up_to}
pub use Rattle.jsonpath_lines.specs.Sent.{AppendsBeginning}
pub use Rattle.jsonpath_lines.specs.Words.{AreEnough, IsExceeded, most_held, rest, tokens, view}
pub use Rattle.jsonpath_lines.specs.declared.distinct.DistinctNodes.{DistinctNodes}
pub use Rattle.jsonpath_lines.specs.declared.forms.Form.{Form}
pub use Rattle.jsonpath_lines.specs.declared.forms.Form.TheVariants.{Count, Json, Location, LocationAndValue, Nothing, Pointer, Raw, Value}
pub use Rattle.jsonpath_lines.specs.declared.forms.Layout.{Layout}
pub use Rattle.jsonpath_lines.specs.declared.forms.Layout.TheVariants.{Compact, Pretty}
pub use Rattle.jsonpath_lines.specs.declared.forms.Output.{Output}
pub use Rattle.jsonpath_lines.specs.declared.line.LineWriter.{LineWriter}
pub use Rattle.jsonpath_lines.specs.declared.nodes.Lines.{Lines}
pub use Rattle.serde_json.proofs.Numbers.{number_of-decimal, number_of-negative}
pub use Rattle.serde_json.proofs.Texts.{print-outline, tokens_from_order, unless_float-number_of}
pub use Rattle.serde_json.specs.Read.{max_depth, of_items, of_json, read}
pub use Rattle.serde_json.specs.Written.{blank, blank_items, blank_members, comma_if, compact_text, has_float, items_outline, members_outline, outline}
pub use Rattle.serde_json_path.proofs.Words.{Bool, Err, List, None, Ok, OnOk, Option, Result, SFits, Some, [], ap, append-nil, append_assoc, ap₂, arith, codes, decimal, encode_utf8, false, fold, if◌then◌else◌, inl, inr, int_lt, is_ok, length, length-append, map, max, nat_lt, negsuc, of_z, option_map, pos, refl, rules, string_bytes, subst, suc, sym, take, to_z, to_z-of_z, true, w64, zero, ℕ, ℤ, ◌++◌, ◌+◌, ◌<◌, ◌==◌, ◌^◌, ◌||◌, ◌↔◌, ◌∙◌, ◌∷◌, ◌≡◌, ◌≤◌, ◌⊎◌}
pub use Rattle.serde_json_path_nodes.proofs.Words.{take-append-drop, take_rest, Data, Items, Located, Members, Step, array, as_i64, as_number, as_u64, boolean, cases_Bool, chars_rest, depth, first_places, first_places_after, fold-append, is_among, item, items_depth, list_any-append, located, location_of, member, members_depth, nat_tests, ne_eqb, negative, no_items, no_members, normal, null, number, object, on_ok_weaker, option_and_then, same_steps, same_steps_decides, signed_decimal, string, unsigned}
pub use Rattle.serde_json_path_nodes.specs.declared.located_node.LocatedNode.{LocatedNode}
pub use Rattle.serde_json_path_syntax.proofs.Words.{length-map, length-take, length-take-le, map_push, nil_from_length, take-append-le, take-map, take_all, take_more}
pub use Rattle.std.proofs.lemmas.Grind.{common_steps, flat_map-append}
pub use Rattle.std.proofs.KnownBytes.{Appends-kept, Appends-trans}
pub use Rattle.std.proofs.lemmas.List.Folds.{list_any_at}
pub use Rattle.std.proofs.lemmas.Slice.Eq.{bytes_eq-Decides}
pub use Rattle.std.specs.List.{Contains, list_any}
pub use Rattle.std.specs.Prelude.{IfSome, IsTrue, bytes_eq, drop, slice_index, ◌-◌}
