-- The words of definitions that proofs cite, from one place.
pub use Rattle.serde_json_path.proofs.Words.{ArePositionsWritten, IsAccepted, tree_to}
pub use Rattle.serde_json_path.specs.Paths.{path_tree, with_rule_of}
pub use Rattle.serde_json_path_core.proofs.Words.{BelongsTo, IsResult, Triple}
pub use Rattle.serde_json_path_nodes.proofs.Words.{AllZip, Data, IsUtf8, List, Located, N, NegInt, None, Ok, Option, PosInt, Some, [], ap, arith, array, at, by_position, chars, common_steps, exactly_one_of, inl, inr, is_valid, items_view, located, located_nodes, located_nodes_left, map, normal, num_of, pos, refl, rules, same_steps_decides, step_view, string_bytes, subst, sym, true, true≢false, view, view-Array, ℕ, ◌++◌, ◌∙◌, ◌∷◌, ◌≡◌, ◌≤◌}
pub use Rattle.serde_json_path_nodes.specs.declared.path_element.PathElement.TheVariants.{Index}
pub use Rattle.serde_json_path_parser.specs.Laws.{PrintedTextReadsBack}
pub use Rattle.serde_json_path_syntax.proofs.Words.{AreTypedSegments, FunctionSet, IsFinite, IsIn, MayFinish, Numbers, NumbersAreFinite, Query, Signature, a_segment, a_selector, before_builtin, calls_in, calls_in_segments, current, deepest, document_number, names_of, query, query_text, root, segments_depth, signature_in, whole_numbers, with_rule}
