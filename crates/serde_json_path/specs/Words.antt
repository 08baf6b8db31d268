-- The words of contracts, from one place.
pub use Rattle.serde_json_path.specs.FromJson.{IsReadFrom}
pub use Rattle.serde_json_path.specs.Inside.SamePaths.{same_paths-equiv}
pub use Rattle.serde_json_path.specs.Paths.{IsRead, path_rule, path_signatures, path_tree, path_view, with_rule_of}
pub use Rattle.serde_json_path_core.specs.Inside.Words.{OnlyMemoryOrPattern, Selects, SelectsValues}
pub use Rattle.serde_json_path_core.specs.Walks.{document_of, query_of, rest, set_of}
pub use Rattle.serde_json_path_functions.specs.Words.{Fits, before_builtin, builtin_functions, numbers_view, whole_numbers}
pub use Rattle.serde_json_path_nodes.specs.Words.{IfOk, located_nodes, node_values, partial_equiv_from_equiv, string, view}
pub use Rattle.serde_json_path_parser.specs.Errors.{is_seen_at_next, kind_of, message_of, position_of}
pub use Rattle.serde_json_path_parser.specs.Source.{greatest_usize}
pub use Rattle.serde_json_path_syntax.specs.SameTree.{same_query}
pub use Rattle.serde_json_path_syntax.specs.Words.{Memory, bound, no_segments, pairs_of, query, query_text, root, rule_of, signatures_of, tree_of, value_in}
