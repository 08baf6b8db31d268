-- The words of contracts, from one place.
pub use Rattle.serde_json.specs.View.{view}
pub use Rattle.serde_json_path_functions.specs.Functions.{Fits, FunctionSet, Gives, Kind, Numbers, Signature, Takes, all_numbers, both, counted, kind_of_term, length_of, logical, of_logical, of_nodes, of_value, plain_meaning, plain_signature, value, value_of_one, whole_numbers, with_rule}
pub use Rattle.serde_json_path_functions.specs.Inside.BothTypes.{both_keeps_patterns, both_keeps_types}
pub use Rattle.serde_json_path_functions.specs.Inside.BuiltinNames.{name_of}
pub use Rattle.serde_json_path_functions.specs.Kept.{IsOf}
pub use Rattle.serde_json_path_functions.specs.Patterns.{IsReadable, MayRefuse, before_builtin, builtin_functions, pattern_meaning}
pub use Rattle.serde_json_path_functions.specs.Terms.{kind_view, matching_view, node_view, nodes_view, numbers_view, signature_view, term_view, truth_view, value_view}
pub use Rattle.std.specs.Str.{chars}
