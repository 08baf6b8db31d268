-- The words of contracts, from one place.
pub use Rattle.serde_json.specs.Data.{Data, number, string}
pub use Rattle.serde_json.specs.View.{number_view, view}
pub use Rattle.serde_json_path_nodes.specs.Inside.NodeOrder.{AreNumbered, node_cmp}
pub use Rattle.serde_json_path_nodes.specs.Inside.StepOrder.{location_cmp, step_cmp}
pub use Rattle.serde_json_path_nodes.specs.Lists.{at_most_one_of, exactly_one_of, first_places}
pub use Rattle.serde_json_path_nodes.specs.Location.{Located, Step, at, by_name, by_position, child_at}
pub use Rattle.serde_json_path_nodes.specs.Same.{same_steps, same_steps-equiv}
pub use Rattle.serde_json_path_nodes.specs.Text.{escape_of, in_pointer, in_quotes, is_escaped, normal, pointer, quoted}
pub use Rattle.serde_json_path_nodes.specs.Views.{located, located_nodes, located_nodes_left, location_of, node_value, node_values, node_values_left, step_view, value_of}
pub use Rattle.std.specs.Cmp.{partial_equiv_from_equiv}
pub use Rattle.std.specs.Fmt.{HasWritten, IsPlainFormatter, WritesOnOk, decimal}
pub use Rattle.std.specs.Iterator.{Drains, IsFinite, YieldsFirstBy, item_count}
pub use Rattle.std.specs.List.{flat_map, sum_by}
pub use Rattle.std.specs.Option.{option_copied}
pub use Rattle.std.specs.Prelude.{IfOk, List, Some, map, string_bytes, true, ℕ}
pub use Rattle.std.specs.Str.{IsCharBoundary, IsUtf8, NonePass, chars}
