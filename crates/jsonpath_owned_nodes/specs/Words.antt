-- The words of contracts, from one place.
pub use Rattle.jsonpath_owned_nodes.specs.Info.{info_of, info_of_number}
pub use Rattle.jsonpath_owned_nodes.specs.Inside.Stored.{BeginsWith, IsLocation, IsStored, step_in}
pub use Rattle.jsonpath_owned_nodes.specs.Kept.{kept, known_of, location_of, value_in}
pub use Rattle.serde_json_path_nodes.specs.Words.{child_at, located, number_view, step_view, view}
