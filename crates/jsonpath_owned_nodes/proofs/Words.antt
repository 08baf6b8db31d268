-- The words of definitions and lemmas that proofs cite, from one place.
pub use Rattle.jsonpath_owned_nodes.specs.Inside.Cut.{AreEnds, cut, last_end}
pub use Rattle.jsonpath_owned_nodes.specs.Inside.Stored.{AreParts, BeginsWith, IsLocation, IsStored, nodes_in, step_in}
pub use Rattle.jsonpath_owned_nodes.specs.Words.{step_view, view}
pub use Rattle.jsonpath_owned_nodes.specs.declared.node_info.NodeInfo.{NodeInfo}
pub use Rattle.jsonpath_owned_nodes.specs.declared.stored_step.StoredStep.{StoredStep}
pub use Rattle.serde_json_path_nodes.proofs.Words.{common_steps, All, All-head, All-push, All-tail, All-weaker, Bor, Data, IsCharBoundary, IsCharBoundary-end, IsCharBoundary-from_take, IsUtf8-string_bytes, IsUtf8-take, List, None, Option, Some, Step, String, [], ap, append_assoc, arith, at, child_at, drop, drop-append-le, drop_all, drop_more, get_or, inl, inr, items_len-items_view, length, length-append, length-drop, length-take-le, length_push, map, map-append, members_len-members_view, option_and_then, option_copied, refl, rules, slice_get, slice_get_past, slice_get_read, slice_range, string_bytes, suc, sym, take, take-append-drop, take-append-le, take_all, view-Array, view-Object, zero, ℕ, ◌++◌, ◌+◌, ◌-◌, ◌<◌, ◌∙◌, ◌∷◌, ◌≡◌, ◌≤◌, ◌⊎◌}
pub use Rattle.std.specs.Slice.{IsGetResult}

-- how many a view has
pub ruleset of_views = (view-Array, view-Object, items_len-items_view, members_len-members_view)
