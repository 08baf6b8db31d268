-- The parts of a value that `length` counts.
use Rattle.serde_json.proofs.Views.{view-Array, view-Object, items_len-items_view, members_len-members_view}
use Rattle.serde_json.specs.declared.value.Value.{the_lemmas}

pub ruleset of_values = (view-Array, view-Object, items_len-items_view, members_len-members_view, the_lemmas)
