-- The sides of a comparison as the definitions see them.
use Rattle.serde_json_path_core.specs.Imports.{view, number_amount}
use Rattle.serde_json_path_core.specs.Compared.{Compared, nothing, value, billionths}
use Rattle.serde_json_path_core.specs.declared.filter.side.Side.{Side}
use Rattle.serde_json_path_core.specs.declared.filter.side.Side.TheVariants.{Nothing, Value, Number}

abbrev pub side_view : Side → Compared
side_view Nothing = nothing
side_view (Value v) = value (view v.now)
side_view (Number l) = billionths (number_amount l.now)
