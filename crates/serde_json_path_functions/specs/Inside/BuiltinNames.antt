-- The names of the built-in functions.
use Rattle.std.specs.Prelude.{ℕ, List, codes}
use Rattle.serde_json_path_functions.specs.declared.builtin.BuiltinFunction.{BuiltinFunction}
use Rattle.serde_json_path_functions.specs.declared.builtin.BuiltinFunction.TheVariants.{Length, Count, Value, Match, Search}

abbrev pub name_of : BuiltinFunction → List ℕ
name_of Length = codes "length"
name_of Count = codes "count"
name_of Value = codes "value"
name_of Match = codes "match"
name_of Search = codes "search"
