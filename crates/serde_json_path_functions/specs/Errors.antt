-- The texts of errors.
use Rattle.std.specs.Prelude.{ℕ, List, codes}
use Rattle.serde_json_path_functions.specs.declared.error.QueryError.{QueryError}
use Rattle.serde_json_path_functions.specs.declared.error.QueryError.TheVariants.{Memory, Pattern}

abbrev pub query_error_text : QueryError → List ℕ
query_error_text Memory = codes "no memory"
query_error_text Pattern = codes "pattern refused"
