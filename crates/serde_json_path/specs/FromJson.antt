-- What reading a path from a JSON value answers.
use Rattle.std.specs.Prelude.{◌≡◌, ◌++◌, ℕ, List, Result, Ok, Err, codes}
use Rattle.std.specs.Fmt.{decimal}
use Rattle.serde_json.specs.Data.{Data, string}
use Rattle.serde_json_path_functions.specs.Functions.{whole_numbers}
use Rattle.serde_json_path_functions.specs.Patterns.{builtin_functions}
use Rattle.serde_json_path_parser.specs.Errors.{message_of, position_of}
use Rattle.serde_json_path.specs.Paths.{IsRead}
use Rattle.serde_json_path.specs.declared.path.JsonPath.{JsonPath}
use Rattle.serde_json_path.specs.declared.json.FromJsonError.{FromJsonError}
use Rattle.serde_json_path.specs.declared.json.FromJsonError.TheVariants.{NotAString, Path}

-- A string is read as its text is with the built-in functions, and every other value is not a string.
abbrev pub IsReadFrom : Data → Result JsonPath FromJsonError → Type 0
IsReadFrom (string text) (Ok path) = IsRead whole_numbers builtin_functions text (Ok path)
IsReadFrom (string text) (Err (Path e)) = IsRead whole_numbers builtin_functions text (Err e)
IsReadFrom (string text) (Err NotAString) = ⊥
IsReadFrom value answer = answer ≡ Err NotAString

-- what the error prints: that of the parse, where the string is refused
abbrev pub from_json_error_text : FromJsonError → List ℕ
from_json_error_text NotAString = codes "not a string"
from_json_error_text (Path e) = codes "at position " ++ (decimal (position_of e) ++ (codes ", " ++ message_of e))
