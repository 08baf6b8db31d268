-- Values that are no arrays and no objects, by their tokens.
use Rattle.std.specs.Prelude.{Option, Some, None, option_map}
use Rattle.json.specs.Token.{Token}
use Rattle.serde_json.specs.Data.{Data, null, boolean, number, string}
use Rattle.serde_json.specs.Read.{number_of}

abbrev pub leaf_of : Token → Option Data
leaf_of (Token.string s) = Some (string s)
leaf_of (Token.number s) = option_map number (number_of s)
leaf_of (Token.boolean b) = Some (boolean b)
leaf_of Token.null = Some null
leaf_of _ = None
