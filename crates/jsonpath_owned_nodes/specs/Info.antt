-- What is known of a node without its document: its kind, the number of a number, and how long it is.
use Rattle.std.specs.Prelude.{◌^◌, nat_lt, pos, length, true, false, if◌then◌else◌}
use Rattle.serde_json.specs.Data.{Num, unsigned, negative, float, Data, null, boolean, number, string, array, object}
use Rattle.serde_json.specs.Events.{items_len, members_len}
use Rattle.jsonpath_owned_nodes.specs.declared.node_info.NodeInfo.{NodeInfo}
use Rattle.jsonpath_owned_nodes.specs.declared.node_info.NodeInfo.TheVariants.{Null, False, True, Integer, Unsigned, Double, String, Array, Object}

-- a number is a signed integer of 64 bits if it can be, else an unsigned one, else a double
abbrev pub info_of_number : Num → NodeInfo
info_of_number (unsigned n) = if nat_lt n (2 ^ 63) then Integer (pos n) else Unsigned n
info_of_number (negative n) = Integer n
info_of_number (float x) = Double x

-- what is known of a node with that value: a string has bytes, an array items, an object members
abbrev pub info_of : Data → NodeInfo
info_of null = Null
info_of (boolean false) = False
info_of (boolean true) = True
info_of (number n) = info_of_number n
info_of (string bytes) = String (length bytes)
info_of (array items) = Array (items_len items)
info_of (object members) = Object (members_len members)
