-- What a list keeps of the nodes that it was given.
use Rattle.std.specs.Prelude.{List, Option}
use Rattle.serde_json.specs.Data.{Data}
use Rattle.serde_json_path_nodes.specs.Location.{Step, Located, at}
use Rattle.jsonpath_owned_nodes.specs.Info.{info_of}
use Rattle.jsonpath_owned_nodes.specs.declared.node_info.NodeInfo.{NodeInfo}

-- a node without its value
pub record KeptNode : Type 0 where
  pub location : List Step
  pub info : NodeInfo

-- what is kept of a node: its location, and what `info_of` says of its value
abbrev pub kept : Located → KeptNode
kept node = record { location = node.location; info = info_of node.value }

-- the parts of a node that is kept
abbrev pub location_of : KeptNode → List Step
location_of node = node.location

abbrev pub known_of : KeptNode → NodeInfo
known_of node = node.info

-- the value in a document at the location of a node
abbrev pub value_in : Data → KeptNode → Option Data
value_in document node = at document node.location
