-- What contracts see of steps, located nodes and their lists.
use Rattle.std.specs.Prelude.{List, map}
use Rattle.std.specs.Borrow.{Bor}
use Rattle.std.specs.Slice.Iter.{iter_rest}
use Rattle.serde_json.specs.Data.{Data}
use Rattle.serde_json.specs.View.{view}
use Rattle.serde_json.specs.declared.value.Value.{Value}
use Rattle.serde_json_path_nodes.specs.Location.{Step, by_name, by_position, Located}
use Rattle.serde_json_path_nodes.specs.declared.path_element.PathElement.{PathElement}
use Rattle.serde_json_path_nodes.specs.declared.path_element.PathElement.TheVariants.{Name, Index}
use Rattle.serde_json_path_nodes.specs.declared.located_node.LocatedNode.{LocatedNode}
use Rattle.serde_json_path_nodes.specs.declared.located_node_list.LocatedNodeList.{LocatedNodeList}
use Rattle.serde_json_path_nodes.specs.declared.node_list.NodeList.{NodeList}
use Rattle.serde_json_path_nodes.specs.declared.iterators.LocatedNodes.{LocatedNodes}
use Rattle.serde_json_path_nodes.specs.declared.iterators.Nodes.{Nodes}
use Rattle.serde_json_path_nodes.specs.declared.iterators.Store.{Store}
use Rattle.serde_json_path_nodes.specs.declared.iterators.Store.TheVariants as store

-- an element of a path, as a step
abbrev pub step_view : PathElement → Step
step_view (Name name) = by_name name.now
step_view (Index position) = by_position position

-- the value of a node
abbrev pub node_value : Bor Value → Data
node_value node = view node.now

-- the values of a list's nodes, in order
abbrev pub node_values : NodeList → List Data
node_values list = map node_value list.nodes.items

-- the parts of a node with its location
abbrev pub location_of : Located → List Step
location_of node = node.location

abbrev pub value_of : Located → Data
value_of node = node.value

-- a located node, as its location and its value
abbrev pub located : LocatedNode → Located
located n = record { location = n.location; value = view n.node.now }

-- the located nodes of a list, in order
abbrev pub located_nodes : LocatedNodeList → List Located
located_nodes list = map located list.nodes.items

-- the remaining located nodes of an iterator, in order
abbrev pub located_nodes_left : LocatedNodes → List Located
located_nodes_left it = map located (iter_rest it.left)

-- the values of the nodes in a store, in order
abbrev pub values_in : Store → List Data
values_in (store.Plain nodes) = map node_value (iter_rest nodes)
values_in (store.Located nodes) = map value_of (located_nodes_left nodes)

-- the remaining values of an iterator over nodes, in order
abbrev pub node_values_left : Nodes → List Data
node_values_left it = values_in it.store
