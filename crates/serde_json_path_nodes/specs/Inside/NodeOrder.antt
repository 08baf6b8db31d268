-- The order of located nodes in which duplicates are together, and lists of numbered nodes, for `dedup`.
use Rattle.std.specs.Prelude.{◌≡◌, ℕ, ◌<◌, List, length, slice_index_or}
use Rattle.std.specs.Ordering.{nat_cmp, on, then_cmp}
use Rattle.std.specs.declared.cmp.Ordering.{Ordering}
use Rattle.serde_json_path_nodes.specs.Inside.StepOrder.{location_cmp}
use Rattle.serde_json_path_nodes.specs.declared.located_node.LocatedNode.{LocatedNode}

-- by location, then by number
abbrev pub node_cmp : LocatedNode → LocatedNode → Ordering
node_cmp = then_cmp (on (λ node. node.location) location_cmp) (on (λ node. node.number) nat_cmp)

-- the number of each node is its index
abbrev pub AreNumbered : List LocatedNode → Type 0
AreNumbered nodes = (k : ℕ) (d : LocatedNode) → k < length nodes → (slice_index_or nodes k d).number ≡ k
