-- Laws of locations and their texts (RFC 9535, section 2.7).
use Rattle.std.specs.Prelude.{◌≡◌, ◌↔◌, List}
use Rattle.serde_json_path_nodes.specs.Location.{Step, IsProper}
use Rattle.serde_json_path_nodes.specs.Text.{normal}

-- two locations are equal exactly where their normalised paths are
abbrev pub TextsTellLocations : Type 0
TextsTellLocations = (a b : List Step) → IsProper a → IsProper b → (a ≡ b) ↔ (normal a ≡ normal b)
