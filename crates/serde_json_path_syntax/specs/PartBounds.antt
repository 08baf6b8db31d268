-- Bounds of the numbers of parts.
use Rattle.std.specs.Prelude.{ℕ, ◌+◌, max, List, [], ◌∷◌}
use Rattle.serde_json_path_syntax.specs.declared.node.Part.{Part}
use Rattle.serde_json_path_syntax.specs.declared.selector_ref.SelectorRef.{SelectorRef}
use Rattle.serde_json_path_syntax.specs.declared.selector_ref.SelectorRef.TheVariants as selector_ref

-- the numbers of the parts are below this
abbrev pub parts_bound : List Part → ℕ
parts_bound [] = 0
parts_bound (part ∷ parts) = max (part.number + 1) (parts_bound parts)

-- and that of the part that a selector names
abbrev pub selector_bound : SelectorRef → ℕ
selector_bound (selector_ref.Filter part) = part.number + 1
selector_bound (selector_ref.Name k) = 0
selector_bound selector_ref.Wildcard = 0
selector_bound (selector_ref.Index i) = 0
selector_bound (selector_ref.Slice s) = 0
