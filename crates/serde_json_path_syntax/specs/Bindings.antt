-- The bindings of the program as the definitions see them.
use Rattle.std.specs.Prelude.{ℕ, List, map}
use Rattle.serde_json_path_syntax.specs.declared.binding.Binding.{Binding}

-- each text with its value
abbrev pub pairs_of : List Binding → List (List ℕ × List ℕ)
pairs_of bindings = map (λ (binding : Binding). (binding.text.now, binding.value.now)) bindings
