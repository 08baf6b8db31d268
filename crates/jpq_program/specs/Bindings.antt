-- The texts in paths for which `--let` gives values.
use Rattle.std.specs.List.{after_first, before_first}
use Rattle.std.specs.Prelude.{◌==◌, ◌++◌, ℕ, List, codes, map, reverse}

-- a word such as `title=Moby Dick` gives the text `$title` the value `Moby Dick`: its name ends before the first `=` (61)
abbrev pub binding_in : List ℕ → List ℕ × List ℕ
binding_in word = (codes "$" ++ before_first (λ b. b == 61) word, after_first (λ b. b == 61) word)

-- the texts of such words with their values, the last one first: of two of one name the last counts
abbrev pub bindings_in : List (List ℕ) → List (List ℕ × List ℕ)
bindings_in words = reverse (map binding_in words)
