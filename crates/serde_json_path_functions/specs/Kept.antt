-- What contracts see of the patterns that are kept.
use Rattle.std.specs.Prelude.{◌≡◌, ◌-◌, ◌<◌, ◌++◌, ◌⊎◌, ℕ, List, [], ◌∷◌, drop, length, get_or, remove, string_bytes}
use Rattle.serde_json_path_functions.specs.Functions.{Matching}
use Rattle.serde_json_path_functions.specs.Patterns.{built_text}
use Rattle.serde_json_path_functions.specs.Terms.{matching_view}
use Rattle.serde_json_path_functions.specs.declared.patterns.ReadPattern.{ReadPattern}

-- the text that is built of the pattern
abbrev pub built_of : ReadPattern → List ℕ
built_of read = built_text (matching_view read.matching) (string_bytes read.pattern)

-- it was read of this pattern
abbrev pub IsOf : Matching → List ℕ → ReadPattern → Type 0
IsOf matching pattern read = (matching_view read.matching ≡ matching) × (string_bytes read.pattern ≡ pattern)

-- the pattern is one of those, and was taken out; or it was read anew, and all of those stay
abbrev pub IsTakenOf : ReadPattern → List ReadPattern → List ReadPattern → Type 0
IsTakenOf read old new =
    ((i : ℕ) × (i < length old) × (read ≡ get_or old i read) × (new ≡ remove old i)) ⊎ (new ≡ old)

-- The pattern is kept after those, as the last that was asked, of eight at most: of eight the first goes, which was asked before all
-- others. Where memory is refused for it, it is not kept.
abbrev pub IsKeptLast : ReadPattern → List ReadPattern → List ReadPattern → Type 0
IsKeptLast read old new = let others = drop (length old - 7) old in
    (new ≡ others ++ read ∷ []) ⊎ (new ≡ others)
