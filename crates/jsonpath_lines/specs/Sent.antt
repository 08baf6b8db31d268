-- Texts that went out, or beginnings of them.
use Rattle.std.specs.Prelude.{◌≡◌, ℕ, List, ◌++◌, Option}
use Rattle.std.specs.Io.KnownBytes.{Appends}

-- a beginning of the text was appended, of whatever length, and nothing else
abbrev pub AppendsBeginning : Option (List ℕ) → Option (List ℕ) → List ℕ → Type 0
AppendsBeginning old new text = (begun left : List ℕ) × (text ≡ begun ++ left) × Appends old new begun
