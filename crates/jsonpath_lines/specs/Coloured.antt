-- Lines in colours.
use Rattle.std.specs.Prelude.{ℕ, Bool, IsTrue, List, [], ◌∷◌, ◌++◌, bytes_eq, codes}
use Rattle.std.specs.List.{list_any}
use Rattle.jsonpath_lines.specs.declared.colours.Palette.{Palette}

-- the parameters of a palette
abbrev pub parameters_of : Palette → List (List ℕ)
parameters_of palette = palette.null_word.now ∷ palette.false_word.now ∷ palette.true_word.now ∷ palette.number.now
    ∷ palette.string.now ∷ palette.name.now ∷ palette.location.now ∷ []

-- the usual ones
abbrev pub usual : List (List ℕ)
usual = codes "33" ∷ codes "33" ∷ codes "33" ∷ codes "36" ∷ codes "32" ∷ codes "32" ∷ codes "35" ∷ []

-- the sequence with these parameters; that which ends a colour has 0
abbrev pub sequence : List ℕ → List ℕ
sequence parameters = 27 ∷ (codes "[" ++ (parameters ++ codes "m"))

-- it ends a colour, or has one of these parameters
abbrev pub is_sequence : List (List ℕ) → List ℕ → Bool
is_sequence parameters bytes = list_any (λ own. bytes_eq bytes (sequence own)) (codes "0" ∷ parameters)

-- the text is the line, with such sequences before, between and after its bytes
pub data IsColoured (parameters : List (List ℕ)) : List ℕ → List ℕ → Type 0 where
  empty : IsColoured parameters [] []
  byte : (b : ℕ) (line text : List ℕ) → IsColoured parameters line text → IsColoured parameters (b ∷ line) (b ∷ text)
  unseen : (bytes line text : List ℕ) → IsTrue (is_sequence parameters bytes) → IsColoured parameters line text
      → IsColoured parameters line (bytes ++ text)
