-- Texts without escapes in JSON, and the strings that they are.
use Rattle.jsonpath_lines.proofs.Words.{◌≡◌, ℕ, ◌≤◌, List, [], ◌∷◌, ◌++◌, codes, refl, ap, arith, subst, Data, string, Token, escape, escape_byte, escape_byte_plain, flat_map-append, IsLaid, Layout}
use Rattle.jsonpath_lines.proofs.Scalars.{in_each}

-- one more byte without an escape
pub escaped_further : (done : List ℕ) (x : ℕ) → escape done ≡ done → 32 ≤ x → (x ≡ 34 → ⊥) → (x ≡ 92 → ⊥) → escape (done ++ x ∷ []) ≡ done ++ x ∷ []
escaped_further done x same control quote backslash = grind (arith, flat_map-append escape_byte done (x ∷ []), escape_byte_plain x quote backslash control)

-- the JSON of a string without escapes is the string in quotes
plain_string : (layout : Layout) (own : List ℕ) → escape own ≡ own → IsLaid layout (string own) (codes "\"" ++ (own ++ codes "\""))
plain_string layout own same =
    subst (IsLaid layout (string own)) (ap (λ text. 34 ∷ (text ++ 34 ∷ [])) same) (in_each layout (string own) (Token.string own) refl refl tt refl refl refl)

pub json_of_string : (layout : Layout) (d : Data) (own : List ℕ) → d ≡ string own → escape own ≡ own → IsLaid layout d (codes "\"" ++ (own ++ codes "\""))
json_of_string layout d own is same = rw is (plain_string layout own same)
