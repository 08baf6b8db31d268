-- The colours that a text of the environment names.
use Rattle.jpq_program.proofs.Words.{◌≡◌, ◌∙◌, ◌&&◌, ℕ, Bool, Bor, true, false, List, [], ◌∷◌, None, Option, Some, ap, codes, field_at, fields_in, if◌then◌else◌, is_in_fields, is_some, list_all, not, option_map, parameters_in, slice_get, sym, usual}

-- a field is there where it is found
found : (field : Option (Bor (List ℕ))) (is : Option (List ℕ)) → option_map (λ (f : Bor (List ℕ)). f.now) field ≡ is → is_some is ≡ is_some field
found None is same = sym (ap is_some same)
found (Some field) is same = sym (ap is_some same)

-- a text of fields alone, and without a tenth, has the parameters that it names
pub named_by : (text : List ℕ) (fields tenth : Bool) (field : Option (Bor (List ℕ))) → fields ≡ list_all is_in_fields text → option_map (λ (f : Bor (List ℕ)). f.now) field ≡ slice_get (fields_in text) 9 → tenth ≡ is_some field
    → fields ≡ true → tenth ≡ false
    → parameters_in text ≡ field_at text 0 (codes "33") ∷ field_at text 1 (codes "33") ∷ field_at text 2 (codes "33") ∷ field_at text 3 (codes "36") ∷ field_at text 4 (codes "32") ∷ field_at text 7 (codes "32") ∷ field_at text 8 (codes "35") ∷ []
named_by text fields tenth field all at some has none =
    ap (λ (b : Bool). if b && not (is_some (slice_get (fields_in text) 9)) then named else usual) (sym all ∙ has)
    ∙ ap (λ (b : Bool). if true && not b then named else usual) (found field (slice_get (fields_in text) 9) at ∙ sym some ∙ none)
  where
    named : List (List ℕ)
    named = field_at text 0 (codes "33") ∷ field_at text 1 (codes "33") ∷ field_at text 2 (codes "33") ∷ field_at text 3 (codes "36") ∷ field_at text 4 (codes "32") ∷ field_at text 7 (codes "32") ∷ field_at text 8 (codes "35") ∷ []

-- seven parameters are alike, each as the other in its place
pub same_seven : (a b c d e f g h i j k l m n : List ℕ) → a ≡ h → b ≡ i → c ≡ j → d ≡ k → e ≡ l → f ≡ m → g ≡ n → (a ∷ b ∷ c ∷ d ∷ e ∷ f ∷ g ∷ []) ≡ (h ∷ i ∷ j ∷ k ∷ l ∷ m ∷ n ∷ [])
same_seven a b c d e f g h i j k l m n ah bi cj dk el fm gn = cc
