-- What is in a list, and lists in an order.
use Rattle.std.specs.Prelude.{◌≡◌, List, [], ◌∷◌, ◌⊎◌}

abbrev pub IsIn : {A : Type 0} → A → List A → Type 0
IsIn x [] = ⊥
IsIn x (y ∷ ys) = (x ≡ y) ⊎ IsIn x ys

-- each stands before all that follow it
abbrev pub IsInOrder : {A : Type 0} → (A → A → Type 0) → List A → Type 0
IsInOrder R [] = Unit {0}
IsInOrder {A} R (x ∷ xs) = ((y : A) → IsIn y xs → R x y) × IsInOrder R xs
