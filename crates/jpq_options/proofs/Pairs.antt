-- Pairs of options in order.
use Rattle.jpq_options.proofs.Words.{ap, ◌≡◌, ◌<◌, ◌∙◌, ◌||◌, ℕ, Bool, true, List, [], ◌∷◌, refl, map, length, get_or, list_any, list_any_at}

any_map : {X Y : Type 0} (f : Y → Bool) (g : X → Y) (xs : List X) → list_any f (map g xs) ≡ list_any (λ x. f (g x)) xs
any_map f g [] = refl
any_map f g (x ∷ xs) = ap (λ b. f (g x) || b) (any_map f g xs)

-- one of them settles it
pub some_at : {X Y : Type 0} (f : Y → Bool) (g : X → Y) (xs : List X) (i : ℕ) (d : X) → i < length xs → f (g (get_or xs i d)) ≡ true → list_any f (map g xs) ≡ true
some_at f g xs i d lt here = any_map f g xs ∙ list_any_at (λ x. f (g x)) xs i d lt here
