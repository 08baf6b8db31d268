-- The derived `==` of elements answers as `same_step` does of their steps.
use Rattle.serde_json_path_nodes.proofs.Words.{nat_tests, pointwise, as_long, same_step, same_steps, step_view, PathElement, arith, ◌≡◌, ℕ, zero, suc, ◌-◌, true, false, List, [], ◌∷◌, length, map, slice_get, Option, Bor, refl, sym, ◌∙◌, option_eq, option_copied, false_from_ne_true}
use Rattle.serde_json_path_nodes.specs.contracts.path_element.PathElementPartialEq.TheImpl.{eq-value}

eq-value-same_step : (a b : PathElement) → eq-value.it a b ≡ same_step (step_view a) (step_view b)
eq-value-same_step a b = grind (arith, nat_tests)

pub elements-same_steps : (a b : List PathElement) → pointwise eq-value.it a b ≡ same_steps (map step_view a) (map step_view b)
elements-same_steps [] [] = refl
elements-same_steps (a ∷ as_) (b ∷ bs) = rw (eq-value-same_step a b, elements-same_steps as_ bs)
elements-same_steps _ _ = refl

-- lists that are alike are alike at each index
alike-slice_get : (a b : List PathElement) (n : ℕ) → pointwise eq-value.it a b ≡ true → option_eq eq-value.it (slice_get a n) (slice_get b n) ≡ true
alike-slice_get [] [] n alike = refl
alike-slice_get (x ∷ xs) (y ∷ ys) zero alike = grind (arith, nat_tests)
alike-slice_get (x ∷ xs) (y ∷ ys) (suc n) alike = grind (arith, nat_tests, alike-slice_get xs ys n)
alike-slice_get _ _ n alike = absurd cc

-- the same of references to elements
option_eq-now : (r s : Option (Bor PathElement)) → option_eq (λ x y. eq-value.it x.now y.now) r s ≡ option_eq eq-value.it (option_copied r) (option_copied s)
option_eq-now r s = grind (arith, nat_tests)

-- locations of different lengths differ
pub lengths_differ : (a b : List PathElement) → (length a ≡ length b → ⊥) → false ≡ same_steps (map step_view a) (map step_view b)
lengths_differ a b differ = sym (false_from_ne_true _ (λ alike. differ (as_long eq-value.it a b (elements-same_steps a b ∙ alike))))

-- locations with different last steps differ
pub lasts_differ : (a b : List PathElement) (r s : Option (Bor PathElement)) → length a ≡ length b
    → option_copied r ≡ slice_get a (length a - 1) → option_copied s ≡ slice_get b (length b - 1)
    → option_eq (λ x y. eq-value.it x.now y.now) r s ≡ false
    → false ≡ same_steps (map step_view a) (map step_view b)
lasts_differ a b r s long last_a last_b differ = grind (arith, nat_tests, slice_get, option_eq-now, false_from_ne_true, alike-slice_get, elements-same_steps)
