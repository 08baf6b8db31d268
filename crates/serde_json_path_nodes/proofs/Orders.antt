-- The order of steps is total, and so is that of locations, which goes step by step.
use Rattle.serde_json_path_nodes.proofs.Words.{◌≡◌, ◌⊎◌, List, [], ◌∷◌, length, map, refl, arith, nat_tests, nat_cmp_total, nat_list_cmp_total, lists_total, IsTotalOrder, unsigned_ties, slice_cmp, lists_ties, eq_by_cmp, ordering_reverse, nat_cmp, Ordering, Less, Equal, Step, by_name, by_position, same_step, same_steps, step_cmp, location_cmp}

step_cmp-antisymm : (s t : Step) → step_cmp s t ≡ ordering_reverse (step_cmp t s)
step_cmp-antisymm (by_name a) (by_name b) = nat_list_cmp_total.antisymm a b
step_cmp-antisymm (by_position i) (by_position j) = nat_cmp_total.antisymm i j
step_cmp-antisymm _ _ = refl

step_cmp-trans : (s t u : Step) → step_cmp s t ≡ Less → step_cmp t u ≡ Less → step_cmp s u ≡ Less
step_cmp-trans (by_name a) (by_name b) (by_name c) first second = nat_list_cmp_total.trans a b c first second
step_cmp-trans (by_position i) (by_position j) (by_position k) first second = nat_cmp_total.trans i j k first second
step_cmp-trans (by_name a) (by_position j) (by_position k) first second = refl
step_cmp-trans _ _ _ first second = cc

step_cmp-congr : (s t u : Step) → step_cmp s t ≡ Equal → step_cmp s u ≡ step_cmp t u
step_cmp-congr (by_name a) (by_name b) (by_name c) tie = nat_list_cmp_total.congr a b c tie
step_cmp-congr (by_position i) (by_position j) (by_position k) tie = nat_cmp_total.congr i j k tie
step_cmp-congr _ _ _ tie = cc

pub location_cmp-total : IsTotalOrder location_cmp
location_cmp-total = lists_total (record { antisymm = step_cmp-antisymm; trans = step_cmp-trans; congr = step_cmp-congr })

-- equal steps tie
step_cmp-ties : (s t : Step) → same_step s t ≡ eq_by_cmp step_cmp s t
step_cmp-ties (by_name a) (by_name b) = lists_ties nat_cmp unsigned_ties a b
step_cmp-ties (by_position i) (by_position j) = unsigned_ties i j
step_cmp-ties _ _ = refl

-- and so do locations
pub location_cmp-ties : (a b : List Step) → same_steps a b ≡ eq_by_cmp location_cmp a b
location_cmp-ties = lists_ties step_cmp step_cmp-ties

-- ---- lists, compared element by element

-- of two lists with their first elements, seen by `f`
module _ {A B : Type 0} (R : A → A → Ordering) (f : B → A) {a b : B} {xs ys rest_x rest_y : List B}
    (first_x : xs ≡ a ∷ rest_x) (first_y : ys ≡ b ∷ rest_y) where
  -- after elements that tie, the others decide
  pub slice_cmp-tie : Equal ≡ R (f a) (f b) → slice_cmp R (map f rest_x) (map f rest_y) ≡ slice_cmp R (map f xs) (map f ys)
  slice_cmp-tie tie = rw (first_x, first_y, ← tie) refl

  -- and so do the lengths
  pub lengths-tie : nat_cmp (length rest_x) (length rest_y) ≡ nat_cmp (length xs) (length ys)
  lengths-tie = rw (first_x, first_y) (grind (arith, nat_tests))

  -- elements that differ decide
  pub slice_cmp-decided : (R (f a) (f b) ≡ Equal → ⊥) → R (f a) (f b) ≡ slice_cmp R (map f xs) (map f ys)
  slice_cmp-decided differ = rw (first_x, first_y) (grind (arith, nat_tests))

-- where one list has ended, the lengths decide
pub slice_cmp-ended : {A B : Type 0} (R : A → A → Ordering) (f : B → A) (xs ys : List B) → (length xs ≡ 0) ⊎ (length ys ≡ 0)
    → nat_cmp (length xs) (length ys) ≡ slice_cmp R (map f xs) (map f ys)
slice_cmp-ended R f [] [] ended = refl
slice_cmp-ended R f (x ∷ xs) (y ∷ ys) ended = absurd (grind (arith, ended))
slice_cmp-ended R f _ _ ended = grind (arith, nat_tests)

-- two lists, step by step
pub ruleset of_lists = (slice_cmp-tie, lengths-tie, slice_cmp-decided, slice_cmp-ended)
