-- Whether two steps, and two locations, are the same (RFC 9535, section 1.1), and the laws of these tests.
use Rattle.std.specs.Prelude.{◌≡◌, Bool, true, false, nat_eq, List, refl}
use Rattle.std.specs.Cmp.{IsEquivalence, nat_eq_equiv}
use Rattle.std.specs.Cmp.Lexicographic.{pointwise, pointwise_decides, bytes_decides, nat_list_eq_equiv, lists_equiv}
use Rattle.std.proofs.Common.{ap, sym, ◌∙◌, eqb-true}
use Rattle.serde_json_path_nodes.specs.Location.{Step, by_name, by_position}

-- names are the same byte by byte, indexes as numbers
abbrev pub same_step : Step → Step → Bool
same_step (by_name a) (by_name b) = pointwise nat_eq a b
same_step (by_position i) (by_position j) = nat_eq i j
same_step _ _ = false

-- locations are the same step by step
abbrev pub same_steps : List Step → List Step → Bool
same_steps = pointwise same_step

same_step-refl : (s : Step) → same_step s s ≡ true
same_step-refl (by_name a) = nat_list_eq_equiv.refl a
same_step-refl (by_position i) = nat_eq_equiv.refl i

same_step-symm : (s t : Step) → same_step s t ≡ same_step t s
same_step-symm (by_name a) (by_name b) = nat_list_eq_equiv.symm a b
same_step-symm (by_position i) (by_position j) = nat_eq_equiv.symm i j
same_step-symm _ _ = refl

-- the test is true only of one and the same step
pub same_step-true : (s t : Step) → same_step s t ≡ true → s ≡ t
same_step-true (by_name a) (by_name b) h = ap by_name ((bytes_decides a b).0 h)
same_step-true (by_position i) (by_position j) h = ap by_position (eqb-true i j h)
same_step-true _ _ h = cc

same_step-congr : (s t u : Step) → same_step s t ≡ true → same_step s u ≡ same_step t u
same_step-congr s t u h = ap (λ v. same_step v u) (same_step-true s t h)

pub same_step-equiv : IsEquivalence same_step
same_step-equiv = record { refl = same_step-refl; symm = same_step-symm; congr = same_step-congr }

-- the test of two locations is true exactly where they are equal
pub same_steps_decides : (a b : List Step) → (same_steps a b ≡ true → a ≡ b) × (a ≡ b → same_steps a b ≡ true)
same_steps_decides = pointwise_decides (λ s t. (same_step-true s t, λ e. ap (same_step s) (sym e) ∙ same_step-refl s))

pub same_steps-equiv : IsEquivalence same_steps
same_steps-equiv = lists_equiv same_step-equiv
