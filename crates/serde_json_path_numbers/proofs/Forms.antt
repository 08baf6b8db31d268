-- Numbers by what holds them; integers keep their order.
use Rattle.serde_json_path_numbers.proofs.Words.{◌≡◌, true, T, arith, sym, ap, ◌∙◌, subst, to_z-of_z, to_z, of_z, Ordering, nat_tests, ℤ, nat_eq, int_eq, int_lt, FitsSigned, w128, float_is_finite, Float, lt, eq, integer, IsOrder, held_number, is_exact, Integer, Double, IntegersKeepTheirOrder, Form}
use Rattle.serde_json_path_numbers.proofs.Floats.{sure, equality, IsTold, told}
use lib.Signed.{lt_z_yes}

pub in_range : (z : ℤ) → is_exact (Integer z) ≡ true → FitsSigned w128 z
in_range z h = grind (arith, nat_tests)

pub integers_less : (a b : ℤ) → int_lt a b ≡ lt (integer a) (integer b)
unfolding lt
integers_less a b = grind (arith, nat_tests)

integers_equal : (a b : ℤ) → T (eq (integer a) (integer b)) → a ≡ b
unfolding eq
integers_equal a b h = grind (arith, nat_tests)

pub finite_integer : (z : ℤ) → float_is_finite (integer z) ≡ true
unfolding float_is_finite
finite_integer z = grind (arith, nat_tests)

pub integers_same : (a b : ℤ) → int_eq a b ≡ eq (integer a) (integer b)
integers_same a b = grind (arith, nat_tests, integers_equal a b, equality.reflexive (integer a) (finite_integer a))

pub order_kept : IntegersKeepTheirOrder
order_kept = grind (arith, nat_tests, integers_equal, equality, finite_integer, lt_z_yes, integers_less, sure)

module _ (f g : Form) (a b : ℤ) (at : f ≡ Integer a) (by : g ≡ Integer b) (x : is_exact f ≡ true) (y : is_exact g ≡ true) where
  left : to_z w128 (of_z w128 a) ≡ a
  left = to_z-of_z (in_range a (sym (ap is_exact at) ∙ x))

  right : to_z w128 (of_z w128 b) ≡ b
  right = to_z-of_z (in_range b (sym (ap is_exact by) ∙ y))

  back : of_z w128 a ≡ of_z w128 b → a ≡ b
  back e = sym left ∙ ap (to_z w128) e ∙ right

  pub less_integers : int_lt (to_z w128 (of_z w128 a)) (to_z w128 (of_z w128 b)) ≡ lt (held_number f) (held_number g)
  less_integers = rw (left, right, at, by) (integers_less a b)

  pub equal_integers : nat_eq (of_z w128 a) (of_z w128 b) ≡ eq (held_number f) (held_number g)
  equal_integers = rw (at, by) (grind (arith, nat_tests, back, integers_equal a b, equality.reflexive (integer b) (finite_integer b)))

-- an integer and a double
pub mixed : {f g : Form} {n : ℤ} {x : Float} (o : Ordering) → f ≡ Integer n → g ≡ Double x → is_exact f ≡ true
    → IsOrder (integer (to_z w128 (of_z w128 n))) x o → IsTold (held_number f) (held_number g) o
mixed {n = n} {x = x} o at by exact h = rw (at, by) (told (integer n) x o (subst (λ z. IsOrder (integer z) x o) (to_z-of_z (in_range n (sym (ap is_exact at) ∙ exact))) h))
