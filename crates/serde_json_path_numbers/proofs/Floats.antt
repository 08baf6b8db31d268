-- Comparisons of floats as facts, and the laws.
use Rattle.serde_json_path_numbers.proofs.Words.{nat_tests, ◌≡◌, arith, Ordering, is_eq, is_lt, is_gt, Bool, true, false, T, sym, ◌∙◌, NotNan, float_is_finite, Float, is_nan, lt, eq, neg, ℤ, pos, int_lt, unsigned_abs, IsOrder, integer, AreEqualNumbers, IsLessNumber, IsFinite, IsExactlyOne, EqualityIsEquivalence, LessIsStrictOrder, T_from_true, le_of_not-lt, le_of_eq, lt_of_le_of_lt, lt_of_lt_of_le, eq_trans, lt-or-eq, eq_flip, eq-not_lt, lt_trans, lt_irrefl, ordering_reverse}

pub sure : (b : Bool) → T b → b ≡ true
sure b t = grind (arith, nat_tests)

pub never : (b : Bool) → (T b → ⊥) → b ≡ false
never b f = grind (arith, nat_tests)

pub number : (x : Float) → float_is_finite x ≡ true → NotNan x
unfolding float_is_finite is_nan
number x h = grind (arith, nat_tests)

-- two numbers of which neither is less are equal
pub level : (x y : Float) → NotNan x → NotNan y → lt x y ≡ false → lt y x ≡ false → eq x y ≡ true
level x y p q h k = grind (arith, nat_tests, lt-or-eq, le_of_not-lt, sure)

pub equal_swapped : (x y : Float) → eq x y ≡ eq y x
equal_swapped x y = grind (arith, nat_tests, sure, eq_flip x y, eq_flip y x, T_from_true)

-- what is less is not greater
not_greater : (x y : Float) → lt x y ≡ true → lt y x ≡ false
not_greater x y l = never (lt y x) (λ g. lt_irrefl x (lt_trans x y x (T_from_true _ l) g))

-- and what is equal is not less
not_less : (x y : Float) → eq x y ≡ true → lt x y ≡ false
not_less x y e = never (lt x y) (eq-not_lt x y (T_from_true _ e))

-- what an order says of each test
pub record IsTold (x y : Float) (o : Ordering) : Type 0 where
  pub equal : is_eq o ≡ eq x y
  pub less : is_lt o ≡ lt x y
  pub greater : is_gt o ≡ lt y x

pub told : (x y : Float) (o : Ordering) → IsOrder x y o → IsTold x y o
told x y o h = grind (arith, nat_tests, equal_swapped, not_greater, not_less)

-- ---- negated numbers have the other order

pub negative_order : (z : ℤ) (x : Float) (o : Ordering) → int_lt z (pos 0) ≡ true → float_is_finite x ≡ true
    → IsOrder (integer (pos (unsigned_abs z))) (neg x) o → IsOrder (integer z) x (ordering_reverse o)
unfolding float_is_finite neg lt eq
negative_order z x o l f h = grind (arith, nat_tests)

pub finite_negated : (x : Float) → float_is_finite x ≡ true → float_is_finite (neg x) ≡ true
unfolding float_is_finite neg
finite_negated x h = grind (arith, nat_tests)

pub ruleset of_negated = (negative_order, finite_negated)

-- ---- the laws

pub equality : EqualityIsEquivalence
equality = record {
  reflexive = λ x f. level x x (number x f) (number x f) (never (lt x x) (lt_irrefl x)) (never (lt x x) (lt_irrefl x));
  symmetric = λ x y e. sym (equal_swapped x y) ∙ e;
  transitive = λ x y z e g. sure (eq x z) (eq_trans x y z (T_from_true _ e) (T_from_true _ g));
}

exactly_one : (x y : Float) → IsFinite x → IsFinite y → IsExactlyOne (IsLessNumber x y) (AreEqualNumbers x y) (IsLessNumber y x)
exactly_one x y f g = grind (arith, nat_tests, number, level, equal_swapped, not_greater, not_less)

pub less_is_strict : LessIsStrictOrder
less_is_strict = record {
  irreflexive = λ x h. lt_irrefl x (T_from_true _ h);
  transitive = λ x y z h k. sure (lt x z) (lt_trans x y z (T_from_true _ h) (T_from_true _ k));
  total = exactly_one;
  equal_below = λ x y z e l. sure (lt x z) (lt_of_le_of_lt x y z (le_of_eq x y (T_from_true _ e)) (T_from_true _ l));
  equal_above = λ x y z l e. sure (lt x z) (lt_of_lt_of_le x y z (T_from_true _ l) (le_of_eq y z (T_from_true _ e)));
}
