-- The test of two signatures decides whether they are equal.
use Rattle.std.proofs.Common.{arith, ◌≡◌, List, [], ◌∷◌, map, Bool, ◌&&◌, refl}
use Rattle.std.specs.Bool.{Decides}
use Rattle.std.specs.Cmp.Lexicographic.{pointwise}
use Rattle.std.proofs.lemmas.Bool.Decides.{nat_tests}
use Rattle.serde_json_path_functions.specs.Functions.{Kind, Signature}
use Rattle.serde_json_path_functions.specs.Terms.{kind_view}
use Rattle.serde_json_path_functions.specs.declared.types.FunctionArgType.{FunctionArgType}
use Rattle.serde_json_path_functions.specs.contracts.types.FunctionArgTypePartialEq.TheImpl.{eq-value}

pub kinds_decided : (a b : FunctionArgType) → Decides (eq-value.it a b) (kind_view a ≡ kind_view b)
kinds_decided a b = grind (arith, nat_tests)

same_list : (a b : Kind) (xs ys : List Kind) (s r : Bool) → Decides s (a ≡ b) → Decides r (xs ≡ ys) → Decides (s && r) ((a ∷ xs) ≡ (b ∷ ys))
same_list a b xs ys s r d e = grind (arith, nat_tests)

pub all_decided : (ks ls : List FunctionArgType) → Decides (pointwise eq-value.it ks ls) (map kind_view ks ≡ map kind_view ls)
all_decided [] [] = (λ e. refl, λ e. refl)
all_decided (k ∷ ks) (l ∷ ls) = same_list (kind_view k) (kind_view l) (map kind_view ks) (map kind_view ls) (eq-value.it k l) (pointwise eq-value.it ks ls) (kinds_decided k l) (all_decided ks ls)
all_decided _ _ = (λ e. absurd cc, λ e. absurd cc)

-- two signatures are equal where their parameters and their results are
pub signature_decided : (s t : Signature) (p q : Bool) → Decides p (s.params ≡ t.params) → Decides q (s.result ≡ t.result) → Decides (p && q) (s ≡ t)
signature_decided s t p q d e = grind (arith, nat_tests)

pub ruleset of_signatures = (kinds_decided, all_decided, signature_decided)
