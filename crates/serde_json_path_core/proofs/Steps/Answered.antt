-- A call of a set answers what is computed, and is refused for its pattern only where it goes by one.
use Rattle.serde_json_path_core.proofs.Words.{◌≡◌, ◌⊎◌, ℕ, List, [], ◌∷◌, ◌++◌, length, map, inl, inr, Option, Some, None, option_map, Result, Ok, Err, IfOk, IfErr, refl, sym, ap, subst, ◌∙◌, append-nil, Data, Query, Call, call, Term, FunctionSet, Signature, kind_of_term, result_kind, term_view, params_of, IsTypedCall, AreTypedArguments, CallsByPattern, StandsIn, IsSound, arguments_of, calls_from, name_of, answer, arguments, Branch, arguments_in, branches_named, Part, kind_view, Gives, MayRefuse, QueryError, Pattern, FunctionArgType, FunctionValue, nat_tests, common_steps, arith}
use Rattle.serde_json_path_core.proofs.Sound.{next-argument, own-call}
use Rattle.serde_json_path_core.proofs.Meaning.AnswerKinds.{answered-typed, taken-typed}
use Rattle.serde_json_path_core.proofs.Meaning.Derived.{arguments_right}

-- and so is a call's answer
pub answered-kind : {E : Type 0} (F : FunctionSet) (c : Call) (name : List ℕ) (r : Result FunctionValue E) → name ≡ name_of c
    → IfOk r (λ a. Gives (F.signature name) (term_view a)) → IfOk r (λ a. Some (kind_of_term (term_view a)) ≡ result_kind F.signature c)
answered-kind F c name r e gives = grind (arith, nat_tests, common_steps)

module _ (F : FunctionSet) (top : Data) where
  -- where no argument is left, or no parameter, nothing is left to give
  none-left : (ps : List Branch) (parts : List Part) (kinds : List FunctionArgType) (v : Data) → (length parts ≡ 0) ⊎ (length kinds ≡ 0)
      → arguments F top (arguments_in (branches_named ps parts)) (map kind_view kinds) v ≡ []
  none-left ps (part ∷ parts) (kind ∷ kinds) v h = absurd (elim h [ inl e ↦ cc | inr e ↦ cc ])
  none-left ps parts kinds v h = grind (arith, nat_tests, common_steps)

  -- then what is given are all arguments
  pub given-all : (ps : List Branch) (parts : List Part) (kinds : List FunctionArgType) (v : Data) (given all : List Term) → (length parts ≡ 0) ⊎ (length kinds ≡ 0)
      → all ≡ given ++ arguments F top (arguments_in (branches_named ps parts)) (map kind_view kinds) v → given ≡ all
  given-all ps parts kinds v given all h e = sym (e ∙ ap (λ more. given ++ more) (none-left ps parts kinds v h) ∙ append-nil given)

  pub answered : {E : Type 0} (c : Call) (name : List ℕ) (v : Data) (given : List Term) (r : Result FunctionValue E) → IsTypedCall F.signature c → name ≡ name_of c
      → given ≡ arguments F top (arguments_of c) (params_of (F.signature (name_of c))) v
      → IfOk r (λ a. term_view a ≡ F.meaning name given) → IfOk r (λ a. term_view a ≡ answer F top c v)
  answered c name v given r typed e is means = grind (arith, nat_tests, common_steps, answered-typed)

  -- a call that is refused for its pattern goes by one
  pub by_pattern : (q : Query) (c : Call) (name : List ℕ) (v : Data) (given : List Term) → name ≡ name_of c → IsSound F q IsTypedCall calls_from c → StandsIn top v
      → given ≡ arguments F top (arguments_of c) (params_of (F.signature (name_of c))) v → MayRefuse (F.by_regex name) given → CallsByPattern F top q
  by_pattern q (call f args) name v given e sound stands is may =
      let kinds = params_of (F.signature f) in
      let typed = subst (AreTypedArguments F.signature args) (sym (ap params_of sound.0.1)) sound.0.2 in (
        call f args,
        own-call q (call f args) sound.1,
        (v, stands, (given, (arguments_right F top args kinds v given).1 (taken-typed F args kinds typed, is), subst (λ n. MayRefuse (F.by_regex n) given) e may)),
      )

-- an error that a call hands on
pub if_refused : {A P Q : Type 0} (r : Result A QueryError) → (P → Q) → (r ≡ Err Pattern → P) → IfErr r (λ e. e ≡ Pattern → Q)
if_refused r then h = grind (arith, nat_tests, common_steps)

-- what a call is given and answers
pub ruleset of_calls = (nat_tests, common_steps, next-argument, answered-kind)
