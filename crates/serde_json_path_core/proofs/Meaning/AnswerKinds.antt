-- Well-typed calls have answers, and under a function set that keeps types these and the computed arguments have their declared types.
use Rattle.serde_json_path_core.proofs.Words.{◌≡◌, List, [], ◌∷◌, map, Some, true, refl, sym, ap, ◌∙◌, same_Some, Data, Operand, literal, queried, called, Call, call, Arguments, no_arguments, argument, Argument, operand, logical_argument, Kind, of_value, of_logical, Term, FunctionSet, kind_of_term, KeepsTypes, Compared, literal_compared, value_compared, first_value, result_kind, IsTypedComparable, IsTypedCall, AreTypedArguments, IsTypedArgument, IsTypedOperand, results, compared, answer, arguments, argument_as, answer_compared, are_taken, is_answered, is_taken, is_given, operand_as, value, arith, nat_tests, common_steps}

module _ (F : FunctionSet) where
  mutual
    -- a well-typed call has an answer
    pub answered-typed : (c : Call) → IsTypedCall F.signature c → is_answered F c ≡ true
    answered-typed (call f args) typed = rw typed.1 (taken-typed args typed.0.params typed.2)

    pub taken-typed : (args : Arguments) (kinds : List Kind) → AreTypedArguments F.signature args kinds → are_taken F args kinds ≡ true
    taken-typed (argument a more) (kind ∷ kinds) typed = rw (argument-typed a kind typed.0) (taken-typed more kinds typed.1)
    taken-typed args kinds typed = grind (arith, nat_tests, common_steps)

    argument-typed : (a : Argument) (kind : Kind) → IsTypedArgument F.signature a kind → is_taken F a ≡ true
    argument-typed (operand o) kind typed = operand-typed o kind typed
    argument-typed (logical_argument e) kind typed = refl

    operand-typed : (o : Operand) (kind : Kind) → IsTypedOperand F.signature o kind → is_given F o ≡ true
    operand-typed (called c) kind typed = answered-typed c typed.0
    operand-typed _ kind typed = refl

module _ (F : FunctionSet) (top : Data) (keeps : KeepsTypes F) where
  mutual
    -- a call's answer has the type of its result
    pub answer_kind : (c : Call) → IsTypedCall F.signature c → (v : Data) → Some (kind_of_term (answer F top c v)) ≡ result_kind F.signature c
    answer_kind (call f args) typed v =
        rw (answered-typed F (call f args) typed, typed.1)
        (ap Some ((keeps f typed.0 typed.1).1 (arguments F top args typed.0.params v) (arguments_kinds args typed.0.params typed.2 v)))

    -- the arguments have the types of the parameters
    pub arguments_kinds : (args : Arguments) (kinds : List Kind) → AreTypedArguments F.signature args kinds → (v : Data) → map kind_of_term (arguments F top args kinds v) ≡ kinds
    arguments_kinds (argument a more) (kind ∷ kinds) typed v = λ i. argument_kind a kind typed.0 v i ∷ arguments_kinds more kinds typed.1 v i
    arguments_kinds args kinds typed v = grind (arith, nat_tests, common_steps)

    argument_kind : (a : Argument) (kind : Kind) → IsTypedArgument F.signature a kind → (v : Data) → kind_of_term (argument_as F top a kind v) ≡ kind
    argument_kind (operand o) kind typed v = operand_kind o kind typed v
    argument_kind a kind typed v = grind (arith, nat_tests, common_steps)

    operand_kind : (o : Operand) (kind : Kind) → IsTypedOperand F.signature o kind → (v : Data) → kind_of_term (operand_as F top o kind v) ≡ kind
    operand_kind (literal l) of_value typed v = refl
    operand_kind (literal l) _ typed v = absurd typed
    operand_kind (queried q) of_value typed v = refl
    operand_kind (queried q) _ typed v = refl
    operand_kind (called c) of_logical typed v = refl
    operand_kind (called c) kind typed v = same_Some (kind_of_term (answer F top c v)) kind (answer_kind c typed.0 v ∙ typed.1)

  value_there : (t : Term) → kind_of_term t ≡ of_value → (x : Compared) × (answer_compared t ≡ Some x)
  value_there (value o) e = (value_compared o, refl)
  value_there _ e = absurd (cc)

  -- a side of a comparison stands for something that is compared
  pub compared_there : (a : Operand) → IsTypedComparable F.signature a → (v : Data) → (x : Compared) × (compared F top a v ≡ Some x)
  compared_there (literal l) typed v = (literal_compared l, refl)
  compared_there (queried q) typed v = (value_compared (first_value (results F top q v)), refl)
  compared_there (called c) typed v = value_there (answer F top c v) (same_Some (kind_of_term (answer F top c v)) of_value (answer_kind c typed.0 v ∙ typed.1))
