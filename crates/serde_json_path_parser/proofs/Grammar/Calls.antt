-- Arguments and calls, by what holds one level deeper; and the laws of these pieces at every level.
use Rattle.serde_json_path_parser.proofs.Words.{common_steps, is_number_argument, IsNumberArgument, MayBeArgument, Numbers, ◌==◌, ◌||◌, ℤ, eqb-true, eq-eqb, or_parts, cases_Bool, LogicalOr, LogicalAnd, Basic, Argument, operand, logical_argument, no_or, or, no_and, and, TakesResult, IsTypedArgument, argument_depth, Kind, Signature, is_at, begins, begins_both, IsBlank, StandsAlone, ReadsArgument, ◌>>=◌, past_blanks, byte_count, Operand, takes_result, suits, ends_argument, Deeper, read_operand, read_basic_from, read_basic, read_and_from, read_and, read_or_from, read_or, read_argument, is_blank, ReadsCall, append-nil, Parsed, codes, call, Arguments, no_arguments, argument, AreTypedArguments, IsTypedCall, arguments_depth, call_depth, ExpectedClosingParenthesis, WrongArgumentType, UndefinedFunction, WrongNumberOfArguments, IsFunctionName, ReadMoreArguments, ReadArguments, read_end, read_some_arguments, read_arguments, read_call, level, ◌≡◌, ℕ, ◌≤◌, inl, inr, true, false, List, [], ◌∷◌, ◌++◌, Option, Some, Ok, refl, sym, ap, ◌∙◌, append_assoc, arith, ◌+◌, zero, suc, drop, None, LongHand, IsTypedOr, or_depth}
use Rattle.serde_json_path_parser.proofs.Reading.{split_again, blanks_of, spread, begins_where, differs, no_blank, begins_differs, Read, Spaced, bind_ok, ok_is, after_one, many_end, Inner, onward, choose, remade, read_as, Outcome, weaker_spaced, refused, past_text, Past, read_spaced, after_sign, past_spaced, past_through, past_run, front_each, whole, moved, begins_other}
use Rattle.serde_json_path_parser.proofs.Grammar.LogicalForms.{query_singular, DeeperLaws, singular_query, ends_operand, ends_or, IsOperandText, IsOrText, begins_operand, begins_expression, operand_begins, as_expression, or_begins, no_blank_begins, IsGoodOperand, typed_good}
use Rattle.serde_json_path_parser.proofs.Grammar.LogicalExpressions.{or_again, or_outcome, and_from_outcome, or_from_outcome}
use Rattle.serde_json_path_parser.proofs.Grammar.Comparisons.{operand_again, operand_outcome, no_operator, basic_from_outcome}
use Rattle.serde_json_path_parser.proofs.Rows.{Follows, at_sign}

-- ---- types of arguments

-- the types of an argument's parts, as they are read
takes : (signature : List ℕ → Option Signature) (kind : Kind) (result : Option Kind) → takes_result kind result ≡ true → TakesResult signature kind result
takes signature kind result h1 = grind (arith)

-- a result that a parameter takes is seen to be one
taken : (signature : List ℕ → Option Signature) (kind : Kind) (result : Option Kind) → TakesResult signature kind result → takes_result kind result ≡ true
taken signature kind result h1 = grind (arith)

-- a number that may be an argument is seen to be one
number_suits : (rule : Numbers) (amount : ℤ) → IsNumberArgument rule amount → is_number_argument rule amount ≡ true
number_suits rule amount h1 = grind (arith, eq-eqb)

-- and what is seen to be one may be an argument
suits_number : (rule : Numbers) (amount : ℤ) → is_number_argument rule amount ≡ true → IsNumberArgument rule amount
suits_number rule amount h1 = grind (arith, eqb-true)

typed_suits : (rule : Numbers) (signature : List ℕ → Option Signature) (a : Argument) (kind : Kind) (t : List ℕ) → ReadsArgument rule a t → IsTypedArgument signature a kind
    → suits rule signature a kind ≡ true
typed_suits rule signature a kind t h1 h2 = grind (arith, number_suits, query_singular, taken)

-- ---- what follows an argument

-- no further part stands there
no_sign : (k : ℕ) (cs : List ℕ) → ends_argument k ≡ false → begins ends_argument cs ≡ true → begins_both k k cs ≡ false
no_sign k cs h1 h2 = grind (arith, differs)

-- what begins neither with `(` nor with `!`
neither : (cs : List ℕ) → begins (λ c. c == 40 || c == 33) cs ≡ false → (is_at "(" cs ≡ false) × (is_at "!" cs ≡ false)
neither cs h1 = grind (arith, or_parts)

-- ---- what stands alone

-- a row of one item of one
single : (t a b c d : List ℕ) → t ≡ a ++ b → b ≡ [] → a ≡ c ++ d → d ≡ [] → t ≡ c
single t a b c d whole none first last = whole ∙ ap (λ (l : List ℕ). a ++ l) none ∙ append-nil a ∙ first ∙ ap (λ (l : List ℕ). c ++ l) last ∙ append-nil c

module _ (rule : Numbers) (signature : List ℕ → Option Signature) (n : ℕ) where
  -- an argument whose parts are good, before its type is judged
  abbrev IsGoodArgument : Argument → Type 0
  IsGoodArgument (operand o) = IsGoodOperand signature n o
  IsGoodArgument (logical_argument e) = IsTypedOr signature e × (or_depth e ≤ n)

  abbrev pub IsArgument : List ℕ → Argument → Type 0
  IsArgument t a = IsGoodArgument a × ReadsArgument rule a t

  -- the same before a number is judged
  abbrev pub IsUnjudged : List ℕ → Argument → Type 0
  IsUnjudged t (operand o) = IsOperandText rule signature n t o
  IsUnjudged t a = IsArgument t a

  -- and where a logical expression may be a test alone
  abbrev pub IsLooseArgument : List ℕ → Argument → Type 0
  IsLooseArgument t (logical_argument e) = IsOrText rule signature n t e
  IsLooseArgument t a = IsUnjudged t a

  -- an operand that suits a parameter may be an argument
  may_be : (o : Operand) (kind : Kind) → suits rule signature (operand o) kind ≡ true → MayBeArgument rule o
  may_be o kind h1 = grind (arith, suits_number)

  pub judged : (t : List ℕ) (a : Argument) (kind : Kind) → IsUnjudged t a → suits rule signature a kind ≡ true → IsArgument t a
  judged t a kind h1 h2 = grind (arith, may_be)

  -- a good argument that suits the parameter is well-typed
  pub suits_typed : (a : Argument) (kind : Kind) → IsGoodArgument a → suits rule signature a kind ≡ true → IsTypedArgument signature a kind
  suits_typed a kind h1 h2 = grind (arith, singular_query, takes)

  pub good_depth : (a : Argument) → IsGoodArgument a → argument_depth a ≤ n
  good_depth a h1 = grind (arith)

  -- a well-typed argument is good
  pub argument_good : (a : Argument) (kind : Kind) → IsTypedArgument signature a kind → argument_depth a ≤ n → IsGoodArgument a
  argument_good a kind h1 h2 = grind (arith, typed_good)

module _ (rule : Numbers) (signature : List ℕ → Option Signature) (n : ℕ) (deeper : Deeper) (laws : DeeperLaws rule signature n deeper) where
  -- ---- what a reading gives

  pub argument_outcome : (cs : List ℕ) → Outcome (Spaced (IsLooseArgument rule signature n)) (Inner signature) cs (read_argument rule signature deeper cs)
  unfolding read_argument
  argument_outcome cs =
      choose {b = begins (λ c. c == 40 || c == 33) cs} (λ e. remade (λ e. logical_argument e) (λ t e h. h) (or_outcome rule signature n deeper laws cs)) (λ _.
      onward (operand_outcome rule signature n deeper laws cs) (λ o e s.
      choose (λ e. read_as (operand o.0) s (λ t h. h)) (λ _.
      onward (basic_from_outcome rule signature n deeper laws cs o s) (λ b e s.
      onward (and_from_outcome rule signature n deeper laws cs b s) (λ a e s. remade (λ e. logical_argument e) (λ t e h. h) (or_from_outcome rule signature n deeper laws cs a s))))))

  -- ---- an operand alone is read as that

  operand_argument : (t : List ℕ) (o : Operand) (rest : List ℕ) → IsOperandText rule signature n t o → Follows ends_argument rest → read_argument rule signature deeper (t ++ rest) ≡ Ok (operand o, past_blanks rest)
  unfolding read_argument
  operand_argument t o rest h ends =
      let plain : begins (λ c. c == 40 || c == 33) (t ++ rest) ≡ false = begins_where begins_operand (λ c. c == 40 || c == 33) false (t ++ rest) (λ c e. grind (arith, e)) (operand_begins rule o t rest h.1) in
      let read = operand_again rule signature n deeper laws t o rest h (begins_where ends_argument ends_operand true (past_blanks rest) (λ c e. grind (arith, e)) ends) in
      rw (plain, read, ends) refl

  alone_text : (e : LogicalOr) (t : List ℕ) → IsOrText rule signature n t e → StandsAlone e → (o : Operand) × IsOperandText rule signature n t o × (operand o ≡ logical_argument e → ⊥)
  alone_text e t h stands = grind (arith, common_steps, typed_good, single, whole)

  -- so no expression that is read before an argument's end is one
  not_alone : (e : LogicalOr) (t k rest : List ℕ) → IsOrText rule signature n t e → IsBlank k → begins ends_argument rest ≡ true → read_argument rule signature deeper (t ++ (k ++ rest)) ≡ Ok (logical_argument e, rest) → StandsAlone e → ⊥
  not_alone e t k rest h blank ends read stands = grind (arith, alone_text, begins_where, no_blank, ok_is, operand_argument, past_run)

  pub argument_is : (cs : List ℕ) (x : Argument × List ℕ) (s : Read (Spaced (IsLooseArgument rule signature n)) cs x) → read_argument rule signature deeper cs ≡ Ok x → begins ends_argument x.1 ≡ true → IsUnjudged rule signature n s.is_so.0 x.0
  argument_is cs x s h1 h2 = grind (arith, append_assoc, not_alone)

  -- ---- a logical expression, which does not stand alone

  abbrev more_of : Basic × List ℕ → Parsed LogicalOr
  more_of b = read_and_from rule signature deeper b.0 b.1 >>= λ a. read_or_from rule signature deeper a.0 a.1

  -- before an argument's end nothing is joined to it
  none_joined : (b : Basic) (cs : List ℕ) (x : LogicalOr × List ℕ) → begins ends_argument cs ≡ true → more_of (b, cs) ≡ Ok x → or (and b no_and) no_or ≡ x.0
  none_joined b cs x ends e = grind (arith, many_end, no_sign, ok_is, whole)

  operand_alone : (start : List ℕ) (o : Operand) (cs : List ℕ) (x : LogicalOr × List ℕ) → begins ends_argument cs ≡ true → (read_basic_from rule signature deeper (byte_count start) o cs >>= more_of) ≡ Ok x → StandsAlone x.0
  operand_alone start o cs x ends e = grind (arith, common_steps, no_operator, begins_where, none_joined)

  -- an operand and what is joined to it
  joined_again : (cs : List ℕ) (x : LogicalOr × List ℕ) (o : Operand × List ℕ) (b : Basic × List ℕ) (a : LogicalAnd × List ℕ) → begins (λ c. c == 40 || c == 33) cs ≡ false → (StandsAlone x.0 → ⊥)
      → read_operand rule signature deeper cs ≡ Ok o → read_basic_from rule signature deeper (byte_count cs) o.0 o.1 ≡ Ok b → read_and_from rule signature deeper b.0 b.1 ≡ Ok a → read_or_from rule signature deeper a.0 a.1 ≡ Ok x → read_argument rule signature deeper cs ≡ Ok (logical_argument x.0, x.1)
  unfolding read_argument
  joined_again cs x o b a plain free first second third fourth = elim (cases_Bool (begins ends_argument o.1)) [
    | inl ends ↦ absurd (free (operand_alone cs o.0 o.1 x ends (rw (second, third) fourth)))
    | inr ends ↦ rw (plain, first, ends, second, third, fourth) refl
  ]

  logical_again : (cs : List ℕ) (x : LogicalOr × List ℕ) → (StandsAlone x.0 → ⊥) → read_or rule signature deeper cs ≡ Ok x → read_argument rule signature deeper cs ≡ Ok (logical_argument x.0, x.1)
  unfolding read_argument
  logical_again cs x free e = elim (cases_Bool (begins (λ c. c == 40 || c == 33) cs)) [
    | inl opened ↦ rw (opened, e) refl
    | inr opened ↦
        let others = neither cs opened in
        let a = bind_ok (read_and rule signature deeper cs) (λ a. read_or_from rule signature deeper a.0 a.1) x e in
        let b = bind_ok (read_basic rule signature deeper cs) (λ b. read_and_from rule signature deeper b.0 b.1) a.0 a.1 in
        let read : (read_operand rule signature deeper cs >>= λ o. read_basic_from rule signature deeper (byte_count cs) o.0 o.1) ≡ Ok b.0 = sym (rw (others.0, others.1) refl) ∙ b.1 in
        let o = bind_ok (read_operand rule signature deeper cs) (λ o. read_basic_from rule signature deeper (byte_count cs) o.0 o.1) b.0 read in
        joined_again cs x o.0 b.0 a.0 opened free o.1 o.2 b.2 a.2
  ]

  -- ---- each argument

  pub argument_again : (t : List ℕ) (a : Argument) (rest : List ℕ) → IsArgument rule signature n t a → Follows ends_argument rest → read_argument rule signature deeper (t ++ rest) ≡ Ok (a, past_blanks rest)
  argument_again t (operand o) rest h ends = operand_argument t o rest (h.0, h.1.1) ends
  argument_again t (logical_argument e) rest h ends =
      logical_again (t ++ rest) (e, past_blanks rest) h.1.0 (or_again rule signature n deeper laws t e rest (h.0, h.1.1) (begins_where ends_argument ends_or true (past_blanks rest) (λ c e. grind (arith, e)) ends))

  pub argument_begins : (t : List ℕ) (a : Argument) (rest : List ℕ) → ReadsArgument rule a t → begins begins_expression (t ++ rest) ≡ true
  argument_begins t (operand o) rest h = as_expression (t ++ rest) (operand_begins rule o t rest h.1)
  argument_begins t (logical_argument e) rest h = or_begins rule e t rest h.1

-- ---- arguments in a row and calls: what is read is a good one, or where the refusal stands; and each good one is read

module _ (rule : Numbers) (signature : List ℕ → Option Signature) (n : ℕ) (deeper : Deeper) (laws : DeeperLaws rule signature n deeper) where
  -- ---- arguments in a row: what a reading gives

  abbrev AreGood : List Kind → Arguments → Type 0
  AreGood kinds args = AreTypedArguments signature args kinds × (arguments_depth args ≤ n)

  -- arguments, blanks and `)`
  abbrev AreClosed : List Kind → List ℕ → Arguments → Type 0
  AreClosed kinds t args = AreGood kinds args × (a k : List ℕ) × ReadArguments rule args a × IsBlank k × (t ≡ a ++ (k ++ 41 ∷ []))

  -- one argument or more
  abbrev AreSome : List Kind → List ℕ → Arguments → Type 0
  AreSome kinds t args = AreClosed kinds t args × (args ≡ no_arguments → ⊥)

  -- after an argument and blanks
  abbrev AreMore : List ℕ → List Kind → List ℕ → Arguments → Type 0
  AreMore k kinds t args = AreGood kinds args × (a j : List ℕ) × ReadMoreArguments rule args a × IsBlank j × (k ++ t ≡ a ++ (j ++ 41 ∷ []))

  after_comma : (k i : List ℕ) (kinds : List Kind) (t : List ℕ) (args : Arguments) → IsBlank k → IsBlank i → AreSome kinds t args → AreMore k kinds (44 ∷ (i ++ t)) args
  after_comma k i kinds t no_arguments before after h = absurd (h.1 refl)
  after_comma k i kinds t (argument a more) before after ((good, all, j, (b, c, is, are, e), blank, same), some) = (
    good,
    (k ++ (44 ∷ i)) ++ (b ++ c),
    j,
    (k ++ (44 ∷ i), b, c, (k, i, before, after, refl), is, are, refl),
    blank,
    ap (λ (l : List ℕ). k ++ (44 ∷ (i ++ l))) (same ∙ ap (λ (l : List ℕ). l ++ (j ++ 41 ∷ [])) e) ∙ regrouped (44 ∷ []) k i b c (j ++ 41 ∷ []),
  )
    where
      regrouped : (s k i b c d : List ℕ) → k ++ (s ++ (i ++ ((b ++ c) ++ d))) ≡ ((k ++ (s ++ i)) ++ (b ++ c)) ++ d
      regrouped s k i b c d = simp append_assoc refl

  with_first : (a : Argument) (kind : Kind) (kinds : List Kind) (t k u : List ℕ) (args : Arguments) → IsArgument rule signature n t a → IsTypedArgument signature a kind → AreMore k kinds u args
      → AreSome (kind ∷ kinds) ((t ++ k) ++ u) (argument a args)
  with_first a kind kinds t k u args is typed (good, c, j, are, blank, same) =
      ((((typed, good.0), omega (arith, good_depth rule signature n a is.0, good.1)), t ++ c, j, (t, c, is.1, are, refl), blank, split_again t c (j ++ 41 ∷ []) (append_assoc t k u) same), λ e. cc)

  -- at `)`
  end_outcome : {is : List ℕ → Arguments → Type 0} (start before : List ℕ) (kinds : List Kind) (cs : List ℕ) → start ≡ before ++ cs → (kinds ≡ [] → is before no_arguments)
      → Outcome (Spaced is) (Inner signature) start (read_end (byte_count start) kinds cs)
  end_outcome start before [] cs split good = read_spaced (no_arguments, cs) (record { text = before; is_so = good refl; split = split })
  end_outcome start before (kind ∷ kinds) cs split good = refused WrongNumberOfArguments LongHand (inl refl)

  arguments_outcome : (before start : List ℕ) (kinds : List Kind) (cs : List ℕ) → start ≡ before ++ cs
      → Outcome (Spaced (Past before (AreSome kinds))) (Inner signature) start (read_some_arguments rule signature deeper (byte_count start) kinds cs)
  arguments_outcome before start [] cs split =
      onward (moved before split (argument_outcome rule signature n deeper laws cs)) (λ a f s. choose (λ _. refused WrongNumberOfArguments LongHand (inl refl)) (λ _.
      past_text (before ++ s.text) (split_again before s.text a.1 split s.split) (refused ExpectedClosingParenthesis LongHand (inl refl))))
  arguments_outcome before start (kind ∷ kinds) cs split =
      onward (moved before split (argument_outcome rule signature n deeper laws cs)) (λ a f s.
      let t = s.is_so.0 in
      let k = s.is_so.1 in
      let here = before ++ (t ++ k) in
      let whole : start ≡ here ++ a.1 = split_again before (t ++ k) a.1 split (s.split ∙ ap (λ (l : List ℕ). l ++ a.1) s.is_so.4) in
      choose (λ ends.
      let is = argument_is rule signature n deeper laws cs a s f ends in
      choose (λ fit.
      let good = judged rule signature n t a.0 kind is fit in
      remade {is = Past here (AreMore k kinds)} (λ more. argument a.0 more)
      (λ u more h. ((t ++ k) ++ h.0, with_first a.0 kind kinds t k h.0 more good (suits_typed rule signature n a.0 kind good.0 fit) h.1, h.2 ∙ append_assoc before (t ++ k) h.0))
      (choose (λ comma.
      let i = blanks_of (drop 1 a.1) in
      weaker_spaced (λ u args h. (44 ∷ (i ++ h.0), after_comma k i kinds h.0 args s.is_so.3 (front_each is_blank (drop 1 a.1)) h.1, h.2 ∙ append_assoc here (44 ∷ i) h.0))
      (arguments_outcome (here ++ (44 ∷ i)) start kinds (past_blanks (drop 1 a.1)) (split_again here (44 ∷ i) (past_blanks (drop 1 a.1)) whole (after_sign 44 a.1 comma))))
      (λ no_comma.
      end_outcome start (here ++ 41 ∷ []) kinds (drop 1 a.1) (split_again here (41 ∷ []) (drop 1 a.1) whole (after_one 41 a.1 (begins_other 44 41 a.1 ends no_comma))) (λ none. (41 ∷ [], ((none, omega arith), [], k, refl, s.is_so.3, refl), refl)))))
      (λ _. past_text before split (refused WrongArgumentType LongHand (inl refl))))
      (λ _. past_text here whole (refused ExpectedClosingParenthesis LongHand (inl refl))))

  -- ---- calls: what a reading gives

  -- after `(` and blanks
  parameters_outcome : (before start : List ℕ) (kinds : List Kind) (cs : List ℕ) → start ≡ before ++ cs → Outcome (Spaced (Past before (AreClosed kinds))) (Inner signature) start (read_arguments rule signature deeper (byte_count start) kinds cs)
  parameters_outcome before start kinds cs split =
      choose (λ e.
      end_outcome start (before ++ 41 ∷ []) kinds (drop 1 cs) (split_again before (41 ∷ []) (drop 1 cs) split (after_one 41 cs e)) (λ none. (41 ∷ [], ((none, omega arith), [], [], refl, tt, refl), refl))) (λ _.
      weaker_spaced (λ u args h. (h.0, h.1.0, h.2)) (arguments_outcome before start kinds cs split))

  -- a call of this name, which begins at start
  pub call_outcome : (start f cs : List ℕ) (sig : Option Signature) → IsFunctionName f f → start ≡ f ++ (40 ∷ cs) → signature f ≡ sig
      → Outcome (Spaced (λ t c. (IsTypedCall signature c × (call_depth c ≤ n + 1)) × ReadsCall rule c t)) (Inner signature) start (read_call rule signature deeper (byte_count start) f sig cs)
  call_outcome start f cs None named split undeclared = refused UndefinedFunction LongHand (inr (refl, (f, cs, named, split, undeclared)))
  call_outcome start f cs (Some s) named split declared =
      let j = blanks_of cs in
      remade (λ args. call f args) (λ t args (u, (good, a, k, reads, blank, same), whole). (
        ((s, declared, good.0), omega (arith, good.1)),
        (f, j, a, k, named, front_each is_blank cs, reads, blank, whole ∙ ap (λ (l : List ℕ). (f ++ (40 ∷ j)) ++ l) same ∙ append_assoc f (40 ∷ j) (a ++ (k ++ 41 ∷ []))),
      )) (parameters_outcome (f ++ (40 ∷ j)) start s.params (past_blanks cs) (split_again f (40 ∷ j) (past_blanks cs) split (ap (λ (l : List ℕ). 40 ∷ l) (whole is_blank cs))))

  -- ---- what is good is read

  module _ (k rest : List ℕ) (blank : IsBlank k) where
    -- the blanks and the parenthesis that closes
    abbrev closing : List ℕ
    closing = k ++ (41 ∷ rest)

    at_closing : past_blanks closing ≡ 41 ∷ rest
    at_closing = past_run is_blank k (41 ∷ rest) blank refl

    follows : (more : Arguments) (t : List ℕ) → ReadMoreArguments rule more t → Follows ends_argument (t ++ closing)
    follows no_arguments t h = ap (λ (l : List ℕ). begins ends_argument (past_blanks (l ++ closing))) h ∙ ap (begins ends_argument) at_closing
    follows (argument a more) t (s, b, c, (j, i, blanks, after, sign), is, are, e) =
        ap (begins ends_argument) (at_sign (codes ",") t s j i b c closing (λ cs. refl) blanks sign e)

    arguments_again : (start : List ℕ) (kinds : List Kind) (a : Argument) (more : Arguments) (t others : List ℕ) → AreTypedArguments signature (argument a more) kinds → arguments_depth (argument a more) ≤ n
        → ReadsArgument rule a t → ReadMoreArguments rule more others → read_some_arguments rule signature deeper (byte_count start) kinds (t ++ (others ++ closing)) ≡ Ok (argument a more, past_blanks rest)
    arguments_again start [] a more t others typed within_depth is are = absurd typed
    arguments_again start (kind ∷ kinds) a no_arguments t others typed within_depth is are =
        let read : read_argument rule signature deeper (t ++ (others ++ closing)) ≡ Ok (a, 41 ∷ rest) =
        argument_again rule signature n deeper laws t a (others ++ closing) (argument_good rule signature n a kind typed.0 (omega (arith, within_depth)), is) (follows no_arguments others are)
        ∙ ap (λ (l : List ℕ). Ok (a, l)) (ap (λ (l : List ℕ). past_blanks (l ++ closing)) are ∙ at_closing) in
        rw (read, typed_suits rule signature a kind t is typed.0, typed.1) refl
    arguments_again start (kind ∷ kinds) a (argument b more) t others typed within_depth is (s, c, d, (j, i, blanks, after, sign), next, are, e) =
        let read : read_argument rule signature deeper (t ++ (others ++ closing)) ≡ Ok (a, 44 ∷ (i ++ (c ++ (d ++ closing)))) =
        argument_again rule signature n deeper laws t a (others ++ closing) (argument_good rule signature n a kind typed.0 (omega (arith, within_depth)), is) (follows (argument b more) others (s, c, d, (j, i, blanks, after, sign), next, are, e))
        ∙ ap (λ (l : List ℕ). Ok (a, l)) (at_sign (codes ",") others s j i c d closing (λ cs. refl) blanks sign e) in
        let onward : past_blanks (i ++ (c ++ (d ++ closing))) ≡ c ++ (d ++ closing) = past_run is_blank i (c ++ (d ++ closing)) after (no_blank_begins (c ++ (d ++ closing)) (argument_begins rule signature n deeper laws c b (d ++ closing) next)) in
        rw (read, typed_suits rule signature a kind t is typed.0, onward, arguments_again start kinds b more c d typed.1 (omega (arith, within_depth)) next are) refl

    -- after `(` and blanks
    parameters_again : (start : List ℕ) (kinds : List Kind) (args : Arguments) (t : List ℕ) → AreTypedArguments signature args kinds → arguments_depth args ≤ n → ReadArguments rule args t
        → read_arguments rule signature deeper (byte_count start) kinds (past_blanks (t ++ closing)) ≡ Ok (args, past_blanks rest)
    parameters_again start kinds no_arguments t typed within_depth is = grind (arith, common_steps, at_closing)
    parameters_again start kinds (argument a more) t typed within_depth (b, others, is, are, e) =
        let whole : t ++ closing ≡ b ++ (others ++ closing) = ap (λ (l : List ℕ). l ++ closing) e ∙ append_assoc b others closing in
        let begun : begins begins_expression (b ++ (others ++ closing)) ≡ true = argument_begins rule signature n deeper laws b a (others ++ closing) is in
        let here : past_blanks (t ++ closing) ≡ b ++ (others ++ closing) = ap past_blanks whole ∙ past_run is_blank [] (b ++ (others ++ closing)) tt (no_blank_begins (b ++ (others ++ closing)) begun) in
        let closes_not : is_at ")" (b ++ (others ++ closing)) ≡ false = begins_differs begins_expression 41 (b ++ (others ++ closing)) refl begun in
        rw (here, closes_not) (arguments_again start kinds a more b others typed within_depth is are)

  -- ---- calls

  -- after `(` of a call of this name
  pub call_again : (start f : List ℕ) (args : Arguments) (j a k rest : List ℕ) → (IsTypedCall signature (call f args) × (call_depth (call f args) ≤ n + 1)) → IsBlank j → ReadArguments rule args a → IsBlank k
      → read_call rule signature deeper (byte_count start) f (signature f) ((j ++ (a ++ (k ++ 41 ∷ []))) ++ rest) ≡ Ok (call f args, past_blanks rest)
  call_again start f args j a k rest good before is after = grind (arith, parameters_again, past_through, spread)

-- ---- the laws of how filters, parentheses and calls are read hold at every level

module _ (rule : Numbers) (signature : List ℕ → Option Signature) where
  pub level_laws : (n : ℕ) → DeeperLaws rule signature n (level rule signature n)
  unfolding level
  level_laws zero = grind (arith, common_steps, refused, call_outcome, call_again)
  level_laws (suc n) =
      let laws = level_laws n in
      record {
        inside_outcome = λ before start cs split. past_spaced before split (weaker_spaced (λ t e h. (t, ((h.0.0, omega (arith, h.0.1)), h.1), refl)) (or_outcome rule signature n (level rule signature n) laws cs));
        inside_again = λ start t e rest good is ends. or_again rule signature n (level rule signature n) laws t e rest ((good.0, omega (arith, good.1)), is) ends;
        call_outcome = λ start f cs named split. weaker_spaced (λ t c h. ((h.0.0, omega (arith, h.0.1)), h.1)) (call_outcome rule signature n (level rule signature n) laws start f cs (signature f) named split refl);
        call_again = λ start f args j a k rest good before is after. call_again rule signature n (level rule signature n) laws start f args j a k rest (good.0, omega (arith, good.1)) before is after;
      }
