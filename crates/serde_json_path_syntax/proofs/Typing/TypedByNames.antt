-- Well-typedness rests on the signatures of the called names alone.
use Rattle.serde_json_path_syntax.proofs.Words.{◌≡◌, ℕ, List, [], ◌∷◌, Option, Some, None, inl, inr, refl, ap, ◌∙◌, option_map, none-some, Query, query, Segments, no_segments, segment, Segment, long_hand, Selectors, no_selectors, selector, Selector, filter, LogicalOr, no_or, or, LogicalAnd, no_and, and, Basic, paren, relation, test, Operand, literal, queried, called, Call, call, Arguments, no_arguments, argument, Argument, operand, logical_argument, Kind, of_value, of_logical, of_nodes, Signature, IsTestKind, IsTyped, AreTypedSegments, IsTypedSegment, AreTypedSelectors, IsTypedSelector, IsTypedOr, IsTypedAnd, IsTypedBasic, IsTypedComparable, IsTypedCall, AreTypedArguments, IsTypedArgument, IsTypedOperand, TakesResult, result_kind, OfEach, name_of, names_of, calls_of, calls_in_segments, calls_in_segment, calls_in_selectors, calls_in_selector, calls_in_or, calls_in_and, calls_in_basic, calls_in_operand, calls_from, calls_in_arguments, calls_in_argument, IsIn, arith, nat_tests, common_steps}
use Rattle.serde_json_path_syntax.proofs.Names.Once.{in_from, of_both}
use Rattle.serde_json_path_syntax.proofs.Lists.{map_in}

module _ (few many : List ℕ → Option Signature) where
  -- where the call's name has a signature, it keeps it
  abbrev KeepsSignature : Call → Type 0
  KeepsSignature c = (s : Signature) → few (name_of c) ≡ Some s → many (name_of c) ≡ Some s

  abbrev Keep : List Call → Type 0
  Keep calls = OfEach KeepsSignature calls

  kind_stays : (c : Call) (kind : Kind) → KeepsSignature c → result_kind few c ≡ Some kind → result_kind many c ≡ Some kind
  kind_stays (call f args) kind keeps e = by (few f) refl e
    where
      by : (o : Option Signature) → few f ≡ o → option_map (λ (s : Signature). s.result) o ≡ Some kind → option_map (λ (s : Signature). s.result) (many f) ≡ Some kind
      by None known e = absurd (none-some kind e)
      by (Some s) known e = ap (option_map (λ (s : Signature). s.result)) (keeps s known) ∙ e

  takes : (c : Call) (kind : Kind) → KeepsSignature c → TakesResult few kind (result_kind few c) → TakesResult many kind (result_kind many c)
  takes c kind keeps e = grind (arith, nat_tests, common_steps, kind_stays)

  mutual
    typed_again : (q : Query) → Keep (calls_of q) → IsTyped few q → IsTyped many q
    typed_again (query kind segs) each h = typed_segments segs each h

    typed_segments : (segs : Segments) → Keep (calls_in_segments segs) → AreTypedSegments few segs → AreTypedSegments many segs
    typed_segments no_segments each h = tt
    typed_segments (segment kind seg more) each h = let both = of_both KeepsSignature _ _ each in (typed_segment seg both.0 h.0, typed_segments more both.1 h.1)

    typed_segment : (seg : Segment) → Keep (calls_in_segment seg) → IsTypedSegment few seg → IsTypedSegment many seg
    typed_segment (long_hand sels) each h = typed_selectors sels each h
    typed_segment _ each h = tt

    typed_selectors : (sels : Selectors) → Keep (calls_in_selectors sels) → AreTypedSelectors few sels → AreTypedSelectors many sels
    typed_selectors no_selectors each h = tt
    typed_selectors (selector sel more) each h = let both = of_both KeepsSignature _ _ each in (typed_selector sel both.0 h.0, typed_selectors more both.1 h.1)

    typed_selector : (sel : Selector) → Keep (calls_in_selector sel) → IsTypedSelector few sel → IsTypedSelector many sel
    typed_selector (filter e) each h = typed_or e each h
    typed_selector _ each h = tt

    typed_or : (e : LogicalOr) → Keep (calls_in_or e) → IsTypedOr few e → IsTypedOr many e
    typed_or no_or each h = tt
    typed_or (or a more) each h = let both = of_both KeepsSignature _ _ each in (typed_and a both.0 h.0, typed_or more both.1 h.1)

    typed_and : (e : LogicalAnd) → Keep (calls_in_and e) → IsTypedAnd few e → IsTypedAnd many e
    typed_and no_and each h = tt
    typed_and (and b more) each h = let both = of_both KeepsSignature _ _ each in (typed_basic b both.0 h.0, typed_and more both.1 h.1)

    typed_basic : (b : Basic) → Keep (calls_in_basic b) → IsTypedBasic few b → IsTypedBasic many b
    typed_basic (paren negated e) each h = typed_or e each h
    typed_basic (relation a op b) each h = let both = of_both KeepsSignature _ _ each in (typed_comparable a both.0 h.0, typed_comparable b both.1 h.1)
    typed_basic (test negated o) each h = typed_operand o of_logical each h

    typed_comparable : (a : Operand) → Keep (calls_in_operand a) → IsTypedComparable few a → IsTypedComparable many a
    typed_comparable (literal l) each h = tt
    typed_comparable (queried q) each h = (typed_again q each h.0, h.1)
    typed_comparable (called c) each h = (typed_call c each h.0, kind_stays c of_value (each c (in_from c)) h.1)

    typed_call : (c : Call) → Keep (calls_from c) → IsTypedCall few c → IsTypedCall many c
    typed_call (call f args) each h =
        let both = of_both KeepsSignature (calls_in_arguments args) (call f args ∷ []) each in
        (h.0, both.1 (call f args) (inl refl) h.0 h.1, typed_arguments args h.0.params both.0 h.2)

    typed_arguments : (args : Arguments) (kinds : List Kind) → Keep (calls_in_arguments args) → AreTypedArguments few args kinds → AreTypedArguments many args kinds
    typed_arguments no_arguments kinds each h = h
    typed_arguments (argument a more) [] each h = absurd h
    typed_arguments (argument a more) (kind ∷ kinds) each h =
        let both = of_both KeepsSignature (calls_in_argument a) (calls_in_arguments more) each in (typed_argument a kind both.0 h.0, typed_arguments more kinds both.1 h.1)

    typed_argument : (a : Argument) (kind : Kind) → Keep (calls_in_argument a) → IsTypedArgument few a kind → IsTypedArgument many a kind
    typed_argument (operand o) kind each h = typed_operand o kind each h
    typed_argument (logical_argument e) of_logical each h = typed_or e each h
    typed_argument (logical_argument e) _ each h = h

    typed_operand : (o : Operand) (kind : Kind) → Keep (calls_in_operand o) → IsTypedOperand few o kind → IsTypedOperand many o kind
    typed_operand (literal l) _ each h = h
    typed_operand (queried q) of_value each h = (typed_again q each h.0, h.1)
    typed_operand (queried q) _ each h = typed_again q each h
    typed_operand (called c) kind each h = (typed_call c each h.0, takes c kind (each c (in_from c)) h.1)

-- a well-typed query is well-typed under any signatures that keep those of the called names
pub typed_by_names : (few many : List ℕ → Option Signature) (q : Query)
    → ((f : List ℕ) → IsIn f (names_of (calls_of q)) → (s : Signature) → few f ≡ Some s → many f ≡ Some s) → IsTyped few q → IsTyped many q
typed_by_names few many q keeps h = typed_again few many q (λ c i. keeps (name_of c) (map_in name_of c (calls_of q) i)) h
