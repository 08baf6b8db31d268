-- Well-typedness is decided, so that it can be recovered from its truncation. Each lemma decides what its type says.
use Rattle.serde_json_path_syntax.proofs.Words.{◌≡◌, ℕ, List, [], ◌∷◌, Option, Some, None, Bool, true, false, inl, inr, refl, sym, subst, true≢false, none-some, same_Some, Query, query, Segments, no_segments, segment, Segment, long_hand, Selectors, no_selectors, selector, Selector, filter, LogicalOr, no_or, or, LogicalAnd, no_and, and, Basic, paren, relation, test, Operand, literal, queried, called, Call, call, Arguments, no_arguments, argument, Argument, operand, logical_argument, segments_of, AreSingular, are_singular, Kind, of_value, of_nodes, of_logical, Signature, IsTestKind, result_kind, TakesResult, IsTyped, AreTypedSegments, IsTypedSegment, AreTypedSelectors, IsTypedSelector, IsTypedOr, IsTypedAnd, IsTypedBasic, IsTypedComparable, IsTypedCall, AreTypedArguments, IsTypedArgument, IsTypedOperand, map_dec, ∥∥₁_elim, arith, nat_tests, common_steps}
use Rattle.std.proofs.Common.{Decides}
use Rattle.std.proofs.Math.Logic.Dec.{and as both}
use Rattle.serde_json_path_syntax.proofs.Tree.NamedParts.{Decides-are_singular}

-- ---- the types of results

kind : (o : Option Kind) (wanted : Kind) → Dec (o ≡ Some wanted)
kind o wanted = grind (arith, nat_tests, common_steps)

-- ---- singular queries

by_test : {P : Type 0} (b : Bool) → Decides b P → Dec P
by_test b decides = grind (arith, nat_tests, common_steps)

singular : (segs : Segments) → Dec (AreSingular segs)
singular segs = by_test (are_singular segs) (Decides-are_singular segs)

-- ---- declared names

-- the parameters of a declared name meet what is decided
params_meet : {Meets : List Kind → Type 0} (o : Option Signature) → ((kinds : List Kind) → Dec (Meets kinds)) → Dec ((s : Signature) × (o ≡ Some s) × Meets s.params)
params_meet None each = no (λ h. none-some h.0 h.1)
params_meet {Meets} (Some s) each =
    map_dec (λ meets. (s, refl, meets)) (λ h. subst (λ (known : Signature). Meets known.params) (sym (same_Some s h.0 h.1)) h.2) (each s.params)

module _ (signature : List ℕ → Option Signature) where
  takes_result : (wanted : Kind) (o : Option Kind) → Dec (TakesResult signature wanted o)
  takes_result wanted o = grind (arith, nat_tests, common_steps, kind)

  -- ---- well-typed forms

  mutual
    typed : (q : Query) → Dec (IsTyped signature q)
    typed (query start segs) = typed_segments segs

    typed_segments : (segs : Segments) → Dec (AreTypedSegments signature segs)
    typed_segments no_segments = yes tt
    typed_segments (segment reach seg more) = both (typed_segment seg) (typed_segments more)

    typed_segment : (seg : Segment) → Dec (IsTypedSegment signature seg)
    typed_segment (long_hand sels) = typed_selectors sels
    typed_segment _ = yes tt

    typed_selectors : (sels : Selectors) → Dec (AreTypedSelectors signature sels)
    typed_selectors no_selectors = yes tt
    typed_selectors (selector sel more) = both (typed_selector sel) (typed_selectors more)

    typed_selector : (sel : Selector) → Dec (IsTypedSelector signature sel)
    typed_selector (filter e) = typed_or e
    typed_selector _ = yes tt

    typed_or : (e : LogicalOr) → Dec (IsTypedOr signature e)
    typed_or no_or = yes tt
    typed_or (or a more) = both (typed_and a) (typed_or more)

    typed_and : (e : LogicalAnd) → Dec (IsTypedAnd signature e)
    typed_and no_and = yes tt
    typed_and (and b more) = both (typed_basic b) (typed_and more)

    typed_basic : (b : Basic) → Dec (IsTypedBasic signature b)
    typed_basic (paren negated e) = typed_or e
    typed_basic (relation a op b) = both (typed_comparable a) (typed_comparable b)
    typed_basic (test negated o) = typed_operand o of_logical

    typed_comparable : (c : Operand) → Dec (IsTypedComparable signature c)
    typed_comparable (literal l) = yes tt
    typed_comparable (queried q) = both (typed q) (singular (segments_of q))
    typed_comparable (called c) = both (typed_call c) (kind (result_kind signature c) of_value)

    typed_call : (c : Call) → Dec (IsTypedCall signature c)
    typed_call (call f args) = params_meet (signature f) (λ kinds. typed_arguments args kinds)

    typed_arguments : (args : Arguments) (kinds : List Kind) → Dec (AreTypedArguments signature args kinds)
    typed_arguments no_arguments [] = yes refl
    typed_arguments no_arguments (wanted ∷ kinds) = no (λ e. cc)
    typed_arguments (argument a more) [] = no (λ h. h)
    typed_arguments (argument a more) (wanted ∷ kinds) = both (typed_argument a wanted) (typed_arguments more kinds)

    typed_argument : (a : Argument) (wanted : Kind) → Dec (IsTypedArgument signature a wanted)
    typed_argument (operand o) wanted = typed_operand o wanted
    typed_argument (logical_argument e) of_logical = typed_or e
    typed_argument (logical_argument e) _ = no (λ h. h)

    typed_operand : (o : Operand) (wanted : Kind) → Dec (IsTypedOperand signature o wanted)
    typed_operand (queried q) of_value = both (typed q) (singular (segments_of q))
    typed_operand (queried q) _ = typed q
    typed_operand (called c) wanted = both (typed_call c) (takes_result wanted (result_kind signature c))
    typed_operand o wanted = grind (arith, nat_tests, common_steps, singular, takes_result)

  -- what is well-typed for some reason is decided to be so, and from that a reason is built
  pub typed_recovered : (q : Query) → ∥ IsTyped signature q ∥₁ → IsTyped signature q
  typed_recovered q there = elim (typed q) [ yes h ↦ h | no never ↦ absurd (∥∥₁_elim there (λ x y. absurd x) never) ]
