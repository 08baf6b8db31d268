-- Queries in which texts of literals stand for others.
use Rattle.serde_json_path_syntax.proofs.Words.{AreCalled, IsIn, child, kind_of, names_in, subst, sym, ◌↔◌, ◌≡◌, ℕ, List, [], ◌∷◌, ◌++◌, Option, refl, ◌∙◌, map-append, arith, nat_tests, common_steps, Query, query, Segments, no_segments, segment, Segment, long_hand, Selectors, no_selectors, selector, Selector, filter, LogicalOr, no_or, or, LogicalAnd, no_and, and, Basic, paren, relation, test, Operand, literal, queried, called, Call, call, Arguments, no_arguments, argument, Argument, operand, logical_argument, Kind, of_value, of_logical, of_nodes, Signature, IsTyped, AreTypedSegments, IsTypedSegment, AreTypedSelectors, IsTypedSelector, IsTypedOr, IsTypedAnd, IsTypedBasic, IsTypedComparable, IsTypedCall, AreTypedArguments, IsTypedArgument, IsTypedOperand, AreSingular, IsSingularSegment, are_singular, is_singular_segment, result_kind, names_of, calls_of, calls_in_segments, calls_in_segment, calls_in_selectors, calls_in_selector, calls_in_or, calls_in_and, calls_in_basic, calls_in_operand, calls_from, calls_in_arguments, calls_in_argument, depth, segments_depth}
use Rattle.serde_json_path_syntax.specs.Tree.{Literal, descendant, text}
use Rattle.serde_json_path_syntax.specs.Depth.{segment_depth, selectors_depth, selector_depth, or_depth, and_depth, basic_depth, operand_depth, call_depth, arguments_depth, argument_depth}
use Rattle.serde_json_path_syntax.specs.Bound.{bound, bound_segments, bound_segment, bound_selectors, bound_selector, bound_or, bound_and, bound_basic, bound_operand, bound_call, bound_arguments, bound_argument, bound_literal}

module _ (value : List ℕ → List ℕ) where
  -- ---- singular queries stay singular

  singular_segment : (seg : Segment) → is_singular_segment (bound_segment value seg) ≡ is_singular_segment seg
  singular_segment seg = grind (arith, nat_tests, common_steps)

  pub singular_stays : (segs : Segments) → are_singular (bound_segments value segs) ≡ are_singular segs
  singular_stays no_segments = refl
  singular_stays (segment child seg more) = rw (singular_segment seg, singular_stays more)
  singular_stays (segment descendant seg more) = refl

  is_singular_bound : (seg : Segment) → IsSingularSegment seg → IsSingularSegment (bound_segment value seg)
  is_singular_bound seg h = grind (arith, nat_tests, common_steps)

  are_singular_bound : (segs : Segments) → AreSingular segs → AreSingular (bound_segments value segs)
  are_singular_bound no_segments h = tt
  are_singular_bound (segment child seg more) h = (is_singular_bound seg h.0, are_singular_bound more h.1)
  are_singular_bound (segment descendant seg more) h = h

  -- ---- well-typed queries stay well-typed

  module _ (signature : List ℕ → Option Signature) where
    kind_stays : (c : Call) → result_kind signature (bound_call value c) ≡ result_kind signature c
    kind_stays (call f args) = refl

    mutual
      pub typed_bound : (q : Query) → IsTyped signature q → IsTyped signature (bound value q)
      typed_bound (query kind segs) h = typed_segments segs h

      typed_segments : (segs : Segments) → AreTypedSegments signature segs → AreTypedSegments signature (bound_segments value segs)
      typed_segments no_segments h = tt
      typed_segments (segment kind seg more) h = (typed_segment seg h.0, typed_segments more h.1)

      typed_segment : (seg : Segment) → IsTypedSegment signature seg → IsTypedSegment signature (bound_segment value seg)
      typed_segment (long_hand sels) h = typed_selectors sels h
      typed_segment _ h = tt

      typed_selectors : (sels : Selectors) → AreTypedSelectors signature sels → AreTypedSelectors signature (bound_selectors value sels)
      typed_selectors no_selectors h = tt
      typed_selectors (selector sel more) h = (typed_selector sel h.0, typed_selectors more h.1)

      typed_selector : (sel : Selector) → IsTypedSelector signature sel → IsTypedSelector signature (bound_selector value sel)
      typed_selector (filter e) h = typed_or e h
      typed_selector _ h = tt

      typed_or : (e : LogicalOr) → IsTypedOr signature e → IsTypedOr signature (bound_or value e)
      typed_or no_or h = tt
      typed_or (or a more) h = (typed_and a h.0, typed_or more h.1)

      typed_and : (e : LogicalAnd) → IsTypedAnd signature e → IsTypedAnd signature (bound_and value e)
      typed_and no_and h = tt
      typed_and (and b more) h = (typed_basic b h.0, typed_and more h.1)

      typed_basic : (b : Basic) → IsTypedBasic signature b → IsTypedBasic signature (bound_basic value b)
      typed_basic (paren negated e) h = typed_or e h
      typed_basic (relation a op b) h = (typed_comparable a h.0, typed_comparable b h.1)
      typed_basic (test negated o) h = typed_operand o of_logical h

      typed_comparable : (a : Operand) → IsTypedComparable signature a → IsTypedComparable signature (bound_operand value a)
      typed_comparable (literal l) h = tt
      typed_comparable (queried (query kind segs)) h = (typed_segments segs h.0, are_singular_bound segs h.1)
      typed_comparable (called c) h = (typed_call c h.0, kind_stays c ∙ h.1)

      typed_call : (c : Call) → IsTypedCall signature c → IsTypedCall signature (bound_call value c)
      typed_call (call f args) h = (h.0, h.1, typed_arguments args h.0.params h.2)

      typed_arguments : (args : Arguments) (kinds : List Kind) → AreTypedArguments signature args kinds → AreTypedArguments signature (bound_arguments value args) kinds
      typed_arguments no_arguments kinds h = h
      typed_arguments (argument a more) [] h = h
      typed_arguments (argument a more) (kind ∷ kinds) h = (typed_argument a kind h.0, typed_arguments more kinds h.1)

      typed_argument : (a : Argument) (kind : Kind) → IsTypedArgument signature a kind → IsTypedArgument signature (bound_argument value a) kind
      typed_argument (operand o) kind h = typed_operand o kind h
      typed_argument (logical_argument e) of_logical h = typed_or e h
      typed_argument (logical_argument e) of_value h = h
      typed_argument (logical_argument e) of_nodes h = h

      typed_operand : (o : Operand) (kind : Kind) → IsTypedOperand signature o kind → IsTypedOperand signature (bound_operand value o) kind
      typed_operand (literal l) of_value h = tt
      typed_operand (literal l) of_nodes h = h
      typed_operand (literal l) of_logical h = h
      typed_operand (queried (query kind segs)) of_value h = (typed_segments segs h.0, are_singular_bound segs h.1)
      typed_operand (queried (query kind segs)) of_nodes h = typed_segments segs h
      typed_operand (queried (query kind segs)) of_logical h = typed_segments segs h
      typed_operand (called c) kind h = (typed_call c h.0, rw (kind_stays c) h.1)

  -- ---- they are as deep

  mutual
    pub depth_stays : (q : Query) → depth (bound value q) ≡ depth q
    depth_stays (query kind segs) = deep_segments segs

    deep_segments : (segs : Segments) → segments_depth (bound_segments value segs) ≡ segments_depth segs
    deep_segments no_segments = refl
    deep_segments (segment kind seg more) = rw (deep_segment seg, deep_segments more)

    deep_segment : (seg : Segment) → segment_depth (bound_segment value seg) ≡ segment_depth seg
    deep_segment (long_hand sels) = deep_selectors sels
    deep_segment _ = refl

    deep_selectors : (sels : Selectors) → selectors_depth (bound_selectors value sels) ≡ selectors_depth sels
    deep_selectors no_selectors = refl
    deep_selectors (selector sel more) = rw (deep_selector sel, deep_selectors more)

    deep_selector : (sel : Selector) → selector_depth (bound_selector value sel) ≡ selector_depth sel
    deep_selector (filter e) = rw (deep_or e)
    deep_selector _ = refl

    deep_or : (e : LogicalOr) → or_depth (bound_or value e) ≡ or_depth e
    deep_or no_or = refl
    deep_or (or a more) = rw (deep_and a, deep_or more)

    deep_and : (e : LogicalAnd) → and_depth (bound_and value e) ≡ and_depth e
    deep_and no_and = refl
    deep_and (and b more) = rw (deep_basic b, deep_and more)

    deep_basic : (b : Basic) → basic_depth (bound_basic value b) ≡ basic_depth b
    deep_basic (paren negated e) = rw (deep_or e)
    deep_basic (relation a op b) = rw (deep_operand a, deep_operand b)
    deep_basic (test negated o) = deep_operand o

    deep_operand : (o : Operand) → operand_depth (bound_operand value o) ≡ operand_depth o
    deep_operand (literal l) = refl
    deep_operand (queried q) = depth_stays q
    deep_operand (called c) = deep_call c

    deep_call : (c : Call) → call_depth (bound_call value c) ≡ call_depth c
    deep_call (call f args) = rw (deep_arguments args)

    deep_arguments : (args : Arguments) → arguments_depth (bound_arguments value args) ≡ arguments_depth args
    deep_arguments no_arguments = refl
    deep_arguments (argument a more) = rw (deep_argument a, deep_arguments more)

    deep_argument : (a : Argument) → argument_depth (bound_argument value a) ≡ argument_depth a
    deep_argument (operand o) = deep_operand o
    deep_argument (logical_argument e) = deep_or e

  -- ---- they call the same names

  -- the names of two lists of calls joined
  names_of_both : (xs ys us vs : List Call) → names_of xs ≡ names_of us → names_of ys ≡ names_of vs → names_of (xs ++ ys) ≡ names_of (us ++ vs)
  names_of_both xs ys us vs e f = rw (map-append, map-append, e, f)

  mutual
    pub names_stay : (q : Query) → names_of (calls_of (bound value q)) ≡ names_of (calls_of q)
    names_stay (query kind segs) = names_segments segs

    names_segments : (segs : Segments) → names_of (calls_in_segments (bound_segments value segs)) ≡ names_of (calls_in_segments segs)
    names_segments no_segments = refl
    names_segments (segment kind seg more) = names_of_both _ _ _ _ (names_segment seg) (names_segments more)

    names_segment : (seg : Segment) → names_of (calls_in_segment (bound_segment value seg)) ≡ names_of (calls_in_segment seg)
    names_segment (long_hand sels) = names_selectors sels
    names_segment _ = refl

    names_selectors : (sels : Selectors) → names_of (calls_in_selectors (bound_selectors value sels)) ≡ names_of (calls_in_selectors sels)
    names_selectors no_selectors = refl
    names_selectors (selector sel more) = names_of_both _ _ _ _ (names_selector sel) (names_selectors more)

    names_selector : (sel : Selector) → names_of (calls_in_selector (bound_selector value sel)) ≡ names_of (calls_in_selector sel)
    names_selector (filter e) = names_or e
    names_selector _ = refl

    names_or : (e : LogicalOr) → names_of (calls_in_or (bound_or value e)) ≡ names_of (calls_in_or e)
    names_or no_or = refl
    names_or (or a more) = names_of_both _ _ _ _ (names_and a) (names_or more)

    names_and : (e : LogicalAnd) → names_of (calls_in_and (bound_and value e)) ≡ names_of (calls_in_and e)
    names_and no_and = refl
    names_and (and b more) = names_of_both _ _ _ _ (names_basic b) (names_and more)

    names_basic : (b : Basic) → names_of (calls_in_basic (bound_basic value b)) ≡ names_of (calls_in_basic b)
    names_basic (paren negated e) = names_or e
    names_basic (relation a op b) = names_of_both _ _ _ _ (names_operand a) (names_operand b)
    names_basic (test negated o) = names_operand o

    names_operand : (o : Operand) → names_of (calls_in_operand (bound_operand value o)) ≡ names_of (calls_in_operand o)
    names_operand (literal l) = refl
    names_operand (queried q) = names_stay q
    names_operand (called c) = names_call c

    names_call : (c : Call) → names_of (calls_from (bound_call value c)) ≡ names_of (calls_from c)
    names_call (call f args) = names_of_both _ _ _ _ (names_arguments args) refl

    names_arguments : (args : Arguments) → names_of (calls_in_arguments (bound_arguments value args)) ≡ names_of (calls_in_arguments args)
    names_arguments no_arguments = refl
    names_arguments (argument a more) = names_of_both _ _ _ _ (names_argument a) (names_arguments more)

    names_argument : (a : Argument) → names_of (calls_in_argument (bound_argument value a)) ≡ names_of (calls_in_argument a)
    names_argument (operand o) = names_operand o
    names_argument (logical_argument e) = names_or e

  -- ---- of a finished query

  pub root_stays : (q : Query) → kind_of (bound value q) ≡ kind_of q
  root_stays (query kind segs) = refl

  pub called_stay : (used : List (List ℕ × Signature)) (q : Query) → AreCalled used q → AreCalled used (bound value q)
  called_stay used q h = (h.0, λ f. subst (λ names. IsIn f (names_in used) ↔ IsIn f names) (sym (names_stay q)) (h.1 f))

  -- ---- where each text stands for itself, a query stays as it is

  module _ (same : (t : List ℕ) → value t ≡ t) where
    same_literal : (l : Literal) → bound_literal value l ≡ l
    same_literal (text t) = rw (same t)
    same_literal _ = refl

    mutual
      pub same_bound : (q : Query) → bound value q ≡ q
      same_bound (query kind segs) = rw (same_segments segs)

      same_segments : (segs : Segments) → bound_segments value segs ≡ segs
      same_segments no_segments = refl
      same_segments (segment kind seg more) = rw (same_segment seg, same_segments more)

      same_segment : (seg : Segment) → bound_segment value seg ≡ seg
      same_segment (long_hand sels) = rw (same_selectors sels)
      same_segment _ = refl

      same_selectors : (sels : Selectors) → bound_selectors value sels ≡ sels
      same_selectors no_selectors = refl
      same_selectors (selector sel more) = rw (same_selector sel, same_selectors more)

      same_selector : (sel : Selector) → bound_selector value sel ≡ sel
      same_selector (filter e) = rw (same_or e)
      same_selector _ = refl

      same_or : (e : LogicalOr) → bound_or value e ≡ e
      same_or no_or = refl
      same_or (or a more) = rw (same_and a, same_or more)

      same_and : (e : LogicalAnd) → bound_and value e ≡ e
      same_and no_and = refl
      same_and (and b more) = rw (same_basic b, same_and more)

      same_basic : (b : Basic) → bound_basic value b ≡ b
      same_basic (paren negated e) = rw (same_or e)
      same_basic (relation a op b) = rw (same_operand a, same_operand b)
      same_basic (test negated o) = rw (same_operand o)

      same_operand : (o : Operand) → bound_operand value o ≡ o
      same_operand (literal l) = rw (same_literal l)
      same_operand (queried q) = rw (same_bound q)
      same_operand (called c) = rw (same_call c)

      same_call : (c : Call) → bound_call value c ≡ c
      same_call (call f args) = rw (same_arguments args)

      same_arguments : (args : Arguments) → bound_arguments value args ≡ args
      same_arguments no_arguments = refl
      same_arguments (argument a more) = rw (same_argument a, same_arguments more)

      same_argument : (a : Argument) → bound_argument value a ≡ a
      same_argument (operand o) = rw (same_operand o)
      same_argument (logical_argument e) = rw (same_or e)
