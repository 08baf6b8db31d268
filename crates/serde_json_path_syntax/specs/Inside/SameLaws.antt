-- The test of two trees is true exactly where they are equal, so it is an equivalence.
use Rattle.std.specs.Prelude.{◌≡◌, ℤ, true, Option, Some, None, refl}
use Rattle.std.specs.Bool.{Decides}
use Rattle.std.specs.Cmp.{IsEquivalence, booleans_Decides, signed_Decides}
use Rattle.std.specs.Cmp.Lexicographic.{bytes_decides}
use Rattle.std.specs.Option.{option_eq}
use Rattle.std.specs.Ordering.{int_eq}
use Rattle.std.proofs.Common.{◌∙◌, ap, sym}
use Rattle.std.proofs.lemmas.Cmp.{on_equiv}
use Rattle.std.proofs.lemmas.Bool.Decides.{Decides-and, Decides-eqb, Decides-like, same_from_decides}
use Rattle.serde_json_path_numbers.specs.Decimals.{Decimal, decimal_of}
use Rattle.serde_json_path_syntax.specs.Tree.{QueryKind, root, current, SegmentKind, child, descendant, Slice, Operator, equal, not_equal, less, less_or_equal, greater, greater_or_equal, Literal, text, number, decimal, truth, null, Query, query, Segments, no_segments, segment, Segment, dot_name, dot_wildcard, long_hand, Selectors, no_selectors, selector, Selector, name, wildcard, index, slice, filter, LogicalOr, no_or, or, LogicalAnd, no_and, and, Basic, paren, relation, test, Operand, literal, queried, called, Call, call, Arguments, no_arguments, argument, Argument, operand, logical_argument}
use Rattle.serde_json_path_syntax.specs.Parts.{tree_of}
use Rattle.serde_json_path_syntax.specs.declared.checked.Checked.{Checked}
use Rattle.serde_json_path_syntax.specs.SameTree.{same_query_kind, same_segment_kind, same_slice, same_operator, same_decimal, same_literal, same_query, same_segments, same_segment, same_selectors, same_selector, same_or, same_and, same_basic, same_operand, same_call, same_arguments, same_argument}

-- ---- what has no parts of its own

Decides-same_query_kind : (a b : QueryKind) → Decides (same_query_kind a b) (a ≡ b)
Decides-same_query_kind root root = (λ h. refl, λ e. refl)
Decides-same_query_kind current current = (λ h. refl, λ e. refl)
Decides-same_query_kind _ _ = (λ h. cc, λ e. cc)

Decides-same_segment_kind : (a b : SegmentKind) → Decides (same_segment_kind a b) (a ≡ b)
Decides-same_segment_kind child child = (λ h. refl, λ e. refl)
Decides-same_segment_kind descendant descendant = (λ h. refl, λ e. refl)
Decides-same_segment_kind _ _ = (λ h. cc, λ e. cc)

Decides-same_operator : (a b : Operator) → Decides (same_operator a b) (a ≡ b)
Decides-same_operator equal equal = (λ h. refl, λ e. refl)
Decides-same_operator not_equal not_equal = (λ h. refl, λ e. refl)
Decides-same_operator less less = (λ h. refl, λ e. refl)
Decides-same_operator less_or_equal less_or_equal = (λ h. refl, λ e. refl)
Decides-same_operator greater greater = (λ h. refl, λ e. refl)
Decides-same_operator greater_or_equal greater_or_equal = (λ h. refl, λ e. refl)
Decides-same_operator _ _ = (λ h. cc, λ e. cc)

Decides-same_integer : (a b : Option ℤ) → Decides (option_eq int_eq a b) (a ≡ b)
Decides-same_integer None None = (λ h. refl, λ e. refl)
Decides-same_integer (Some i) (Some j) = Decides-like (int_eq i j) (ap Some) (λ e. cc) (signed_Decides i j)
Decides-same_integer _ _ = (λ h. cc, λ e. cc)

same_parts : (a b : Slice) → a.start ≡ b.start → a.end ≡ b.end → a.step ≡ b.step → a ≡ b
same_parts a b start end step =
    let make : Option ℤ → Option ℤ → Option ℤ → Slice = λ (x y z : Option ℤ). record { start = x; end = y; step = z } in
    ap (λ x. make x a.end a.step) start ∙ ap (λ y. make b.start y a.step) end ∙ ap (λ z. make b.start b.end z) step

Decides-same_slice : (a b : Slice) → Decides (same_slice a b) (a ≡ b)
Decides-same_slice a b =
    Decides-like (same_slice a b) (λ h. same_parts a b h.0.0 h.0.1 h.1)
    (λ e. ((ap (λ (s : Slice). s.start) e, ap (λ (s : Slice). s.end) e), ap (λ (s : Slice). s.step) e))
    (Decides-and _ _ (Decides-and _ _ (Decides-same_integer a.start b.start) (Decides-same_integer a.end b.end)) (Decides-same_integer a.step b.step))

same_fields : (a b : Decimal) → a.negative ≡ b.negative → a.digits ≡ b.digits → a.exponent ≡ b.exponent → a ≡ b
same_fields a b negative digits exponent = ap (λ s. decimal_of s a.digits a.exponent) negative ∙ ap (λ n. decimal_of b.negative n a.exponent) digits ∙ ap (λ e. decimal_of b.negative b.digits e) exponent

Decides-same_decimal : (a b : Decimal) → Decides (same_decimal a b) (a ≡ b)
Decides-same_decimal a b =
    Decides-like (same_decimal a b) (λ h. same_fields a b h.0 h.1.0 h.1.1)
    (λ e. (ap (λ (d : Decimal). d.negative) e, (ap (λ (d : Decimal). d.digits) e, ap (λ (d : Decimal). d.exponent) e)))
    (Decides-and _ _ (booleans_Decides a.negative b.negative) (Decides-and _ _ (Decides-eqb a.digits b.digits) (signed_Decides a.exponent b.exponent)))

Decides-same_literal : (a b : Literal) → Decides (same_literal a b) (a ≡ b)
Decides-same_literal (text a) (text b) = Decides-like _ (ap text) (λ e. cc) (bytes_decides a b)
Decides-same_literal (number a) (number b) = Decides-like _ (ap number) (λ e. cc) (signed_Decides a b)
Decides-same_literal (decimal a) (decimal b) = Decides-like _ (ap decimal) (λ e. cc) (Decides-same_decimal a b)
Decides-same_literal (truth a) (truth b) = Decides-like _ (ap truth) (λ e. cc) (booleans_Decides a b)
Decides-same_literal null null = (λ h. refl, λ e. refl)
Decides-same_literal _ _ = (λ h. cc, λ e. cc)

-- ---- trees

mutual
  pub Decides-same_query : (a b : Query) → Decides (same_query a b) (a ≡ b)
  Decides-same_query (query k segs) (query l more) =
      Decides-like _ (λ h. cc) (λ e. (cc, cc)) (Decides-and _ _ (Decides-same_query_kind k l) (Decides-same_segments segs more))

  Decides-same_segments : (a b : Segments) → Decides (same_segments a b) (a ≡ b)
  Decides-same_segments no_segments no_segments = (λ h. refl, λ e. refl)
  Decides-same_segments (segment k s segs) (segment l t more) =
      Decides-like _ (λ h. cc) (λ e. ((cc, cc), cc)) (Decides-and _ _ (Decides-and _ _ (Decides-same_segment_kind k l) (Decides-same_segment s t)) (Decides-same_segments segs more))
  Decides-same_segments _ _ = (λ h. cc, λ e. cc)

  Decides-same_segment : (a b : Segment) → Decides (same_segment a b) (a ≡ b)
  Decides-same_segment (dot_name a) (dot_name b) = Decides-like _ (ap dot_name) (λ e. cc) (bytes_decides a b)
  Decides-same_segment dot_wildcard dot_wildcard = (λ h. refl, λ e. refl)
  Decides-same_segment (long_hand a) (long_hand b) = Decides-like _ (ap long_hand) (λ e. cc) (Decides-same_selectors a b)
  Decides-same_segment _ _ = (λ h. cc, λ e. cc)

  Decides-same_selectors : (a b : Selectors) → Decides (same_selectors a b) (a ≡ b)
  Decides-same_selectors no_selectors no_selectors = (λ h. refl, λ e. refl)
  Decides-same_selectors (selector s sels) (selector t more) =
      Decides-like _ (λ h. cc) (λ e. (cc, cc)) (Decides-and _ _ (Decides-same_selector s t) (Decides-same_selectors sels more))
  Decides-same_selectors _ _ = (λ h. cc, λ e. cc)

  Decides-same_selector : (a b : Selector) → Decides (same_selector a b) (a ≡ b)
  Decides-same_selector (name a) (name b) = Decides-like _ (ap name) (λ e. cc) (bytes_decides a b)
  Decides-same_selector wildcard wildcard = (λ h. refl, λ e. refl)
  Decides-same_selector (index i) (index j) = Decides-like _ (ap index) (λ e. cc) (signed_Decides i j)
  Decides-same_selector (slice a) (slice b) = Decides-like _ (ap slice) (λ e. cc) (Decides-same_slice a b)
  Decides-same_selector (filter a) (filter b) = Decides-like _ (ap filter) (λ e. cc) (Decides-same_or a b)
  Decides-same_selector _ _ = (λ h. cc, λ e. cc)

  Decides-same_or : (a b : LogicalOr) → Decides (same_or a b) (a ≡ b)
  Decides-same_or no_or no_or = (λ h. refl, λ e. refl)
  Decides-same_or (or a rest) (or b more) =
      Decides-like _ (λ h. cc) (λ e. (cc, cc)) (Decides-and _ _ (Decides-same_and a b) (Decides-same_or rest more))
  Decides-same_or _ _ = (λ h. cc, λ e. cc)

  Decides-same_and : (a b : LogicalAnd) → Decides (same_and a b) (a ≡ b)
  Decides-same_and no_and no_and = (λ h. refl, λ e. refl)
  Decides-same_and (and a rest) (and b more) =
      Decides-like _ (λ h. cc) (λ e. (cc, cc)) (Decides-and _ _ (Decides-same_basic a b) (Decides-same_and rest more))
  Decides-same_and _ _ = (λ h. cc, λ e. cc)

  Decides-same_basic : (a b : Basic) → Decides (same_basic a b) (a ≡ b)
  Decides-same_basic (paren n a) (paren m b) = Decides-like _ (λ h. cc) (λ e. (cc, cc)) (Decides-and _ _ (booleans_Decides n m) (Decides-same_or a b))
  Decides-same_basic (relation a op b) (relation c other d) =
      Decides-like _ (λ h. cc) (λ e. ((cc, cc), cc)) (Decides-and _ _ (Decides-and _ _ (Decides-same_operator op other) (Decides-same_operand a c)) (Decides-same_operand b d))
  Decides-same_basic (test n a) (test m b) = Decides-like _ (λ h. cc) (λ e. (cc, cc)) (Decides-and _ _ (booleans_Decides n m) (Decides-same_operand a b))
  Decides-same_basic _ _ = (λ h. cc, λ e. cc)

  Decides-same_operand : (a b : Operand) → Decides (same_operand a b) (a ≡ b)
  Decides-same_operand (literal a) (literal b) = Decides-like _ (ap literal) (λ e. cc) (Decides-same_literal a b)
  Decides-same_operand (queried a) (queried b) = Decides-like _ (ap queried) (λ e. cc) (Decides-same_query a b)
  Decides-same_operand (called a) (called b) = Decides-like _ (ap called) (λ e. cc) (Decides-same_call a b)
  Decides-same_operand _ _ = (λ h. cc, λ e. cc)

  Decides-same_call : (a b : Call) → Decides (same_call a b) (a ≡ b)
  Decides-same_call (call f args) (call g more) =
      Decides-like _ (λ h. cc) (λ e. (cc, cc)) (Decides-and _ _ (bytes_decides f g) (Decides-same_arguments args more))

  Decides-same_arguments : (a b : Arguments) → Decides (same_arguments a b) (a ≡ b)
  Decides-same_arguments no_arguments no_arguments = (λ h. refl, λ e. refl)
  Decides-same_arguments (argument a args) (argument b more) =
      Decides-like _ (λ h. cc) (λ e. (cc, cc)) (Decides-and _ _ (Decides-same_argument a b) (Decides-same_arguments args more))
  Decides-same_arguments _ _ = (λ h. cc, λ e. cc)

  Decides-same_argument : (a b : Argument) → Decides (same_argument a b) (a ≡ b)
  Decides-same_argument (operand a) (operand b) = Decides-like _ (ap operand) (λ e. cc) (Decides-same_operand a b)
  Decides-same_argument (logical_argument a) (logical_argument b) = Decides-like _ (ap logical_argument) (λ e. cc) (Decides-same_or a b)
  Decides-same_argument _ _ = (λ h. cc, λ e. cc)

same_query-refl : (q : Query) → same_query q q ≡ true
same_query-refl q = (Decides-same_query q q).1 refl

pub same_query-equiv : IsEquivalence same_query
same_query-equiv = record {
  refl = same_query-refl;
  symm = λ a b. same_from_decides (same_query a b) (same_query b a) (Decides-same_query a b)
      (Decides-like (same_query b a) (λ e. sym e) (λ e. sym e) (Decides-same_query b a));
  congr = λ a b c h. ap (λ q. same_query q c) ((Decides-same_query a b).0 h);
}

-- the same of finished queries
pub same_trees-equiv : IsEquivalence (λ (mine theirs : Checked). same_query (tree_of mine) (tree_of theirs))
same_trees-equiv = on_equiv tree_of same_query-equiv
