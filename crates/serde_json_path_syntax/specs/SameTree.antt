-- Whether two trees are the same, as a computed test.
use Rattle.std.specs.Prelude.{Bool, true, false, ◌&&◌, nat_eq}
use Rattle.std.proofs.Math.Bool.{beq}
use Rattle.std.specs.Option.{option_eq}
use Rattle.std.specs.Ordering.{int_eq}
use Rattle.std.specs.Str.{bytes_eq}
use Rattle.serde_json_path_numbers.specs.Decimals.{Decimal}
use Rattle.serde_json_path_syntax.specs.Branch.{Branch, a_query, a_segment, a_selector, an_or, an_and, a_basic, an_operand, a_call}
use Rattle.serde_json_path_syntax.specs.Tree.{QueryKind, root, current, SegmentKind, child, descendant, Slice, Operator, equal, not_equal, less, less_or_equal, greater, greater_or_equal, Literal, text, number, decimal, truth, null, Query, query, Segments, no_segments, segment, Segment, dot_name, dot_wildcard, long_hand, Selectors, no_selectors, selector, Selector, name, wildcard, index, slice, filter, LogicalOr, no_or, or, LogicalAnd, no_and, and, Basic, paren, relation, test, Operand, literal, queried, called, Call, call, Arguments, no_arguments, argument, Argument, operand, logical_argument}

abbrev pub same_query_kind : QueryKind → QueryKind → Bool
same_query_kind root root = true
same_query_kind current current = true
same_query_kind _ _ = false

abbrev pub same_segment_kind : SegmentKind → SegmentKind → Bool
same_segment_kind child child = true
same_segment_kind descendant descendant = true
same_segment_kind _ _ = false

abbrev pub same_slice : Slice → Slice → Bool
same_slice a b = option_eq int_eq a.start b.start && option_eq int_eq a.end b.end && option_eq int_eq a.step b.step

abbrev pub same_operator : Operator → Operator → Bool
same_operator equal equal = true
same_operator not_equal not_equal = true
same_operator less less = true
same_operator less_or_equal less_or_equal = true
same_operator greater greater = true
same_operator greater_or_equal greater_or_equal = true
same_operator _ _ = false

abbrev pub same_decimal : Decimal → Decimal → Bool
same_decimal a b = beq a.negative b.negative && (nat_eq a.digits b.digits && int_eq a.exponent b.exponent)

abbrev pub same_literal : Literal → Literal → Bool
same_literal (text a) (text b) = bytes_eq a b
same_literal (number a) (number b) = int_eq a b
same_literal (decimal a) (decimal b) = same_decimal a b
same_literal (truth a) (truth b) = beq a b
same_literal null null = true
same_literal _ _ = false

abbrev mutual
  pub same_query : Query → Query → Bool
  same_query (query k segs) (query l more) = same_query_kind k l && same_segments segs more

  pub same_segments : Segments → Segments → Bool
  same_segments no_segments no_segments = true
  same_segments (segment k s segs) (segment l t more) = (same_segment_kind k l && same_segment s t) && same_segments segs more
  same_segments _ _ = false

  pub same_segment : Segment → Segment → Bool
  same_segment (dot_name a) (dot_name b) = bytes_eq a b
  same_segment dot_wildcard dot_wildcard = true
  same_segment (long_hand a) (long_hand b) = same_selectors a b
  same_segment _ _ = false

  pub same_selectors : Selectors → Selectors → Bool
  same_selectors no_selectors no_selectors = true
  same_selectors (selector s sels) (selector t more) = same_selector s t && same_selectors sels more
  same_selectors _ _ = false

  pub same_selector : Selector → Selector → Bool
  same_selector (name a) (name b) = bytes_eq a b
  same_selector wildcard wildcard = true
  same_selector (index i) (index j) = int_eq i j
  same_selector (slice a) (slice b) = same_slice a b
  same_selector (filter a) (filter b) = same_or a b
  same_selector _ _ = false

  pub same_or : LogicalOr → LogicalOr → Bool
  same_or no_or no_or = true
  same_or (or a rest) (or b more) = same_and a b && same_or rest more
  same_or _ _ = false

  pub same_and : LogicalAnd → LogicalAnd → Bool
  same_and no_and no_and = true
  same_and (and a rest) (and b more) = same_basic a b && same_and rest more
  same_and _ _ = false

  pub same_basic : Basic → Basic → Bool
  same_basic (paren n a) (paren m b) = beq n m && same_or a b
  same_basic (relation a op b) (relation c other d) = (same_operator op other && same_operand a c) && same_operand b d
  same_basic (test n a) (test m b) = beq n m && same_operand a b
  same_basic _ _ = false

  pub same_operand : Operand → Operand → Bool
  same_operand (literal a) (literal b) = same_literal a b
  same_operand (queried a) (queried b) = same_query a b
  same_operand (called a) (called b) = same_call a b
  same_operand _ _ = false

  pub same_call : Call → Call → Bool
  same_call (call f args) (call g more) = bytes_eq f g && same_arguments args more

  pub same_arguments : Arguments → Arguments → Bool
  same_arguments no_arguments no_arguments = true
  same_arguments (argument a args) (argument b more) = same_argument a b && same_arguments args more
  same_arguments _ _ = false

  pub same_argument : Argument → Argument → Bool
  same_argument (operand a) (operand b) = same_operand a b
  same_argument (logical_argument a) (logical_argument b) = same_or a b
  same_argument _ _ = false

-- whether two branches are of one kind and the same
abbrev pub same_branch : Branch → Branch → Bool
same_branch (a_query q) (a_query r) = same_query q r
same_branch (a_segment k s) (a_segment l t) = same_segment_kind k l && same_segment s t
same_branch (a_selector s) (a_selector t) = same_selector s t
same_branch (an_or a) (an_or b) = same_or a b
same_branch (an_and a) (an_and b) = same_and a b
same_branch (a_basic a) (a_basic b) = same_basic a b
same_branch (an_operand a) (an_operand b) = same_operand a b
same_branch (a_call a) (a_call b) = same_call a b
same_branch _ _ = false
