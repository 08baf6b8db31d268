-- How many filters, parentheses and calls stand within each other at most: the measure of this project's own limit.
use Rattle.std.specs.Prelude.{ℕ, ◌+◌, max}
use Rattle.serde_json_path_syntax.specs.Tree.{Query, query, Segments, no_segments, segment, Segment, dot_name, dot_wildcard, long_hand, Selectors, no_selectors, selector, Selector, name, wildcard, index, slice, filter, LogicalOr, no_or, or, LogicalAnd, no_and, and, Basic, paren, relation, test, Operand, literal, queried, called, Call, call, Arguments, no_arguments, argument, Argument, operand, logical_argument}

abbrev mutual
  pub depth : Query → ℕ
  depth (query kind segs) = segments_depth segs

  pub segments_depth : Segments → ℕ
  segments_depth no_segments = 0
  segments_depth (segment kind seg more) = max (segment_depth seg) (segments_depth more)

  pub segment_depth : Segment → ℕ
  segment_depth (dot_name k) = 0
  segment_depth dot_wildcard = 0
  segment_depth (long_hand sels) = selectors_depth sels

  pub selectors_depth : Selectors → ℕ
  selectors_depth no_selectors = 0
  selectors_depth (selector sel more) = max (selector_depth sel) (selectors_depth more)

  -- a filter counts
  pub selector_depth : Selector → ℕ
  selector_depth (filter e) = or_depth e + 1
  selector_depth (name k) = 0
  selector_depth wildcard = 0
  selector_depth (index i) = 0
  selector_depth (slice s) = 0

  pub or_depth : LogicalOr → ℕ
  or_depth no_or = 0
  or_depth (or a more) = max (and_depth a) (or_depth more)

  pub and_depth : LogicalAnd → ℕ
  and_depth no_and = 0
  and_depth (and b more) = max (basic_depth b) (and_depth more)

  -- a parenthesis counts
  pub basic_depth : Basic → ℕ
  basic_depth (paren negated e) = or_depth e + 1
  basic_depth (relation a op b) = max (operand_depth a) (operand_depth b)
  basic_depth (test negated o) = operand_depth o

  pub operand_depth : Operand → ℕ
  operand_depth (literal l) = 0
  operand_depth (queried q) = depth q
  operand_depth (called c) = call_depth c

  -- a call counts
  pub call_depth : Call → ℕ
  call_depth (call f args) = arguments_depth args + 1

  pub arguments_depth : Arguments → ℕ
  arguments_depth no_arguments = 0
  arguments_depth (argument a more) = max (argument_depth a) (arguments_depth more)

  pub argument_depth : Argument → ℕ
  argument_depth (operand o) = operand_depth o
  argument_depth (logical_argument e) = or_depth e
