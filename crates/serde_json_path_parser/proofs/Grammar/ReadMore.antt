-- What reads by whole numbers reads by all numbers, part by part.
use Rattle.serde_json_path_parser.proofs.Words.{arith, common_steps, billionths, Query, query, Segments, no_segments, segment, SegmentKind, Segment, long_hand, Selectors, no_selectors, selector, Selector, filter, LogicalOr, no_or, or, LogicalAnd, no_and, and, Basic, paren, relation, test, Operand, literal, queried, called, call, Arguments, no_arguments, argument, Argument, operand, logical_argument, Literal, number, whole_numbers, all_numbers, MayBeArgument, Reads, ReadSegments, ReadsSegment, ReadMoreSelectors, ReadsSelector, ReadsOr, ReadMoreOrs, ReadsAnd, ReadMoreAnds, ReadsBasic, ReadsOperand, ReadMoreArguments, ReadsArgument, Negated, IsLiteral, ℕ, List, Bool, AllNumbersReadMore, decimal_literal}
use Rattle.serde_json_path_parser.proofs.Grammar.Numerals.{as_numeral}

literal_more : (l : Literal) (t : List ℕ) → IsLiteral whole_numbers l t → IsLiteral all_numbers l t
literal_more (number b) t h = as_numeral whole_numbers t (billionths b) h
literal_more (decimal_literal d) t h = absurd h
literal_more _ t h = h

-- by all numbers each operand may be an argument
any_argument : (o : Operand) → MayBeArgument all_numbers o
any_argument o = grind (arith, common_steps)

negated_more : {Is More : List ℕ → Type 0} (negated : Bool) (t : List ℕ) → ((a : List ℕ) → Is a → More a) → Negated negated Is t → Negated negated More t
negated_more negated t more h = grind (arith, common_steps)

mutual
  query_more : (q : Query) (t : List ℕ) → Reads whole_numbers q t → Reads all_numbers q t
  query_more (query kind segs) t (a, is, e) = (a, segments_more segs a is, e)

  segments_more : (segs : Segments) (t : List ℕ) → ReadSegments whole_numbers segs t → ReadSegments all_numbers segs t
  segments_more no_segments t h = h
  segments_more (segment kind seg more) t (k, a, b, blank, is, are, e) = (k, a, b, blank, segment_more seg kind a is, segments_more more b are, e)

  segment_more : (seg : Segment) (kind : SegmentKind) (t : List ℕ) → ReadsSegment whole_numbers seg kind t → ReadsSegment all_numbers seg kind t
  segment_more (long_hand no_selectors) kind t (j, a, k, before, none, after, e) = absurd none
  segment_more (long_hand (selector sel more)) kind t (j, a, k, before, (b, c, is, are, split), after, e) = (j, a, k, before, (b, c, selector_more sel b is, further_selectors more c are, split), after, e)
  segment_more _ kind t h = h

  further_selectors : (sels : Selectors) (t : List ℕ) → ReadMoreSelectors whole_numbers sels t → ReadMoreSelectors all_numbers sels t
  further_selectors no_selectors t h = h
  further_selectors (selector sel more) t (s, a, b, sign, is, are, e) = (s, a, b, sign, selector_more sel a is, further_selectors more b are, e)

  selector_more : (sel : Selector) (t : List ℕ) → ReadsSelector whole_numbers sel t → ReadsSelector all_numbers sel t
  selector_more (filter x) t (k, a, blank, is, e) = (k, a, blank, or_more x a is, e)
  selector_more _ t h = h

  or_more : (x : LogicalOr) (t : List ℕ) → ReadsOr whole_numbers x t → ReadsOr all_numbers x t
  or_more no_or t h = h
  or_more (or part more) t (a, b, is, are, e) = (a, b, and_more part a is, further_ors more b are, e)

  further_ors : (x : LogicalOr) (t : List ℕ) → ReadMoreOrs whole_numbers x t → ReadMoreOrs all_numbers x t
  further_ors no_or t h = h
  further_ors (or part more) t (s, a, b, sign, is, are, e) = (s, a, b, sign, and_more part a is, further_ors more b are, e)

  and_more : (x : LogicalAnd) (t : List ℕ) → ReadsAnd whole_numbers x t → ReadsAnd all_numbers x t
  and_more no_and t h = h
  and_more (and part more) t (a, b, is, are, e) = (a, b, basic_more part a is, further_ands more b are, e)

  further_ands : (x : LogicalAnd) (t : List ℕ) → ReadMoreAnds whole_numbers x t → ReadMoreAnds all_numbers x t
  further_ands no_and t h = h
  further_ands (and part more) t (s, a, b, sign, is, are, e) = (s, a, b, sign, basic_more part a is, further_ands more b are, e)

  basic_more : (x : Basic) (t : List ℕ) → ReadsBasic whole_numbers x t → ReadsBasic all_numbers x t
  basic_more (paren negated x) t h = negated_more negated t (λ t (j, a, k, before, is, after, e). (j, a, k, before, or_more x a is, after, e)) h
  basic_more (relation left op right) t (a, s, b, x, sign, y, e) = (a, s, b, operand_more left a x, sign, operand_more right b y, e)
  basic_more (test negated o) t h = negated_more negated t (λ t is. operand_more o t is) h

  operand_more : (o : Operand) (t : List ℕ) → ReadsOperand whole_numbers o t → ReadsOperand all_numbers o t
  operand_more (literal l) t h = literal_more l t h
  operand_more (queried q) t h = query_more q t h
  operand_more (called (call f no_arguments)) t h = h
  operand_more (called (call f (argument x more))) t (n, j, a, k, is, before, (b, c, first, are, split), after, e) = (n, j, a, k, is, before, (b, c, argument_more x b first, further_arguments more c are, split), after, e)

  further_arguments : (args : Arguments) (t : List ℕ) → ReadMoreArguments whole_numbers args t → ReadMoreArguments all_numbers args t
  further_arguments no_arguments t h = h
  further_arguments (argument x more) t (s, a, b, sign, is, are, e) = (s, a, b, sign, argument_more x a is, further_arguments more b are, e)

  argument_more : (x : Argument) (t : List ℕ) → ReadsArgument whole_numbers x t → ReadsArgument all_numbers x t
  argument_more (operand o) t h = (any_argument o, operand_more o t h.1)
  argument_more (logical_argument x) t h = (h.0, or_more x t h.1)

pub all_numbers_read_more : AllNumbersReadMore
all_numbers_read_more signature t q h = record { reads = query_more q t h.reads; from_root = h.from_root; typed = h.typed; within_depth = h.within_depth }
