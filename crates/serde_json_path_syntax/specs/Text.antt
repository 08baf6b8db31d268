-- The text in which a query is printed, as the bytes of its UTF-8.
use Rattle.std.specs.Prelude.{ℕ, zero, suc, ◌*◌, ◌/◌, ◌%◌, ◌==◌, ℤ, pos, negsuc, List, [], ◌∷◌, ◌++◌, Bool, true, false, Option, Some, None, codes, if◌then◌else◌}
use Rattle.std.specs.List.{flat_map}
use Rattle.std.specs.Fmt.{decimal, signed_decimal}
use Rattle.serde_json_path_nodes.specs.Text.{quoted}
use Rattle.serde_json_path_numbers.specs.Decimals.{decimal_text}
use Rattle.serde_json_path_syntax.specs.Branch.{Branch, a_query, a_segment, a_selector, an_or, an_and, a_basic, an_operand, a_call}
use Rattle.serde_json_path_syntax.specs.Tree as tree
use Rattle.serde_json_path_syntax.specs.Tree.{Query, query, QueryKind, root, current, Segments, no_segments, segment, SegmentKind, child, descendant, Segment, dot_name, dot_wildcard, long_hand, Selectors, no_selectors, selector, Selector, name, wildcard, index, slice, filter, Slice, LogicalOr, no_or, or, LogicalAnd, no_and, and, Basic, paren, relation, test, Operand, literal, queried, called, Call, call, Arguments, no_arguments, argument, Argument, operand, logical_argument, Operator, equal, not_equal, less, less_or_equal, greater, greater_or_equal, Literal, text, number, truth, null}

-- the digits of a fraction in billionths, up to the last that is not 0; a fraction has no more than nine
abbrev pub fraction_digits : ℕ → ℕ → List ℕ
fraction_digits zero rest = []
fraction_digits (suc places) rest =
    if rest == 0 then [] else (decimal (rest / 100000000) ++ fraction_digits places ((rest % 100000000) * 10))

-- a point and the fraction's digits, unless it is 0
abbrev pub fraction_text : ℕ → List ℕ
fraction_text rest = if rest == 0 then [] else (codes "." ++ fraction_digits 9 rest)

-- a number of billionths: its whole part in decimal, and its fraction
abbrev pub amount_text : ℕ → List ℕ
amount_text n = decimal (n / 1000000000) ++ fraction_text (n % 1000000000)

abbrev pub number_text : ℤ → List ℕ
number_text (pos n) = amount_text n
number_text (negsuc n) = codes "-" ++ amount_text (suc n)

abbrev pub literal_text : Literal → List ℕ
literal_text (text t) = quoted t
literal_text (number amount) = number_text amount
literal_text (tree.decimal d) = decimal_text d
literal_text (truth true) = codes "true"
literal_text (truth false) = codes "false"
literal_text null = codes "null"

abbrev pub operator_text : Operator → List ℕ
operator_text equal = codes "=="
operator_text not_equal = codes "!="
operator_text less = codes "<"
operator_text less_or_equal = codes "<="
operator_text greater = codes ">"
operator_text greater_or_equal = codes ">="

abbrev pub integer_text : Option ℤ → List ℕ
integer_text None = []
integer_text (Some i) = signed_decimal i

-- a step that is there comes after a second colon
abbrev pub slice_step_text : Option ℤ → List ℕ
slice_step_text None = []
slice_step_text (Some i) = codes ":" ++ signed_decimal i

abbrev pub slice_text : Slice → List ℕ
slice_text s = ((integer_text s.start ++ codes ":") ++ integer_text s.end) ++ slice_step_text s.step

abbrev pub query_kind_text : QueryKind → List ℕ
query_kind_text root = codes "$"
query_kind_text current = codes "@"

-- the sign of the query that begins there, if one does
abbrev pub sign_text : Option QueryKind → List ℕ
sign_text None = []
sign_text (Some kind) = query_kind_text kind

-- what stands before a name or `*`, and what before a bracket
abbrev pub dots_of : SegmentKind → List ℕ
dots_of child = codes "."
dots_of descendant = codes ".."

abbrev pub bracket_dots_of : SegmentKind → List ℕ
bracket_dots_of child = []
bracket_dots_of descendant = codes ".."

-- what stands before a parenthesis or a test
abbrev pub negation_text : Bool → List ℕ
negation_text true = codes "!"
negation_text false = []

-- texts, with a separator between each two
abbrev pub joined : List ℕ → List (List ℕ) → List ℕ
joined separator [] = []
joined separator (first ∷ more) = first ++ flat_map (λ t. separator ++ t) more

abbrev mutual
  pub query_text : Query → List ℕ
  query_text (query kind segs) = query_kind_text kind ++ segments_text segs

  pub segments_text : Segments → List ℕ
  segments_text no_segments = []
  segments_text (segment kind seg more) = segment_text seg kind ++ segments_text more

  pub segment_text : Segment → SegmentKind → List ℕ
  segment_text (dot_name k) kind = dots_of kind ++ k
  segment_text dot_wildcard kind = dots_of kind ++ codes "*"
  segment_text (long_hand sels) kind = ((bracket_dots_of kind ++ codes "[") ++ joined (codes ", ") (selector_texts sels)) ++ codes "]"

  pub selector_texts : Selectors → List (List ℕ)
  selector_texts no_selectors = []
  selector_texts (selector sel more) = selector_text sel ∷ selector_texts more

  pub selector_text : Selector → List ℕ
  selector_text (name k) = quoted k
  selector_text wildcard = codes "*"
  selector_text (index i) = signed_decimal i
  selector_text (slice s) = slice_text s
  selector_text (filter e) = codes "?" ++ or_text e

  pub or_text : LogicalOr → List ℕ
  or_text no_or = []
  or_text (or a more) = joined (codes " || ") (and_text a ∷ and_texts more)

  pub and_texts : LogicalOr → List (List ℕ)
  and_texts no_or = []
  and_texts (or a more) = and_text a ∷ and_texts more

  pub and_text : LogicalAnd → List ℕ
  and_text no_and = []
  and_text (and b more) = joined (codes " && ") (basic_text b ∷ basic_texts more)

  pub basic_texts : LogicalAnd → List (List ℕ)
  basic_texts no_and = []
  basic_texts (and b more) = basic_text b ∷ basic_texts more

  pub basic_text : Basic → List ℕ
  basic_text (paren negated e) = negation_text negated ++ ((codes "(" ++ or_text e) ++ codes ")")
  basic_text (relation a op b) = (((operand_text a ++ codes " ") ++ operator_text op) ++ codes " ") ++ operand_text b
  basic_text (test negated o) = negation_text negated ++ operand_text o

  pub operand_text : Operand → List ℕ
  operand_text (literal l) = literal_text l
  operand_text (queried q) = query_text q
  operand_text (called c) = call_text c

  pub call_text : Call → List ℕ
  call_text (call f args) = ((f ++ codes "(") ++ joined (codes ", ") (argument_texts args)) ++ codes ")"

  pub argument_texts : Arguments → List (List ℕ)
  argument_texts no_arguments = []
  argument_texts (argument a more) = argument_text a ∷ argument_texts more

  pub argument_text : Argument → List ℕ
  argument_text (operand o) = operand_text o
  argument_text (logical_argument e) = or_text e

-- the text of a branch of any kind
abbrev pub branch_text : Branch → List ℕ
branch_text (a_query q) = query_text q
branch_text (a_segment kind seg) = segment_text seg kind
branch_text (a_selector sel) = selector_text sel
branch_text (an_or e) = or_text e
branch_text (an_and e) = and_text e
branch_text (a_basic b) = basic_text b
branch_text (an_operand o) = operand_text o
branch_text (a_call c) = call_text c
