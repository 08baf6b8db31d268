-- Syntax trees (RFC 9535, sections 2.1 to 2.5). Names and texts are the bytes of their UTF-8.
use Rattle.std.specs.Prelude.{ℕ, ℤ, pos, ◌-ℤ◌, ◌≤ℤ◌, List, Bool, Option}
use Rattle.serde_json_path_numbers.specs.Decimals.{Decimal}

-- where a query begins: `$` or `@`
pub data QueryKind : Type 0 where
  root : QueryKind
  current : QueryKind

-- a segment of one level down, or of any level down
pub data SegmentKind : Type 0 where
  child : SegmentKind
  descendant : SegmentKind

-- the greatest index, 2 ^ 53 - 1
abbrev pub largest : ℕ
largest = 9007199254740991

-- an index, or a part of a slice (section 2.1)
abbrev pub IsInteger : ℤ → Type 0
IsInteger i = ((pos 0 -ℤ pos largest) ≤ℤ i) × (i ≤ℤ pos largest)

-- the parts of a slice, each of which may be missing
pub record Slice : Type 0 where
  pub start : Option ℤ
  pub end : Option ℤ
  pub step : Option ℤ

-- `==`, `!=`, `<`, `<=`, `>` and `>=`
pub data Operator : Type 0 where
  equal : Operator
  not_equal : Operator
  less : Operator
  less_or_equal : Operator
  greater : Operator
  greater_or_equal : Operator

-- a number is a whole number of billionths: 1.5 is 1500000000; by all numbers one that is not is the double nearest to it
pub data Literal : Type 0 where
  text : List ℕ → Literal
  number : ℤ → Literal
  decimal : Decimal → Literal
  truth : Bool → Literal
  null : Literal

mutual
  pub data Query : Type 0 where
    query : QueryKind → Segments → Query

  pub data Segments : Type 0 where
    no_segments : Segments
    segment : SegmentKind → Segment → Segments → Segments

  -- `name`, `*`, and selectors in brackets
  pub data Segment : Type 0 where
    dot_name : List ℕ → Segment
    dot_wildcard : Segment
    long_hand : Selectors → Segment

  pub data Selectors : Type 0 where
    no_selectors : Selectors
    selector : Selector → Selectors → Selectors

  pub data Selector : Type 0 where
    name : List ℕ → Selector
    wildcard : Selector
    index : ℤ → Selector
    slice : Slice → Selector
    filter : LogicalOr → Selector

  -- parts joined by `||`
  pub data LogicalOr : Type 0 where
    no_or : LogicalOr
    or : LogicalAnd → LogicalOr → LogicalOr

  -- parts joined by `&&`
  pub data LogicalAnd : Type 0 where
    no_and : LogicalAnd
    and : Basic → LogicalAnd → LogicalAnd

  -- a parenthesis, a comparison or a test; `!` stands before a parenthesis or a test that is negated
  pub data Basic : Type 0 where
    paren : Bool → LogicalOr → Basic
    relation : Operand → Operator → Operand → Basic
    test : Bool → Operand → Basic

  -- what is compared, tested or an argument
  pub data Operand : Type 0 where
    literal : Literal → Operand
    queried : Query → Operand
    called : Call → Operand

  -- a function's name and its arguments
  pub data Call : Type 0 where
    call : List ℕ → Arguments → Call

  pub data Arguments : Type 0 where
    no_arguments : Arguments
    argument : Argument → Arguments → Arguments

  pub data Argument : Type 0 where
    operand : Operand → Argument
    logical_argument : LogicalOr → Argument

abbrev pub kind_of : Query → QueryKind
kind_of (query kind segs) = kind

abbrev pub segments_of : Query → Segments
segments_of (query kind segs) = segs

-- a segment that selects one child at most, by one name or one index
abbrev pub IsSingularSegment : Segment → Type 0
IsSingularSegment (dot_name k) = Unit {0}
IsSingularSegment (long_hand (selector (name k) no_selectors)) = Unit {0}
IsSingularSegment (long_hand (selector (index i) no_selectors)) = Unit {0}
IsSingularSegment _ = ⊥

-- child segments of one name or one index alone
abbrev pub AreSingular : Segments → Type 0
AreSingular no_segments = Unit {0}
AreSingular (segment child seg more) = IsSingularSegment seg × AreSingular more
AreSingular (segment descendant seg more) = ⊥

-- a singular query (RFC 9535, section 2.3.5.1)
abbrev pub IsSingular : Query → Type 0
IsSingular q = AreSingular (segments_of q)

-- a side of a comparison: of queries a singular one alone (section 2.3.5.1)
abbrev pub IsComparable : Operand → Type 0
IsComparable (queried q) = IsSingular q
IsComparable _ = Unit {0}

-- what may be tested: a query or a call (section 2.3.5.1)
abbrev pub IsTested : Operand → Type 0
IsTested (literal l) = ⊥
IsTested _ = Unit {0}
