-- The grammar: which text has which tree (RFC 9535, sections 2.1 to 2.5). A text is a list of
-- characters, and the joining of the texts of its parts, of signs and of blanks.
use Rattle.std.specs.Prelude.{Bool, true, false, ◌≡◌, ◌%◌, ℕ, ℤ, unsigned_abs, List, [], ◌++◌, ◌⊎◌, Option, Some, None, codes}
use Rattle.serde_json_path_parser.specs.Imports.{billionths, Numbers, whole_numbers, all_numbers, QueryKind, root, current, Query, query, Segments, no_segments, segment, SegmentKind, child, descendant, Segment, dot_name, dot_wildcard, long_hand, Selectors, no_selectors, selector, Selector, name, wildcard, index, slice, filter, Slice, LogicalOr, no_or, or, LogicalAnd, no_and, and, Basic, paren, relation, test, Operator, equal, not_equal, less, less_or_equal, greater, greater_or_equal, Operand, literal, queried, called, Call, call, Arguments, no_arguments, argument, Argument, operand, logical_argument, Literal, text, number, decimal, truth, null}
use Rattle.serde_json_path_parser.specs.Lexical.{IsBlank, IsName, IsFunctionName, IsInt, IsNumberLiteral, IsString}
use Rattle.serde_json_path_numbers.specs.Numerals as amount

-- ---- signs

-- the root (section 2.2.1), and the current node of a filter (section 2.3.5.1)
abbrev pub query_sign : QueryKind → List ℕ
query_sign root = codes "$"
query_sign current = codes "@"

-- what stands before a name or `*` of a child segment (section 2.5.1.1), and of a descendant
-- segment (section 2.5.2.1)
abbrev pub dots_before_name : SegmentKind → List ℕ
dots_before_name child = codes "."
dots_before_name descendant = codes ".."

-- the same before a bracket
abbrev pub dots_before_bracket : SegmentKind → List ℕ
dots_before_bracket child = []
dots_before_bracket descendant = codes ".."

-- comparison operators (section 2.3.5.1)
abbrev pub operator_sign : Operator → List ℕ
operator_sign equal = codes "=="
operator_sign not_equal = codes "!="
operator_sign less = codes "<"
operator_sign less_or_equal = codes "<="
operator_sign greater = codes ">"
operator_sign greater_or_equal = codes ">="

-- ---- slices (section 2.3.4.1)

-- an integer and blanks, or nothing
abbrev pub IsBound : Option ℤ → List ℕ → Type 0
IsBound None t = t ≡ []
IsBound (Some i) t = (a k : List ℕ) × IsInt a i × IsBlank k × (t ≡ a ++ k)

-- a second colon with or without a step, or nothing
abbrev pub IsSliceStep : Option ℤ → List ℕ → Type 0
IsSliceStep None t = (t ≡ []) ⊎ (t ≡ codes ":")
IsSliceStep (Some i) t = (k a : List ℕ) × IsBlank k × IsInt a i × (t ≡ codes ":" ++ (k ++ a))

abbrev pub IsSlice : Slice → List ℕ → Type 0
IsSlice s t =
    (a k b c : List ℕ) × IsBound s.start a × IsBlank k × IsBound s.end b × IsSliceStep s.step c
    × (t ≡ a ++ (codes ":" ++ (k ++ (b ++ c))))

-- ---- literals and tests

-- `true`, `false`, `null`, a string or a number (section 2.3.5.1)
abbrev pub IsLiteral : Numbers → Literal → List ℕ → Type 0
IsLiteral rule (text bytes) t = IsString t bytes
IsLiteral rule (number amount) t = IsNumberLiteral rule t (billionths amount)
IsLiteral rule (decimal d) t = IsNumberLiteral rule t (amount.decimal d)
IsLiteral rule (truth true) t = t ≡ codes "true"
IsLiteral rule (truth false) t = t ≡ codes "false"
IsLiteral rule null t = t ≡ codes "null"

-- in parentheses
abbrev pub InParentheses : (List ℕ → Type 0) → List ℕ → Type 0
InParentheses ReadsInside t = (j a k : List ℕ) × IsBlank j × ReadsInside a × IsBlank k
    × (t ≡ codes "(" ++ (j ++ (a ++ (k ++ codes ")"))))

-- where it is negated, after `!` and blanks
abbrev pub Negated : Bool → (List ℕ → Type 0) → List ℕ → Type 0
Negated false ReadsInside t = ReadsInside t
Negated true ReadsInside t =
    (k a : List ℕ) × IsBlank k × ReadsInside a × (t ≡ codes "!" ++ (k ++ a))

-- blanks, a sign and blanks
abbrev pub IsSign : List ℕ → List ℕ → Type 0
IsSign sign t = (j k : List ℕ) × IsBlank j × IsBlank k × (t ≡ j ++ (sign ++ k))

-- A query or a call alone: as an argument it is read as that and not as a logical expression. The
-- RFC's grammar allows both; this is the project's own choice.
abbrev pub StandsAlone : LogicalOr → Type 0
StandsAlone (or (and (test false o) no_and) no_or) = Unit {0}
StandsAlone _ = ⊥

-- ---- numbers as arguments

-- where comparisons take whole numbers, a number that is an argument has no fraction; this is the
-- project's own rule (RFC 9535, section 2.4.3, has none)
abbrev pub IsNumberArgument : Numbers → ℤ → Type 0
IsNumberArgument whole_numbers amount = unsigned_abs amount % 1000000000 ≡ 0
IsNumberArgument all_numbers amount = Unit {0}

abbrev pub MayBeArgument : Numbers → Operand → Type 0
MayBeArgument rule (literal (number amount)) = IsNumberArgument rule amount
MayBeArgument rule _ = Unit {0}

-- ---- the grammar

module _ (rule : Numbers) where
  abbrev mutual
    -- `$` or `@`, and segments
    pub Reads : Query → List ℕ → Type 0
    Reads (query kind segs) t = (a : List ℕ) × ReadSegments segs a × (t ≡ query_sign kind ++ a)

    -- blanks may stand before each segment
    pub ReadSegments : Segments → List ℕ → Type 0
    ReadSegments no_segments t = t ≡ []
    ReadSegments (segment kind seg more) t =
        (k a b : List ℕ) × IsBlank k × ReadsSegment seg kind a × ReadSegments more b
        × (t ≡ k ++ (a ++ b))

    -- `.name`, `.*` and `[..]`, or with `..` before them (section 2.5)
    pub ReadsSegment : Segment → SegmentKind → List ℕ → Type 0
    ReadsSegment (dot_name bytes) kind t =
        (a : List ℕ) × IsName a bytes × (t ≡ dots_before_name kind ++ a)
    ReadsSegment dot_wildcard kind t = t ≡ dots_before_name kind ++ codes "*"
    ReadsSegment (long_hand sels) kind t =
        (j a k : List ℕ) × IsBlank j × ReadSelectors sels a × IsBlank k
        × (t ≡ dots_before_bracket kind ++ (codes "[" ++ (j ++ (a ++ (k ++ codes "]")))))

    -- one or more, with commas and blanks round them
    pub ReadSelectors : Selectors → List ℕ → Type 0
    ReadSelectors no_selectors t = ⊥
    ReadSelectors (selector sel more) t =
        (a b : List ℕ) × ReadsSelector sel a × ReadMoreSelectors more b × (t ≡ a ++ b)

    pub ReadMoreSelectors : Selectors → List ℕ → Type 0
    ReadMoreSelectors no_selectors t = t ≡ []
    ReadMoreSelectors (selector sel more) t =
        (s a b : List ℕ) × IsSign (codes ",") s × ReadsSelector sel a × ReadMoreSelectors more b
        × (t ≡ s ++ (a ++ b))

    -- a name, `*`, an index, a slice or a filter (section 2.3)
    pub ReadsSelector : Selector → List ℕ → Type 0
    ReadsSelector (name bytes) t = IsString t bytes
    ReadsSelector wildcard t = t ≡ codes "*"
    ReadsSelector (index i) t = IsInt t i
    ReadsSelector (slice s) t = IsSlice s t
    ReadsSelector (filter e) t =
        (k a : List ℕ) × IsBlank k × ReadsOr e a × (t ≡ codes "?" ++ (k ++ a))

    -- one or more parts, with `||` and blanks between them (section 2.3.5.1)
    pub ReadsOr : LogicalOr → List ℕ → Type 0
    ReadsOr no_or t = ⊥
    ReadsOr (or part more) t = (a b : List ℕ) × ReadsAnd part a × ReadMoreOrs more b × (t ≡ a ++ b)

    pub ReadMoreOrs : LogicalOr → List ℕ → Type 0
    ReadMoreOrs no_or t = t ≡ []
    ReadMoreOrs (or part more) t =
        (s a b : List ℕ) × IsSign (codes "||") s × ReadsAnd part a × ReadMoreOrs more b
        × (t ≡ s ++ (a ++ b))

    -- one or more parts, with `&&` and blanks between them
    pub ReadsAnd : LogicalAnd → List ℕ → Type 0
    ReadsAnd no_and t = ⊥
    ReadsAnd (and part more) t =
        (a b : List ℕ) × ReadsBasic part a × ReadMoreAnds more b × (t ≡ a ++ b)

    pub ReadMoreAnds : LogicalAnd → List ℕ → Type 0
    ReadMoreAnds no_and t = t ≡ []
    ReadMoreAnds (and part more) t =
        (s a b : List ℕ) × IsSign (codes "&&") s × ReadsBasic part a × ReadMoreAnds more b
        × (t ≡ s ++ (a ++ b))

    pub ReadsBasic : Basic → List ℕ → Type 0
    ReadsBasic (paren negated e) t = Negated negated (InParentheses (ReadsOr e)) t
    ReadsBasic (relation left op right) t =
        (a s b : List ℕ) × ReadsOperand left a × IsSign (operator_sign op) s
        × ReadsOperand right b × (t ≡ a ++ (s ++ b))
    ReadsBasic (test negated o) t = Negated negated (ReadsOperand o) t

    -- what may stand where is typing's; blanks inside the brackets of a singular query are the
    -- project's own choice
    pub ReadsOperand : Operand → List ℕ → Type 0
    ReadsOperand (literal l) t = IsLiteral rule l t
    ReadsOperand (queried q) t = Reads q t
    ReadsOperand (called c) t = ReadsCall c t

    -- a name with `(` at once after it (section 2.4)
    pub ReadsCall : Call → List ℕ → Type 0
    ReadsCall (call f args) t =
        (n j a k : List ℕ) × IsFunctionName n f × IsBlank j × ReadArguments args a × IsBlank k
        × (t ≡ n ++ (codes "(" ++ (j ++ (a ++ (k ++ codes ")")))))

    -- none, or some with commas and blanks between them
    pub ReadArguments : Arguments → List ℕ → Type 0
    ReadArguments no_arguments t = t ≡ []
    ReadArguments (argument arg more) t =
        (a b : List ℕ) × ReadsArgument arg a × ReadMoreArguments more b × (t ≡ a ++ b)

    pub ReadMoreArguments : Arguments → List ℕ → Type 0
    ReadMoreArguments no_arguments t = t ≡ []
    ReadMoreArguments (argument arg more) t =
        (s a b : List ℕ) × IsSign (codes ",") s × ReadsArgument arg a × ReadMoreArguments more b
        × (t ≡ s ++ (a ++ b))

    -- a literal, a query or a call that stands alone is that, and all else is a logical expression
    pub ReadsArgument : Argument → List ℕ → Type 0
    ReadsArgument (operand o) t = MayBeArgument rule o × ReadsOperand o t
    ReadsArgument (logical_argument e) t = (StandsAlone e → ⊥) × ReadsOr e t
