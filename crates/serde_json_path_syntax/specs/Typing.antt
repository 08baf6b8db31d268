-- Well-typed queries (RFC 9535, section 2.4.3): each call names a declared function, has one argument for each parameter,
-- of a form that the parameter takes, and stands where its result may stand.
use Rattle.std.specs.Prelude.{◌≡◌, ℕ, List, [], ◌∷◌, ◌⊎◌, Option, Some, option_map}
use Rattle.serde_json_path_syntax.specs.Tree.{Query, query, Segments, no_segments, segment, Segment, dot_name, dot_wildcard, long_hand, Selectors, no_selectors, selector, Selector, name, wildcard, index, slice, filter, LogicalOr, no_or, or, LogicalAnd, no_and, and, Basic, paren, relation, test, Operand, literal, queried, called, Call, call, Arguments, no_arguments, argument, Argument, operand, logical_argument, IsSingular}
use Rattle.serde_json_path_functions.specs.Functions.{Kind, of_value, of_nodes, of_logical, Signature}

-- a result that may stand as a test
abbrev pub IsTestKind : Option Kind → Type 0
IsTestKind kind = (kind ≡ Some of_nodes) ⊎ (kind ≡ Some of_logical)

module _ (signature : List ℕ → Option Signature) where
  -- the type of a call's result
  abbrev pub result_kind : Call → Option Kind
  result_kind (call f args) = option_map (λ (s : Signature). s.result) (signature f)

  -- a parameter takes a call's result: one of its own type, and for a truth value a node list too
  abbrev pub TakesResult : Kind → Option Kind → Type 0
  TakesResult of_value kind = kind ≡ Some of_value
  TakesResult of_nodes kind = kind ≡ Some of_nodes
  TakesResult of_logical kind = IsTestKind kind

  abbrev mutual
    pub IsTyped : Query → Type 0
    IsTyped (query kind segs) = AreTypedSegments segs

    pub AreTypedSegments : Segments → Type 0
    AreTypedSegments no_segments = Unit {0}
    AreTypedSegments (segment kind seg more) = IsTypedSegment seg × AreTypedSegments more

    pub IsTypedSegment : Segment → Type 0
    IsTypedSegment (dot_name k) = Unit {0}
    IsTypedSegment dot_wildcard = Unit {0}
    IsTypedSegment (long_hand sels) = AreTypedSelectors sels

    pub AreTypedSelectors : Selectors → Type 0
    AreTypedSelectors no_selectors = Unit {0}
    AreTypedSelectors (selector sel more) = IsTypedSelector sel × AreTypedSelectors more

    pub IsTypedSelector : Selector → Type 0
    IsTypedSelector (filter e) = IsTypedOr e
    IsTypedSelector (name k) = Unit {0}
    IsTypedSelector wildcard = Unit {0}
    IsTypedSelector (index i) = Unit {0}
    IsTypedSelector (slice s) = Unit {0}

    pub IsTypedOr : LogicalOr → Type 0
    IsTypedOr no_or = Unit {0}
    IsTypedOr (or a more) = IsTypedAnd a × IsTypedOr more

    pub IsTypedAnd : LogicalAnd → Type 0
    IsTypedAnd no_and = Unit {0}
    IsTypedAnd (and b more) = IsTypedBasic b × IsTypedAnd more

    -- what is tested is what a parameter of type Logical takes: a query, or a call whose result is a node list or a truth value
    pub IsTypedBasic : Basic → Type 0
    IsTypedBasic (paren negated e) = IsTypedOr e
    IsTypedBasic (relation a op b) = IsTypedComparable a × IsTypedComparable b
    IsTypedBasic (test negated o) = IsTypedOperand o of_logical

    -- a query in a comparison is singular, and a call there has a value as its result
    pub IsTypedComparable : Operand → Type 0
    IsTypedComparable (literal l) = Unit {0}
    IsTypedComparable (queried q) = IsTyped q × IsSingular q
    IsTypedComparable (called c) = IsTypedCall c × (result_kind c ≡ Some of_value)

    pub IsTypedCall : Call → Type 0
    IsTypedCall (call f args) = (s : Signature) × (signature f ≡ Some s) × AreTypedArguments args s.params

    -- an argument for each parameter
    pub AreTypedArguments : Arguments → List Kind → Type 0
    AreTypedArguments no_arguments kinds = kinds ≡ []
    AreTypedArguments (argument a more) [] = ⊥
    AreTypedArguments (argument a more) (kind ∷ kinds) = IsTypedArgument a kind × AreTypedArguments more kinds

    pub IsTypedArgument : Argument → Kind → Type 0
    IsTypedArgument (operand o) kind = IsTypedOperand o kind
    IsTypedArgument (logical_argument e) of_logical = IsTypedOr e
    IsTypedArgument (logical_argument e) _ = ⊥

    -- what a parameter of that type takes
    pub IsTypedOperand : Operand → Kind → Type 0
    IsTypedOperand (literal l) of_value = Unit {0}
    IsTypedOperand (literal l) _ = ⊥
    IsTypedOperand (queried q) of_value = IsTyped q × IsSingular q
    IsTypedOperand (queried q) _ = IsTyped q
    IsTypedOperand (called c) kind = IsTypedCall c × TakesResult kind (result_kind c)
