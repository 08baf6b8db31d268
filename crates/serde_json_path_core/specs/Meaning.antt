-- What a query selects (RFC 9535, sections 2.1 to 2.5), under a function set and at the root of a document.
use Rattle.std.specs.Prelude.{◌≡◌, ◌≢◌, ℕ, zero, suc, ℤ, pos, ◌+ℤ◌, ◌<ℤ◌, List, [], ◌∷◌, map, ◌⊎◌, ◌↔◌, Bool, true, false, Option, Some, None, IsTrue}
use Rattle.serde_json_path_core.specs.Imports.{AllZip, Data, Items, null_data, boolean, decimal_number, float, literal_held, number_data, string, as_array, items_len, Step, by_name, by_position, child_at, at, Located, Query, query, Segments, no_segments, segment, SegmentKind, child, descendant, Segment, dot_name, dot_wildcard, long_hand, Selectors, no_selectors, selector, Selector, name, wildcard, index, slice, filter, LogicalOr, no_or, or, LogicalAnd, no_and, and, Basic, paren, relation, test, Operand, literal, queried, called, Call, call, Arguments, no_arguments, argument, Argument, operand, logical_argument, Literal, text, truth, Kind, of_value, of_nodes, of_logical, Signature, Term, value, nodes, FunctionSet, IsIn, IsInOrder, logical}
use Rattle.serde_json_path_syntax.specs.Tree.{number, decimal, null}
use Rattle.serde_json_path_core.specs.Slices.{SelectsPosition}
use Rattle.serde_json_path_core.specs.Compared.{Compared, Compares, literal_compared, value_compared}
use Rattle.serde_json_path_core.specs.Derivation.{Triple, start_of, BelongsTo, Before}

-- a child segment goes down no further, a descendant segment any number of steps
abbrev pub MayDescend : SegmentKind → List Step → Type 0
MayDescend child descent = descent ≡ []
MayDescend descendant descent = Unit {0}

-- an index counts from the start, or from the end where it is negative (section 2.3.3.2)
abbrev pub SelectsIndex : ℤ → ℕ → ℕ → Type 0
SelectsIndex i len p = (i ≡ pos p) ⊎ ((i <ℤ pos 0) × (pos p ≡ (i +ℤ pos len)))

-- the step is to a position of an array, and the test holds of the array's length and that position
abbrev pub IsPositionOf : (ℕ → ℕ → Type 0) → Data → Step → Type 0
IsPositionOf Selects v s = (items : Items) × (as_array v ≡ Some items) × (p : ℕ) × (s ≡ by_position p) × Selects (items_len items) p

-- an answer as a test: a node list that is not empty, or a truth value that is true (section 2.4.2)
abbrev pub AnswersYes : Term → Type 0
AnswersYes (value v) = ⊥
AnswersYes (nodes ds) = ds ≢ []
AnswersYes (logical b) = IsTrue b

-- what is so, or its opposite where it is negated
abbrev pub NotIf : Bool → Type 0 → Type 0
NotIf true P = P → ⊥
NotIf false P = P

-- the truth value of P as an argument
abbrev pub IsTruthOf : Type 0 → Term → Type 0
IsTruthOf P t = (b : Bool) × (t ≡ logical b) × (IsTrue b ↔ P)

-- a literal as an argument: the value that a document would hold for it
abbrev pub literal_value : Literal → Data
literal_value (text t) = string t
literal_value (number amount) = number_data (literal_held amount)
literal_value (decimal d) = number_data (float (decimal_number d))
literal_value (truth b) = boolean b
literal_value null = null_data

-- the first value of a list, or Nothing
abbrev pub first_value : List Located → Option Data
first_value [] = None
first_value (n ∷ ns) = Some n.value

-- the types of a function's parameters
abbrev pub params_of : Option Signature → List Kind
params_of None = []
params_of (Some signature) = signature.params

module _ (F : FunctionSet) (top : Data) where
  abbrev mutual
    -- the derivation comes down from the value by these segments
    pub Derives : Segments → Data → List Triple → Type 0
    Derives no_segments v xs = xs ≡ []
    Derives (segment kind seg more) v [] = ⊥
    Derives (segment kind seg more) v (x ∷ xs) =
        MayDescend kind x.descent
        × ((d : Data) × (at v x.descent ≡ Some d) × AdmitsIn seg x.number d x.step
        × ((c : Data) × (child_at d x.step ≡ Some c) × Derives more c xs))

    -- the selector of that number in the segment admits the step
    pub AdmitsIn : Segment → ℕ → Data → Step → Type 0
    AdmitsIn (dot_name k) n v s = (n ≡ 0) × (s ≡ by_name k)
    AdmitsIn dot_wildcard n v s = n ≡ 0
    AdmitsIn (long_hand sels) n v s = AdmitsBy sels n v s

    pub AdmitsBy : Selectors → ℕ → Data → Step → Type 0
    AdmitsBy no_selectors n v s = ⊥
    AdmitsBy (selector sel more) zero v s = Admits sel v s
    AdmitsBy (selector sel more) (suc n) v s = AdmitsBy more n v s

    -- the selector admits the step from v, if it leads to a child (section 2.3)
    pub Admits : Selector → Data → Step → Type 0
    Admits (name k) v s = s ≡ by_name k
    Admits wildcard v s = Unit {0}
    Admits (index i) v s = IsPositionOf (SelectsIndex i) v s
    Admits (slice sl) v s = IsPositionOf (SelectsPosition sl) v s
    Admits (filter e) v s = (c : Data) × (child_at v s ≡ Some c) × Holds e c

    -- the logical expression holds where `@` is v (section 2.3.5)
    pub Holds : LogicalOr → Data → Type 0
    Holds no_or v = ⊥
    Holds (or a more) v = HoldsAll a v ⊎ Holds more v

    pub HoldsAll : LogicalAnd → Data → Type 0
    HoldsAll no_and v = Unit {0}
    HoldsAll (and b more) v = HoldsBasic b v × HoldsAll more v

    pub HoldsBasic : Basic → Data → Type 0
    HoldsBasic (paren negated e) v = NotIf negated (Holds e v)
    HoldsBasic (relation a op b) v = (x y : Compared) × IsComparedAs a v x × IsComparedAs b v y × Compares F.numbers op x y
    HoldsBasic (test negated o) v = NotIf negated (HoldsTest o v)

    -- the query has a derivation, or the call's answer holds
    pub HoldsTest : Operand → Data → Type 0
    HoldsTest (literal l) v = ⊥
    HoldsTest (queried q) v = Exists q v
    HoldsTest (called c) v = (t : Term) × Answers c v t × AnswersYes t

    -- the query has a derivation
    pub Exists : Query → Data → Type 0
    Exists (query kind segs) v = (xs : List Triple) × Derives segs (start_of kind top v) xs

    -- The query's result where `@` is v: the pairs that belong to its derivations, in their order, each derivation once
    -- and no other.
    pub IsResult : Query → Data → List Located → Type 0
    IsResult (query kind segs) v ns = (ds : List (List Triple)) × IsInOrder (Before segs) ds
        × ((xs : List Triple) → IsIn xs ds ↔ Derives segs (start_of kind top v) xs)
        × AllZip (BelongsTo (start_of kind top v)) ds ns

    -- what a side of a comparison stands for
    pub IsComparedAs : Operand → Data → Compared → Type 0
    IsComparedAs (literal l) v x = x ≡ literal_compared l
    IsComparedAs (queried q) v x = (ns : List Located) × IsResult q v ns × (x ≡ value_compared (first_value ns))
    IsComparedAs (called c) v x = (o : Option Data) × Answers c v (value o) × (x ≡ value_compared o)

    -- the call's answer is the set's meaning of its name and arguments (section 2.4)
    pub Answers : Call → Data → Term → Type 0
    Answers (call f args) v t = (ts : List Term) × AreArguments args (params_of (F.signature f)) v ts × (t ≡ F.meaning f ts)

    pub AreArguments : Arguments → List Kind → Data → List Term → Type 0
    AreArguments no_arguments kinds v ts = ts ≡ []
    AreArguments (argument a more) (kind ∷ kinds) v (t ∷ ts) = IsArgument a kind v t × AreArguments more kinds v ts
    AreArguments (argument a more) _ v _ = ⊥

    -- the argument as the parameter takes it
    pub IsArgument : Argument → Kind → Data → Term → Type 0
    IsArgument (operand o) kind v t = IsTakenAs o kind v t
    IsArgument (logical_argument e) kind v t = IsTruthOf (Holds e v) t

    -- the operand as the parameter takes it: a value or Nothing, the values of a list, or a truth value
    pub IsTakenAs : Operand → Kind → Data → Term → Type 0
    IsTakenAs (literal l) kind v t = t ≡ value (Some (literal_value l))
    IsTakenAs (queried q) of_value v t = (ns : List Located) × IsResult q v ns × (t ≡ value (first_value ns))
    IsTakenAs (queried q) of_nodes v t = (ns : List Located) × IsResult q v ns × (t ≡ nodes (map (λ n. n.value) ns))
    IsTakenAs (queried q) of_logical v t = IsTruthOf (Exists q v) t
    IsTakenAs (called c) of_logical v t = (u : Term) × Answers c v u × IsTruthOf (AnswersYes u) t
    IsTakenAs (called c) _ v t = Answers c v t
