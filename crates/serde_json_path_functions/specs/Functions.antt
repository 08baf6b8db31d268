-- Function sets: the signature of each name, and what it means (RFC 9535, section 2.4).
use Rattle.std.specs.Prelude.{◌≡◌, ℕ, ◌≤◌, List, [], ◌∷◌, length, map, Bool, Option, Some, None, option_map, bytes_eq, codes, if◌then◌else◌}
use Rattle.std.specs.Str.{chars}
use Rattle.serde_json.specs.Events.{items_len, members_len}
use Rattle.serde_json.specs.Data.{Data, number, string, array, object, unsigned}

-- the types of parameters and results (section 2.4.1)
pub data Kind : Type 0 where
  of_value : Kind
  of_nodes : Kind
  of_logical : Kind

pub record Signature : Type 0 where
  pub params : List Kind
  pub result : Kind

-- an argument or an answer: a value or Nothing, the values of a node list, or a truth value
pub data Term : Type 0 where
  value : Option Data → Term
  nodes : List Data → Term
  logical : Bool → Term

-- what a pattern has to match: the whole text, for `match`, or some part of it, for `search`
pub data Matching : Type 0 where
  whole_text : Matching
  any_part : Matching

-- how the comparisons of a query take the numbers of documents: those held as integers alone, or all of them
pub data Numbers : Type 0 where
  whole_numbers : Numbers
  all_numbers : Numbers

-- A function set: the signature of each name that it declares, the meaning of a name at its arguments, and which names stand
-- for the built-in `match` or `search`. Names are the bytes of their characters. In `numbers` clauses put the rule by which
-- the comparisons of a query take numbers (`with_rule`); what a set says there itself counts for nothing.
pub record FunctionSet : Type 0 where
  pub signature : List ℕ → Option Signature
  pub meaning : List ℕ → List Term → Term
  pub by_regex : List ℕ → Option Matching
  pub numbers : Numbers

-- the set declares each of these names with that signature
abbrev pub Fits : FunctionSet → List (List ℕ × Signature) → Type 0
Fits F [] = Unit {0}
Fits F (used ∷ more) = (F.signature used.0 ≡ Some used.1) × Fits F more

-- ---- what a set promises

abbrev pub kind_of_term : Term → Kind
kind_of_term (value v) = of_value
kind_of_term (nodes ds) = of_nodes
kind_of_term (logical b) = of_logical

-- a name of this signature takes the terms: each is of its parameter's type
abbrev pub Takes : Option Signature → List Term → Type 0
Takes None ts = ⊥
Takes (Some s) ts = map kind_of_term ts ≡ s.params

-- a name of this signature gives the term: it is of the result's type
abbrev pub Gives : Option Signature → Term → Type 0
Gives None t = ⊥
Gives (Some s) t = kind_of_term t ≡ s.result

-- each name has at most eight parameters, and at terms that it takes its meaning is of the type that it gives
abbrev pub KeepsTypes : FunctionSet → Type 0
KeepsTypes F =
    (name : List ℕ) (s : Signature) → F.signature name ≡ Some s
    → (length s.params ≤ 8) × ((ts : List Term) → map kind_of_term ts ≡ s.params → kind_of_term (F.meaning name ts) ≡ s.result)

-- ---- two sets, one before the other: the names of the first, then the other names of the second

-- what the first set has where it declares the name, else what the second has
abbrev pub of_first : {A : Type 0} → Option Signature → A → A → A
of_first None first second = second
of_first (Some s) first second = first

abbrev pub both : FunctionSet → FunctionSet → FunctionSet
both A B = record {
  signature = λ name. of_first (A.signature name) (A.signature name) (B.signature name);
  meaning = λ name ts. of_first (A.signature name) (A.meaning name ts) (B.meaning name ts);
  by_regex = λ name. of_first (A.signature name) (A.by_regex name) (B.by_regex name);
  numbers = A.numbers;
}

-- the functions of a set, for a query whose comparisons take numbers by a rule
abbrev pub with_rule : Numbers → FunctionSet → FunctionSet
with_rule rule F = record F { numbers = rule }

-- ---- the built-in functions

-- `length(Value) -> Value`, `count(Nodes) -> Value` and `value(Nodes) -> Value` (sections 2.4.4, 2.4.5 and 2.4.8)
abbrev pub plain_signature : List ℕ → Option Signature
plain_signature name =
    if bytes_eq name (codes "length") then Some (record { params = of_value ∷ []; result = of_value })
    else if bytes_eq name (codes "count") then Some (record { params = of_nodes ∷ []; result = of_value })
    else if bytes_eq name (codes "value") then Some (record { params = of_nodes ∷ []; result = of_value })
    else None

-- the built-in names that use `regex` (sections 2.4.6 and 2.4.7)
abbrev pub builtin_by_regex : List ℕ → Option Matching
builtin_by_regex name =
    if bytes_eq name (codes "match") then Some whole_text
    else if bytes_eq name (codes "search") then Some any_part
    else None

-- the signature of a name that stands for `match` or `search`: two values and a truth value
abbrev pub matching_signature : Signature
matching_signature = record { params = of_value ∷ of_value ∷ []; result = of_logical }

-- `match(Value, Value) -> Logical` and `search(Value, Value) -> Logical` (sections 2.4.6 and 2.4.7)
abbrev pub pattern_signature : List ℕ → Option Signature
pattern_signature name = option_map (λ (m : Matching). matching_signature) (builtin_by_regex name)

abbrev pub builtin_signature : List ℕ → Option Signature
builtin_signature name = of_first (plain_signature name) (plain_signature name) (pattern_signature name)

-- a number as a value
abbrev pub counted : ℕ → Option Data
counted n = Some (number (unsigned n))

-- `length` of a value: how many characters a text has, items an array, or members an object; else Nothing (section
-- 2.4.4)
abbrev pub length_of : Option Data → Option Data
length_of (Some (string text)) = counted (length (chars text))
length_of (Some (array items)) = counted (items_len items)
length_of (Some (object members)) = counted (members_len members)
length_of _ = None

-- `value` of a node list: the value of its only node, else Nothing (section 2.4.8)
abbrev pub value_of_one : List Data → Option Data
value_of_one (d ∷ []) = Some d
value_of_one _ = None

-- what `length`, `count` and `value` mean
abbrev pub length_meaning : List Term → Term
length_meaning (value v ∷ []) = value (length_of v)
length_meaning _ = value None

abbrev pub count_meaning : List Term → Term
count_meaning (nodes ds ∷ []) = value (counted (length ds))
count_meaning _ = value None

abbrev pub value_meaning : List Term → Term
value_meaning (nodes ds ∷ []) = value (value_of_one ds)
value_meaning _ = value None

abbrev pub plain_meaning : List ℕ → List Term → Term
plain_meaning name ts =
    if bytes_eq name (codes "length") then length_meaning ts
    else if bytes_eq name (codes "count") then count_meaning ts
    else value_meaning ts
