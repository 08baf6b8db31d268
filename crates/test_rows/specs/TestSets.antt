-- The function sets of the tests: what their names mean, and that they keep types and patterns.
use Rattle.std.proofs.Common.{◌≡◌, ◌+◌, ◌&&◌, ℕ, List, [], ◌∷◌, length, Bool, true, false, ◌||◌, Option, Some, None, bytes_eq, codes, if◌then◌else◌, refl, arith, slice_get}
use Rattle.serde_json.specs.Data.{Data}
use Rattle.serde_json_path_functions.specs.OwnSets.{Keeps, KeepsPattern, declared_keeps, pattern_kept, pattern_typed}
use Rattle.serde_json_path_functions.specs.Functions.{of_value, of_nodes, of_logical, Signature, Term, value, nodes, logical, counted, kind_of_term, Matching, any_part, FunctionSet, KeepsTypes, matching_signature, whole_numbers}
use Rattle.serde_json_path_functions.specs.Patterns.{pattern_meaning, KeepsPatterns, meaning_by, keeps_no_patterns}

-- `pattern(Value, Value) -> Logical`, which stands for `search`, and `memory() -> Logical` are refused
abbrev pub refused_names : List (List ℕ × Signature)
refused_names = (codes "pattern", matching_signature) ∷ (codes "memory", record { params = []; result = of_logical }) ∷ []

-- what stands for a name is decided by which of the names it is: `length(Nodes) -> Value` and `own(Nodes) -> Value` are own
abbrev pub signature_by : (is_pattern is_own is_memory : Bool) → Option Signature
signature_by is_pattern is_own is_memory =
    if is_pattern then Some matching_signature
    else if is_own then Some (record { params = of_nodes ∷ []; result = of_value })
    else if is_memory then Some (record { params = []; result = of_logical })
    else None

abbrev pub matching_by : Bool → Option Matching
matching_by is_pattern = if is_pattern then Some any_part else None

-- one more than there are nodes
abbrev pub one_more : List Term → Term
one_more (nodes ds ∷ []) = value (counted (length ds + 1))
one_more _ = value None

-- the own names mean one more than there are nodes, and `memory` means true
abbrev pub term_by : Bool → List Term → Term
term_by is_own ts = if is_own then one_more ts else logical true

abbrev pub is_own_name : List ℕ → Bool
is_own_name name = bytes_eq name (codes "length") || bytes_eq name (codes "own")

abbrev pub overriding_functions : FunctionSet
overriding_functions = record {
  signature = λ name. signature_by (bytes_eq name (codes "pattern")) (is_own_name name) (bytes_eq name (codes "memory"));
  meaning = λ name ts. meaning_by (matching_by (bytes_eq name (codes "pattern"))) (term_by (is_own_name name) ts) ts;
  by_regex = λ name. matching_by (bytes_eq name (codes "pattern"));
  numbers = whole_numbers;
}

one_more_typed : (ts : List Term) → kind_of_term (one_more ts) ≡ of_value
one_more_typed (nodes ds ∷ []) = refl
one_more_typed _ = refl

own_kept : (is_pattern is_own is_memory : Bool)
    → Keeps (signature_by is_pattern is_own is_memory) (λ ts. meaning_by (matching_by is_pattern) (term_by is_own ts) ts)
own_kept true is_own is_memory = declared_keeps _ (pattern_meaning any_part) (omega arith) (pattern_typed any_part)
own_kept false true is_memory = declared_keeps _ one_more (omega arith) one_more_typed
own_kept false false true = declared_keeps _ (λ ts. logical true) (omega arith) (λ ts. refl)
own_kept false false false = λ s e. absurd cc

own_patterned : (is_pattern is_own is_memory : Bool)
    → KeepsPattern (signature_by is_pattern is_own is_memory) (matching_by is_pattern) (λ ts. meaning_by (matching_by is_pattern) (term_by is_own ts) ts)
own_patterned true is_own is_memory = pattern_kept any_part (term_by is_own)
own_patterned false is_own is_memory = λ matching same. absurd cc

pub overriding_keeps_types : KeepsTypes overriding_functions
overriding_keeps_types name = own_kept (bytes_eq name (codes "pattern")) (is_own_name name) (bytes_eq name (codes "memory"))

pub overriding_keeps_patterns : KeepsPatterns overriding_functions
overriding_keeps_patterns name = own_patterned (bytes_eq name (codes "pattern")) (is_own_name name) (bytes_eq name (codes "memory"))

-- ---- `first` gives the value of its first node, `kids` its nodes, `both` whether both are true, `none` Nothing; the others are true

abbrev pub first_of : List Term → Option Data
first_of (nodes ds ∷ []) = slice_get ds 0
first_of _ = None

abbrev pub kids_meaning : List Term → Term
kids_meaning (nodes ds ∷ []) = nodes ds
kids_meaning _ = nodes []

abbrev pub both_meaning : List Term → Term
both_meaning (logical a ∷ logical b ∷ []) = logical (a && b)
both_meaning _ = logical false

-- what stands for a name is decided by which of the names it is
abbrev pub own_signature_by : (is_first is_kids is_both is_none is_plain is_eight : Bool) → Option Signature
own_signature_by is_first is_kids is_both is_none is_plain is_eight =
    if is_first then Some (record { params = of_nodes ∷ []; result = of_value })
    else if is_kids then Some (record { params = of_nodes ∷ []; result = of_nodes })
    else if is_both then Some (record { params = of_logical ∷ of_logical ∷ []; result = of_logical })
    else if is_none then Some (record { params = []; result = of_value })
    else if is_plain then Some (record { params = []; result = of_logical })
    else if is_eight then Some (record { params = of_value ∷ of_value ∷ of_value ∷ of_value ∷ of_value ∷ of_value ∷ of_value ∷ of_value ∷ []; result = of_logical })
    else None

abbrev pub own_meaning_by : (is_first is_kids is_both is_none : Bool) → List Term → Term
own_meaning_by is_first is_kids is_both is_none ts =
    if is_first then value (first_of ts)
    else if is_kids then kids_meaning ts
    else if is_both then both_meaning ts
    else if is_none then value None
    else logical true

abbrev pub is_plain_name : List ℕ → Bool
is_plain_name name = bytes_eq name (codes "f") || bytes_eq name (codes "true") || bytes_eq name (codes "refuse")

abbrev pub own_functions : FunctionSet
own_functions = record {
  signature = λ name. own_signature_by (bytes_eq name (codes "first")) (bytes_eq name (codes "kids")) (bytes_eq name (codes "both")) (bytes_eq name (codes "none")) (is_plain_name name) (bytes_eq name (codes "eight"));
  meaning = λ name ts. own_meaning_by (bytes_eq name (codes "first")) (bytes_eq name (codes "kids")) (bytes_eq name (codes "both")) (bytes_eq name (codes "none")) ts;
  by_regex = λ name. None;
  numbers = whole_numbers;
}

kids_typed : (ts : List Term) → kind_of_term (kids_meaning ts) ≡ of_nodes
kids_typed (nodes ds ∷ []) = refl
kids_typed _ = refl

both_typed : (ts : List Term) → kind_of_term (both_meaning ts) ≡ of_logical
both_typed (logical a ∷ logical b ∷ []) = refl
both_typed _ = refl

own_by_name : (is_first is_kids is_both is_none is_plain is_eight : Bool)
    → Keeps (own_signature_by is_first is_kids is_both is_none is_plain is_eight) (λ ts. own_meaning_by is_first is_kids is_both is_none ts)
own_by_name true is_kids is_both is_none is_plain is_eight = declared_keeps _ (λ ts. value (first_of ts)) (omega arith) (λ ts. refl)
own_by_name false true is_both is_none is_plain is_eight = declared_keeps _ kids_meaning (omega arith) kids_typed
own_by_name false false true is_none is_plain is_eight = declared_keeps _ both_meaning (omega arith) both_typed
own_by_name false false false true is_plain is_eight = declared_keeps _ (λ ts. value None) (omega arith) (λ ts. refl)
own_by_name false false false false true is_eight = declared_keeps _ (λ ts. logical true) (omega arith) (λ ts. refl)
own_by_name false false false false false true = declared_keeps _ (λ ts. logical true) (omega arith) (λ ts. refl)
own_by_name false false false false false false = λ s e. absurd cc

pub own_keeps_types : KeepsTypes own_functions
own_keeps_types name s e =
    own_by_name (bytes_eq name (codes "first")) (bytes_eq name (codes "kids")) (bytes_eq name (codes "both")) (bytes_eq name (codes "none")) (is_plain_name name) (bytes_eq name (codes "eight")) s e

pub own_keeps_patterns : KeepsPatterns own_functions
own_keeps_patterns = keeps_no_patterns own_functions (λ name. refl)
