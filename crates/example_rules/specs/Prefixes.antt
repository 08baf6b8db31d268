-- `starts_with(Value, Value) -> Logical`, and that it keeps types and patterns.
use Rattle.std.proofs.Common.{ℕ, List, [], ◌∷◌, Bool, true, false, Option, Some, None, bytes_eq, codes, if◌then◌else◌, nat_eq, refl, arith}
use Rattle.std.specs.List.{starts_with}
use Rattle.serde_json.specs.Data.{Data, string}
use Rattle.serde_json_path_functions.specs.OwnSets.{Keeps, declared_keeps}
use Rattle.serde_json_path_functions.specs.Functions.{of_value, of_logical, Signature, Term, value, logical, FunctionSet, KeepsTypes, whole_numbers}
use Rattle.serde_json_path_functions.specs.Patterns.{KeepsPatterns, keeps_no_patterns}

abbrev pub prefixes_signature : List ℕ → Option Signature
prefixes_signature name =
    if bytes_eq name (codes "starts_with") then Some (record { params = of_value ∷ of_value ∷ []; result = of_logical })
    else None

-- whether both are texts, of which the first begins with the second
abbrev pub begins_with : Option Data → Option Data → Bool
begins_with (Some (string text)) (Some (string start)) = starts_with nat_eq text start
begins_with _ _ = false

abbrev pub all_begin : List Term → Bool
all_begin (value text ∷ value start ∷ []) = begins_with text start
all_begin _ = false

abbrev pub prefixes : FunctionSet
prefixes = record { signature = prefixes_signature; meaning = λ name ts. logical (all_begin ts); by_regex = λ name. None; numbers = whole_numbers }

-- ---- types

by_name : (is_it : Bool) → Keeps (if is_it then Some (record { params = of_value ∷ of_value ∷ []; result = of_logical }) else None) (λ ts. logical (all_begin ts))
by_name true = declared_keeps _ (λ ts. logical (all_begin ts)) (omega arith) (λ ts. refl)
by_name false = λ s e. absurd cc

pub prefixes_keep_types : KeepsTypes prefixes
prefixes_keep_types name = by_name (bytes_eq name (codes "starts_with"))

-- ---- patterns

pub prefixes_keep_patterns : KeepsPatterns prefixes
prefixes_keep_patterns = keeps_no_patterns prefixes (λ name. refl)
