-- What decides how an operand may be used, which is read before its use is known.
use Rattle.std.specs.Prelude.{ℕ, ◌%◌, ◌==◌, ◌||◌, Bool, true, false, ℤ, unsigned_abs, List, Option, Some}
use Rattle.serde_json_path_parser.specs.Imports.{Numbers, whole_numbers, all_numbers, is_singular, literal, queried, called, Argument, operand, logical_argument, Literal, number, result_kind, Kind, of_value, of_nodes, of_logical, Signature}

-- ---- results (section 2.4.3)

abbrev pub is_result : Kind → Option Kind → Bool
is_result of_value (Some of_value) = true
is_result of_nodes (Some of_nodes) = true
is_result of_logical (Some of_logical) = true
is_result _ _ = false

-- a result that may stand as a test
abbrev pub is_test : Option Kind → Bool
is_test kind = is_result of_nodes kind || is_result of_logical kind

-- a parameter takes a call's result
abbrev pub takes_result : Kind → Option Kind → Bool
takes_result of_value kind = is_result of_value kind
takes_result of_nodes kind = is_result of_nodes kind
takes_result of_logical kind = is_test kind

-- ---- arguments (section 2.4.3)

-- whole billions of billionths
abbrev pub is_whole : ℤ → Bool
is_whole amount = unsigned_abs amount % 1000000000 == 0

-- a number that may be an argument: by whole numbers a whole one alone
abbrev pub is_number_argument : Numbers → ℤ → Bool
is_number_argument whole_numbers amount = is_whole amount
is_number_argument all_numbers amount = true

abbrev pub is_value_literal : Numbers → Literal → Bool
is_value_literal rule (number amount) = is_number_argument rule amount
is_value_literal rule _ = true

-- the argument, whose parts are well-typed, suits a parameter of that type
abbrev pub suits : Numbers → (List ℕ → Option Signature) → Argument → Kind → Bool
suits rule signature (operand (literal l)) of_value = is_value_literal rule l
suits rule signature (operand (literal l)) _ = false
suits rule signature (operand (queried q)) of_value = is_singular q
suits rule signature (operand (queried q)) _ = true
suits rule signature (operand (called c)) kind = takes_result kind (result_kind signature c)
suits rule signature (logical_argument e) of_logical = true
suits rule signature (logical_argument e) _ = false
