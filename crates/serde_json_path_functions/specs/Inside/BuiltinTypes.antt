-- The built-in functions keep their types, and their patterns.
use Rattle.std.proofs.Common.{◌≡◌, ℕ, List, None, IsSome, arith}
use Rattle.std.proofs.lemmas.Bool.Decides.{nat_tests}
use Rattle.std.proofs.lemmas.Slice.Eq.{bytes_eq-Decides}
use Rattle.serde_json_path_functions.specs.OwnSets.{pattern_typed}
use Rattle.serde_json_path_functions.specs.Functions.{KeepsTypes, plain_signature, builtin_by_regex}
use Rattle.serde_json_path_functions.specs.Patterns.{KeepsPatterns, builtin_functions}

-- a plain name does not use `regex`
plain_without_regex : (name : List ℕ) → IsSome (plain_signature name) → builtin_by_regex name ≡ None
plain_without_regex name plain = grind (arith, nat_tests, bytes_eq-Decides)

pub builtin_keeps_types : KeepsTypes builtin_functions
builtin_keeps_types name s declared = grind (arith, nat_tests, pattern_typed, plain_without_regex name)

pub builtin_keeps_patterns : KeepsPatterns builtin_functions
builtin_keeps_patterns name matching stands = grind (arith, nat_tests, plain_without_regex name)
