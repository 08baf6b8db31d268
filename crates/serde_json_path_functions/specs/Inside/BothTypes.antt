-- One set before another keeps its types and its patterns where both do.
use Rattle.std.proofs.lemmas.Bool.Decides.{nat_tests}
use Rattle.std.proofs.Common.{arith}
use Rattle.serde_json_path_functions.specs.Functions.{FunctionSet, KeepsTypes, both}
use Rattle.serde_json_path_functions.specs.Patterns.{KeepsPatterns}

pub both_keeps_types : (A B : FunctionSet) → KeepsTypes A → KeepsTypes B → KeepsTypes (both A B)
both_keeps_types A B h k name s declared = grind (arith, nat_tests, h name s, k name s)

pub both_keeps_patterns : (A B : FunctionSet) → KeepsPatterns A → KeepsPatterns B → KeepsPatterns (both A B)
both_keeps_patterns A B h k name matching stands = grind (arith, nat_tests, h name matching, k name matching)
