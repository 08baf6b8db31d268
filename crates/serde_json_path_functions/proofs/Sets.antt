-- A function set before itself is that set.
use Rattle.std.proofs.lemmas.Bool.Decides.{nat_tests}
use Rattle.std.proofs.Common.{arith, ◌≡◌}
use Rattle.serde_json_path_functions.specs.Functions.{FunctionSet, both}

pub before_itself : (F : FunctionSet) → both F F ≡ F
before_itself F = grind (arith, nat_tests)
