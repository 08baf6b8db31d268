use Rattle.serde_json_path_syntax.proofs.Words.{◌≡◌, Some, ap, same_Some, Float, Data, float, double_in, arith, nat_tests, common_steps}
use Rattle.serde_json.specs.Data.{number}
use Rattle.serde_json_path_syntax.proofs.literal.HeldDecimal.value.Goals as goal

double_is : (v : Data) (x : Float) → double_in v ≡ Some x → v ≡ number (float x)
double_is v x e = grind (arith, nat_tests, common_steps, same_Some)

pub returns : goal.returns
returns c = double_is _ _ c.args.self.now.same
