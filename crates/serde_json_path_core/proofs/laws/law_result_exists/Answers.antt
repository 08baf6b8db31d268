use Rattle.serde_json_path_core.proofs.Words.{results}
use Rattle.serde_json_path_core.proofs.Meaning.Derived.{computed_result}
use Rattle.serde_json_path_core.proofs.laws.law_result_exists.Goals as goal

pub returns : goal.returns
returns c = λ F top q node typed. (results F top q node, computed_result F top q node)
