use Rattle.serde_json_path.proofs.Words.{ap, builtin_functions, before_itself, Observed}
use Rattle.serde_json_path.proofs.path.JsonPath.parse_by.Goals as goal

pub returns : goal.returns
returns c =
    rw (ap (λ (t : Observed). t.text) c.new-source.ensures, before_itself builtin_functions) at c.parse_source.ensures.read
