use Rattle.serde_json_path.proofs.Words.{ap, Observed}
use Rattle.serde_json_path.proofs.path.JsonPath.parse_with.Goals as goal

pub returns : goal.returns
returns g c = rw (ap (λ (t : Observed). t.text) c.new-source.ensures) at c.parse_source.ensures.read
