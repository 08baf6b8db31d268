use Rattle.serde_json_path_reach.proofs.Words.{rules}
use Rattle.serde_json_path_reach.proofs.Shows.{in_place}
use Rattle.serde_json_path_reach.proofs.Values.{view_null}
use Rattle.serde_json_path_reach.proofs.read.read_reached.Goals as goal

pub returns-in-None : goal.returns-in-None
returns-in-None c = let (d, read, shown) = c.in_ok-found.ensures.ok in record { ok = (d, search rules, λ right. rw view_null (in_place _ d (rw c.in-None.is at (shown right)))) }
