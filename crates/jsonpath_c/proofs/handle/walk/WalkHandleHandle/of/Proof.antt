-- The pointer goes from the nullable box into the handle.
use Rattle.jsonpath_c.proofs.Words.{nullable_box, moved}
use Rattle.jsonpath_c.specs.contracts.handle.walk.HeldWalk.{the_row}
use Rattle.jsonpath_c.specs.contracts.handle.walk.WalkHandleHandle.of.Key.{name as key}
use Rattle.jsonpath_c.proofs.Owners.{walk_owner as owner}
use Rattle.jsonpath_c.proofs.handle.walk.WalkHandleHandle.of.Statement.{statement}
use Rattle.jsonpath_c.proofs.handle.walk.WalkHandleHandle.of.Code as code

pub of_spec : {M : Type 1} → statement M
of_spec 𝓤 𝓛 𝓜 𝓡 wired = moved (nullable_box the_row) owner 𝓤 𝓛 𝓜 𝓡 key (code.unfolded 𝓤 𝓛.H 𝓜 𝓡 wired)
