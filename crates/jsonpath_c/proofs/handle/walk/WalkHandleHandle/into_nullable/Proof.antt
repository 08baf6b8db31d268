-- The pointer goes from the handle into the nullable box.
use Rattle.jsonpath_c.proofs.Words.{nullable_box, moved}
use Rattle.jsonpath_c.specs.contracts.handle.walk.HeldWalk.{the_row}
use Rattle.jsonpath_c.specs.contracts.handle.walk.WalkHandleHandle.into_nullable.Key.{name as key}
use Rattle.jsonpath_c.proofs.Owners.{walk_owner as owner}
use Rattle.jsonpath_c.proofs.handle.walk.WalkHandleHandle.into_nullable.Statement.{statement}
use Rattle.jsonpath_c.proofs.handle.walk.WalkHandleHandle.into_nullable.Code as code

pub into_nullable_spec : {M : Type 1} → statement M
into_nullable_spec 𝓤 𝓛 𝓜 𝓡 wired = moved owner (nullable_box the_row) 𝓤 𝓛 𝓜 𝓡 key (code.unfolded 𝓤 𝓛.H 𝓜 𝓡 wired)
