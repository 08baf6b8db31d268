-- The pointer goes from the struct that lends into the nullable reference.
use Rattle.jsonpath_c.proofs.Words.{nullable_ref, moved}
use Rattle.jsonpath_c.specs.contracts.compiled.Compiled.{the_row}
use Rattle.jsonpath_c.specs.contracts.handle.path.PathRefLent.into_nullable.Key.{name as key}
use Rattle.jsonpath_c.proofs.Owners.{path_lender as lender}
use Rattle.jsonpath_c.proofs.handle.path.PathRefLent.into_nullable.Statement.{statement}
use Rattle.jsonpath_c.proofs.handle.path.PathRefLent.into_nullable.Code as code

pub into_nullable_spec : {M : Type 1} → statement M
into_nullable_spec 𝓤 𝓛 𝓜 𝓡 wired = moved lender (nullable_ref the_row) 𝓤 𝓛 𝓜 𝓡 key (code.unfolded 𝓤 𝓛.H 𝓜 𝓡 wired)
