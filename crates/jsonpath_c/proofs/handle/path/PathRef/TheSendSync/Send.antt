-- What is lent may be read in another thread, since a reference to it may go there.
use denote.Param.Send.{IsSend, owning_send, sendable}
use Rattle.jsonpath_c.proofs.Words.{lent_keyless}
use Rattle.jsonpath_c.proofs.Sent.{compiled_sync}
use Rattle.jsonpath_c.specs.contracts.compiled.Compiled as held
use Rattle.jsonpath_c.specs.contracts.handle.path.PathRef.{the_row, the_type}

pub send : IsSend the_row
send = owning_send the_type (search sendable, tt) (λ h. lent_keyless held.the_row compiled_sync h.at h.value) (λ k x w. tt)
