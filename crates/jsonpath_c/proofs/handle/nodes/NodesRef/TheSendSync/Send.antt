-- What is lent may be read in another thread, since a reference to it may go there.
use denote.Param.Send.{IsSend, owning_send, sendable}
use Rattle.jsonpath_c.proofs.Words.{lent_keyless}
use Rattle.jsonpath_c.specs.contracts.handle.nodes.Nodes as held
use Rattle.jsonpath_c.specs.contracts.handle.nodes.NodesRef.{the_row, the_type}
use Rattle.jsonpath_c.proofs.handle.nodes.Nodes.TheSendSync.{the_sync}

pub send : IsSend the_row
send = owning_send the_type (search sendable, tt) (λ h. lent_keyless held.the_row the_sync h.at h.value) (λ k x w. tt)
