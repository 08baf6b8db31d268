-- What a handle owns may go to another thread, since what it holds may.
use denote.Param.Send.{IsSend, owning_send, sendable}
use Rattle.jsonpath_c.proofs.Words.{held_keyless}
use Rattle.jsonpath_c.specs.contracts.handle.nodes.Nodes as held
use Rattle.jsonpath_c.specs.contracts.handle.nodes.NodesHandle.{the_row, the_type}
use Rattle.jsonpath_c.proofs.handle.nodes.Nodes.TheSendSync.{the_send}

pub send : IsSend the_row
send = owning_send the_type (search sendable, tt) (λ h. held_keyless held.the_row the_send h.at h.value) (λ k x w. tt)
