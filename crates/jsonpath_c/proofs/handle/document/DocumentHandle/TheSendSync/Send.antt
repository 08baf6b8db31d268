-- What a handle owns may go to another thread, since what it holds may.
use denote.Param.Send.{IsSend, owning_send, sendable}
use Rattle.jsonpath_c.proofs.Words.{held_keyless}
use Rattle.jsonpath_c.proofs.Sent.{document_send}
use Rattle.jsonpath_c.specs.contracts.handle.document.Document as held
use Rattle.jsonpath_c.specs.contracts.handle.document.DocumentHandle.{the_row, the_type}

pub send : IsSend the_row
send = owning_send the_type (search sendable, tt) (λ h. held_keyless held.the_row document_send h.at h.value) (λ k x w. tt)
