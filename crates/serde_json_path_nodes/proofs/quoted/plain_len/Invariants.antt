use Rattle.serde_json_path_nodes.proofs.Words.{take, NonePass, is_escaped}
use Rattle.serde_json_path_nodes.proofs.quoted.plain_len.Given as goal

-- none of the bytes so far is escaped
abbrev pub invariant-loop-index : goal.invariant-loop-index
invariant-loop-index l = NonePass is_escaped (take l.index l.bytes)
