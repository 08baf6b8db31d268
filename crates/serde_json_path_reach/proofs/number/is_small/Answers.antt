use Rattle.serde_json_path_reach.proofs.Words.{arith}
use Rattle.serde_json_path_reach.proofs.Small.{small_number}
use Rattle.serde_json_path_reach.proofs.number.is_small.Goals as goal

pub returns : goal.returns
returns c = λ yes. rw (← c.as_bytes-bytes.ensures.value) (small_number c.as_bytes-bytes.result.now c.if-bytes-gt-FEW_BYTES.false (λ i below. c.loop-byte.invariant i (omega arith)))
