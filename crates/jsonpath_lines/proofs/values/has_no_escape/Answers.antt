use Rattle.jsonpath_lines.proofs.Words.{slice_index, take, take_more}
use Rattle.jsonpath_lines.proofs.Quoted.{escaped_further}
use Rattle.jsonpath_lines.proofs.values.has_no_escape.Goals as goal

pub loop-byte-preserved : goal.loop-byte-preserved
loop-byte-preserved c =
    let bytes = c.as_bytes-bytes.result.now in
    let byte = slice_index bytes c.loop-byte.byte-index in
    rw (take_more bytes c.loop-byte.byte-index 0 c.loop-byte-test.true)
    (escaped_further (take c.loop-byte.byte-index bytes) byte c.loop-byte.invariant c.if-byte-lt32.false c.if-byte-eq34.false c.if-byte-eq92.false)
