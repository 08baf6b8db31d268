use Rattle.jsonpath_lines.proofs.Words.{◌≡◌, escape, take}
use Rattle.jsonpath_lines.proofs.values.has_no_escape.Given as goal

abbrev pub invariant-loop-byte : goal.invariant-loop-byte
invariant-loop-byte l = escape (take l.byte-index l.bytes) ≡ take l.byte-index l.bytes
