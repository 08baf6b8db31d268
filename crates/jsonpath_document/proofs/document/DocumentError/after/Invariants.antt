use Rattle.std.proofs.Common.{◌≡◌, ◌≤◌, ◌+◌, take}
use Rattle.jsonpath_document.specs.Place.{place_after}
use Rattle.jsonpath_document.proofs.document.DocumentError.after.Given as goal

abbrev pub invariant-loop-byte : goal.invariant-loop-byte
invariant-loop-byte l = ((l.line, l.column) ≡ place_after (take l.byte-index l.before)) × (l.line ≤ l.byte-index + 1) × (l.column ≤ l.byte-index + 1)
