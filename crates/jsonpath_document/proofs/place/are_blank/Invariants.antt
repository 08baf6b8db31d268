use Rattle.std.specs.Prelude.{◌≡◌, take, true}
use Rattle.jsonpath_document.specs.Place.{are_blank}
use Rattle.jsonpath_document.proofs.place.are_blank.Given as goal

abbrev pub invariant-loop-byte : goal.invariant-loop-byte
invariant-loop-byte l = are_blank (take l.byte-index l.bytes) ≡ true
