use Rattle.std.proofs.Common.{◌≡◌, ◌≤◌, false, fold, take}
use Rattle.jsonpath_document.specs.Place.{open_past}
use Rattle.jsonpath_document.proofs.place.opened_after.Given as goal

abbrev pub invariant-loop-byte : goal.invariant-loop-byte
invariant-loop-byte l = record {
  so_far : l.opened ≡ fold open_past (0, false, false) (take l.byte-index l.bytes);
  few : l.opened.0 ≤ l.byte-index;
}
