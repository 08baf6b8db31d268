use Rattle.std.proofs.Common.{◌≡◌, ◌≤◌, false, fold, take}
use Rattle.jsonpath_document.specs.Place.{before_past}
use Rattle.jsonpath_document.proofs.place.before_in.Given as goal

abbrev pub invariant-loop-byte : goal.invariant-loop-byte
invariant-loop-byte l = record {
  so_far : l.before ≡ fold (before_past l.levels) ((0, false, false), 0, 0, 0) (take l.byte-index l.bytes);
  few : l.before.0.0 ≤ l.byte-index;
}
