use Rattle.serde_json_path_parser.proofs.Words.{◌≡◌, ◌<◌, ◌≤◌, ◌+◌, ◌-◌, length, Gathered, LooksOn}
use Rattle.serde_json_path_parser.proofs.parser.stretch.gather.Given as goal

abbrev pub invariant-loop-at : goal.invariant-loop-at
invariant-loop-at g l = record {
  some : l.index < l.at;
  most : l.at ≤ l.end;
  long : length l.part ≡ length l.initial.part;
  gathered : Gathered (g.C.Class.holds l.class) (g.S.PathSource.observed l.source).text l.index l.at l.part;
  looks : LooksOn (g.S.PathSource.observed l.initial.source) (g.S.PathSource.observed l.source) (l.at - (l.index + 1)) l.at;
}

abbrev pub decreases-loop-at : goal.decreases-loop-at
decreases-loop-at g l = l.end - l.at
