-- The first slip that is there is the first of those that are left, as none before them is there.
use Rattle.std.proofs.Common.{◌≡◌, find, drop, map}
use Rattle.serde_json_path_hints.specs.Hints.{is_there}
use Rattle.serde_json_path_hints.specs.Inside.Lent.{slip_of}
use Rattle.serde_json_path_hints.proofs.slip.first_there.Given as goal

abbrev pub invariant-loop-slip : goal.invariant-loop-slip
invariant-loop-slip l =
    find (is_there l.before l.ahead) (map slip_of (drop l.slip-index l.slips))
    ≡ find (is_there l.before l.ahead) (map slip_of l.slips)
