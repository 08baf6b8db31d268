use Rattle.jsonpath_lines.proofs.Words.{◌≡◌, ℕ, List, ◌++◌}
use Rattle.std.specs.Io.KnownBytes.{Appends}
use Rattle.jsonpath_lines.proofs.writing.write_text.Given as goal

abbrev pub invariant-loop : goal.invariant-loop
invariant-loop g l = record {
  begun : List ℕ;
  split : l.initial.rest ≡ begun ++ l.rest;
  appended : Appends (g.W.Write.contents l.initial.to) (g.W.Write.contents l.to) begun;
}
