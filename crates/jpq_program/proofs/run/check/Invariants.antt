use Rattle.jpq_program.proofs.Words.{◌≡◌, ◌++◌, map, take, string_bytes, AskedPath, canonical_lines}
use Rattle.jpq_program.proofs.run.check.Given as goal

abbrev pub invariant-loop-path : goal.invariant-loop-path
invariant-loop-path g l =
    (l.streams ≡ record l.initial.streams { pending = l.streams.pending })
    × (string_bytes l.streams.pending ≡ string_bytes l.initial.streams.pending ++ canonical_lines (map (λ (path : AskedPath). path.path) (take l.path-index l.paths)))
