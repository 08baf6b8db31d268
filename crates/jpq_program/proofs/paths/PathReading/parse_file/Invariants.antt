use Rattle.jpq_program.proofs.Words.{◌≡◌, Bor, List, ℕ, false, map, take, Reads, ReadsFurther, Tells, has_text, reading_by}
use Rattle.std.specs.List.{filter}
use Rattle.jpq_program.proofs.paths.PathReading.parse_file.Given as goal

abbrev pub invariant-loop-index : goal.invariant-loop-index
invariant-loop-index g l =
    Reads l.initial.self l.self × Tells l.initial.streams l.streams
    × (l.streams.outcome.refused ≡ false → l.streams ≡ l.initial.streams)
    × (l.streams.outcome.refused ≡ false
    → ReadsFurther (reading_by l.initial.self) (filter has_text (map (λ (line : Bor (List ℕ)). line.now) (take l.index l.line-items))) l.initial.paths.items l.paths.items)
