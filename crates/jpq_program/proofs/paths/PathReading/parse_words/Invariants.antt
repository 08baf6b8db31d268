use Rattle.jpq_program.proofs.Words.{◌≡◌, Bor, List, ℕ, [], false, map, take, AreAskedBy, Reads, Tells, reading_by}
use Rattle.jpq_program.proofs.paths.PathReading.parse_words.Given as goal

abbrev pub invariant-loop-index : goal.invariant-loop-index
invariant-loop-index g l =
    Reads l.initial.self l.self × Tells l.initial.streams l.streams
    × (l.streams.outcome.refused ≡ false → l.streams ≡ l.initial.streams)
    × (l.initial.paths.items ≡ [] → l.streams.outcome.refused ≡ false
    → AreAskedBy (reading_by l.initial.self) (map (λ (text : Bor (List ℕ)). text.now) (take l.index l.texts)) l.paths.items)
