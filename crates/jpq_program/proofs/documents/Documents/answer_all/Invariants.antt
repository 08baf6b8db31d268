use Rattle.jpq_program.proofs.Words.{◌≡◌, ℕ, Bor, List, [], false, is_done, map, string_bytes, take, AreInputsShown, AreKnown, IsNamedShown, ReadsForPaths, Opens, Sends, wanted_by, wanted_in_part_by}
use Rattle.jpq_program.proofs.Wanted.{Continues}
use Rattle.jpq_program.proofs.documents.Documents.answer_all.Given as goal

abbrev pub invariant-loop-name : goal.invariant-loop-name
invariant-loop-name g l =
    let done = map (λ (name : Bor (List ℕ)). name.now) (take l.name-index l.names) in
    ((name : List ℕ) → g.I.Inputs.bytes_of l.inputs name ≡ g.I.Inputs.bytes_of l.initial.inputs name)
    × Opens (g.I.Inputs.opened l.initial.inputs) (g.I.Inputs.opened l.inputs) done
    × (ReadsForPaths l.self → string_bytes l.initial.streams.pending ≡ [] → AreKnown (g.I.Inputs.bytes_of l.initial.inputs) (map (λ (name : Bor (List ℕ)). name.now) l.names)
    → Sends l.self.answering.silent g.W.Write.contents (AreInputsShown (wanted_by l.self.answering) l.self.lines (g.I.Inputs.bytes_of l.initial.inputs) done l.initial.streams.total) (AreInputsShown (wanted_in_part_by l.self.answering) l.self.lines (g.I.Inputs.bytes_of l.initial.inputs) done l.initial.streams.total)
    l.initial.streams l.streams × (is_done l.self.answering l.streams ≡ false))
    × (ReadsForPaths l.self → string_bytes l.initial.streams.pending ≡ [] → AreKnown (g.I.Inputs.bytes_of l.initial.inputs) (map (λ (name : Bor (List ℕ)). name.now) l.names) → l.streams.outcome.refused ≡ false
    → Continues l.self.answering.showing.most_of_all (IsNamedShown (wanted_by l.self.answering) l.self.lines (g.I.Inputs.bytes_of l.initial.inputs)) l.initial.streams.total l.streams.total done)
