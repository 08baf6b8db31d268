use Rattle.jpq_program.proofs.Words.{◌≡◌, ◌+◌, ℕ, List, [], Some, IfSome, false, string_bytes, ReadsForPaths, is_done, wanted_by, wanted_in_part_by}
use Rattle.std.specs.Io.Buffered.{reader_remaining}
use Rattle.jpq_program.proofs.Sending.{SentLines}
use Rattle.jpq_program.proofs.documents.Documents.answer_lines.Given as goal

abbrev pub invariant-loop-number : goal.invariant-loop-number
invariant-loop-number g l =
    ReadsForPaths l.self → is_done l.self.answering l.initial.streams ≡ false → string_bytes l.initial.streams.pending ≡ []
    → IfSome (g.I.Read.remaining l.fn.input) (λ bytes. (left : List ℕ) × (count : ℕ) × (reader_remaining g.I.Read.remaining l.reader ≡ Some left) × (l.number ≡ 1 + count)
    × SentLines l.self.answering.silent g.W.Write.contents (wanted_by l.self.answering) (wanted_in_part_by l.self.answering) l.name bytes left count l.initial.streams l.streams
    × (is_done l.self.answering l.streams ≡ false))
