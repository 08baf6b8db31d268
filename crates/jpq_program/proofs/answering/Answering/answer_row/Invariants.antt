use Rattle.jpq_program.proofs.Words.{◌≡◌, ◌++◌, List, ℕ, first_cells, map, string_bytes, take, view, AreShownAs, AskedPath, cell_look}
use Rattle.jpq_program.proofs.Cells.{FindsCells}
use Rattle.jpq_program.proofs.answering.Answering.answer_row.Given as goal

abbrev pub invariant-loop-path : goal.invariant-loop-path
invariant-loop-path g l =
    (l.streams.out ≡ l.initial.streams.out)
    × (AreShownAs cell_look l.document.bytes.now (view l.document.value.now) l.self.paths.now
    → (found : List (List ℕ)) × (map string_bytes l.cells.items ≡ first_cells l.self.heads.file l.self.heads.line l.document.source.name.now l.document.source.line ++ found)
    × FindsCells l.self.silent l.document.bytes.now (map (λ (path : AskedPath). path.path) (take l.path-index l.self.paths.now)) found l.initial.streams l.streams)
