use Rattle.jpq_program.proofs.Words.{◌≡◌, header_cells, map, string_bytes, take, texts_asked}
use Rattle.jpq_program.proofs.answering.Answering.header_cells.Given as goal

abbrev pub invariant-loop-path : goal.invariant-loop-path
invariant-loop-path l = map string_bytes l.cells.items ≡ header_cells l.self.heads.file l.self.heads.line (texts_asked (take l.path-index l.self.paths.now))
