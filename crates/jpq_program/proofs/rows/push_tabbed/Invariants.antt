use Rattle.jpq_program.proofs.Words.{◌≡◌, ◌++◌, map, row_text, string_bytes, take}
use Rattle.jpq_program.proofs.rows.push_tabbed.Given as goal

abbrev pub invariant-loop-index : goal.invariant-loop-index
invariant-loop-index l = string_bytes l.to ≡ string_bytes l.fn.to ++ row_text (map string_bytes (take l.index l.fn.cells))
