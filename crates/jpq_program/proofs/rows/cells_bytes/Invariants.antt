use Rattle.jpq_program.proofs.Words.{◌≡◌, Bor, List, ℕ, map, string_bytes, take}
use Rattle.jpq_program.proofs.rows.cells_bytes.Given as goal

abbrev pub invariant-loop-cell : goal.invariant-loop-cell
invariant-loop-cell l = map (λ (field : Bor (List ℕ)). field.now) l.fields.items ≡ map string_bytes (take l.cell-index l.fn.cells)
