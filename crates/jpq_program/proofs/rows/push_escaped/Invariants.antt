use Rattle.jpq_program.proofs.Words.{◌≡◌, ◌++◌, IsUtf8, cell_text, chars, chars_rest, flat_map, in_cell, string_bytes}
use Rattle.jpq_program.proofs.rows.push_escaped.Given as goal

abbrev pub invariant-loop-c : goal.invariant-loop-c
invariant-loop-c l = IsUtf8 (chars_rest l.c-iterator) × (string_bytes l.to ++ flat_map in_cell (chars (chars_rest l.c-iterator)) ≡ string_bytes l.fn.to ++ cell_text l.fn.cell)
