use Rattle.jpq_program.proofs.Words.{◌∙◌, Bor, IsUtf8, List, ap, comma_rows, map, subst, sym, ℕ}
use Rattle.csv.specs.Writing as csv
use Rattle.jpq_program.proofs.Commas.{row_utf8}
use Rattle.jpq_program.proofs.rows.push_commas.Goals as goal

pub push_text-requires : goal.push_text-requires
push_text-requires c = subst IsUtf8 (sym (c.deref-2.ensures.value ∙ (rw c.in-Ok.is at c.comma_row.ensures) ∙ ap (λ (fields : List (List ℕ)). csv.row_text (comma_rows c.args.end) fields) (ap (map (λ (field : Bor (List ℕ)). field.now)) c.deref.ensures.value ∙ c.in_ok-fields.ensures))) (row_utf8 c.args.end c.args.cells.now)
