use Rattle.jpq_program.proofs.Words.{◌≡◌, ◌∙◌, ◌++◌, [], List, ℕ, IsLine, Output, ap, Compact, IsText, Raw, length, located, rules, string_bytes, subst, sym}
use Rattle.jpq_program.proofs.Cells.{cut_line}
use Rattle.jpq_program.proofs.rows.cell_of.Goals as goal

pub returns : goal.returns
returns c =
    let line = subst (λ (o : Output). (x : List ℕ) × IsLine o [] (located c.args.node.now) x × (string_bytes c.push_line.new.text ≡ string_bytes c.new-cell.result ++ x)) c.compact_lines.ensures c.in_ok-push_line.ensures in
    let len : c.len.result ≡ length (string_bytes c.push_line.new.text) = search rules in
    let whole : string_bytes c.push_line.new.text ≡ line.0 = line.2 ∙ ap (λ (t : List ℕ). t ++ line.0) c.new-cell.ensures.bytes in
    subst (IsText Raw Compact (located c.args.node.now)) (sym (cut_line line.1.0 line.0 (string_bytes c.push_line.new.text) (string_bytes c.truncate.new.self) c.len.result line.1.2 whole len c.truncate.ensures.bytes)) line.1.1
