use Rattle.jpq_program.proofs.Words.{◌≡◌, ◌∙◌, ◌++◌, List, [], ℕ, ap, arith, codes, common_steps, if◌then◌else◌, map, nat_lt, nat_tests, row_text, string_bytes, take_all, cell_text, String, Global}
use Rattle.jpq_program.proofs.Cells.{row_further}
use Rattle.jpq_program.proofs.rows.push_tabbed.Goals as goal
use Rattle.jpq_program.proofs.rows.push_tabbed.Goals.{then-index-gt0+in_ok-push, else-index-gt0}

pub loop-index-preserved : goal.loop-index-preserved
loop-index-preserved c =
    let between : string_bytes c.if-index-gt0.to ≡ string_bytes c.loop-index.to ++ (if nat_lt 0 c.loop-index.index then codes "\t" else []) = elim c.if-index-gt0.branch [
      | then-index-gt0+in_ok-push w ↦ grind (arith, nat_tests, common_steps, w.to-is, w.in_ok-push.ensures.bytes, w.if-index-gt0)
      | else-index-gt0 w ↦ grind (arith, nat_tests, common_steps, w.to-is, w.if-index-gt0)
    ] in
    row_further c.args.cells.now c.loop-index.index c.index-cells-index.result (string_bytes c.args.to.now) (string_bytes c.loop-index.to) (string_bytes c.if-index-gt0.to) (string_bytes c.push_escaped.new.to) c.loop-index-test.true c.index-cells-index.is c.loop-index.invariant
    between (c.in_ok-push_escaped.ensures ∙ ap (λ (t : List ℕ). string_bytes c.if-index-gt0.to ++ cell_text t) c.as_str.ensures.value)

pub returns : goal.returns
returns c = c.loop-index.invariant ∙ ap (λ (cells : List (String Global)). string_bytes c.args.to.now ++ row_text (map string_bytes cells)) (take_all c.loop-index.index c.args.cells.now c.loop-index-test.false)
