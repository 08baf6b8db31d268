use Rattle.serde_json_path_core.proofs.Words.{ap, sym, ◌∙◌, drop, Null, cursor_left, drop_more, items_from, items_view, arith, nat_tests, common_steps}
use Rattle.serde_json_path_core.proofs.evaluation.cursor.Cursor.pass.Goals as goal

pub returns-then-next-items : goal.returns-then-next-items
returns-then-next-items c =
    sym (ap (λ vs. drop 1 (items_from c.in-Items.next (items_view vs))) (drop_more c.in-Items.items.now c.in-Items.next Null c.if-next-items.true))
    ∙ ap (λ cursor. drop 1 (cursor_left cursor)) (sym c.in-Items.is)
