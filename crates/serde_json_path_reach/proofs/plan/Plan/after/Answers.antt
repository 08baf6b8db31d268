use Rattle.serde_json_path_reach.proofs.Words.{in_append, inl, inr, refl, step_view, sym, take, take_more, true≢false, ◌++◌, ◌+◌, ◌∙◌, ◌∷◌, ◌≡◌, []}
use Rattle.serde_json_path_reach.proofs.Rows.{all_led, meets_left, meets_right}
use Rattle.serde_json_path_reach.proofs.plan.Plan.after.Goals as goal
use Rattle.serde_json_path_reach.proofs.plan.Plan.after.Goals.{then-meets, else-meets}

pub returns-then-is_whole : goal.returns-then-is_whole
returns-then-is_whole c = all_led c.args.self.now.rows.items (step_view c.args.step) c.args.pending (sym c.is_whole.ensures ∙ c.if-is_whole.true)

pub loop-row-preserved : goal.loop-row-preserved
loop-row-preserved c = λ row m i met on.
    let items = c.as_slice-row-items.result.now in
    let same : items ≡ c.args.self.now.rows.items = c.as_slice-row-items.ensures.value in
    let here = c.row-item.result in
    let all : take (c.loop-row.row-index + 1) items ≡ take c.loop-row.row-index items ++ here ∷ [] = take_more items c.loop-row.row-index here c.loop-row-test.true ∙ rw (← c.row-item.is) refl in
    elim ((in_append row (take c.loop-row.row-index items) (here ∷ [])).0 (rw (← same, all) at i)) [
      | inl before ↦ let so_far = c.loop-row.invariant row m (rw same at before) met on in elim c.if-meets.branch [
        | then-meets w ↦ rw w.after-is (meets_left c.loop-row.after w.onward-after.result m so_far)
        | else-meets w ↦ rw w.after-is so_far
      ]
      | inr (inl is) ↦ elim c.if-meets.branch [
        | then-meets w ↦ rw w.after-is (meets_right c.loop-row.after w.onward-after.result m (rw (w.onward-after.ensures, ← is) on))
        | else-meets w ↦ absurd (true≢false (sym met ∙ rw is (sym c.meets.ensures ∙ w.if-meets.false)))
      ]
      | inr (inr none) ↦ absurd none
    ]
