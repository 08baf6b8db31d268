use Rattle.serde_json_path_reach.proofs.Words.{ap, descendant, nodes_in, segment_kind_at, segment_kind_view, sym, ◌∙◌, ◌≡◌}
use Rattle.serde_json_path_reach.proofs.Plans.{adds_row}
use Rattle.serde_json_path_reach.proofs.plan.Plan.add_row.Goals as goal
use Rattle.serde_json_path_reach.proofs.plan.Plan.add_row.Goals.{in-Child, in-Descendant}

pub returns : goal.returns
returns c =
    let again : segment_kind_at (nodes_in c.args.query.now) c.args.segment ≡ descendant → c.match-segment_kind.again ≡ c.fresh-bit.result = λ down. elim c.match-segment_kind.branch [
      | in-Child w ↦ absurd (let e = ap segment_kind_view (sym w.in-Child.is) ∙ c.segment_kind.ensures ∙ down in cc)
      | in-Descendant w ↦ w.again-is
    ] in
    adds_row c.args.self.now _ _ _ c.in_ok-push.ensures.items (ap (λ rows. rows.items) c.fresh-bit.ensures.rows) c.fresh-bit.ensures.root c.fresh-bit.ensures.some again c.children_of.ensures
