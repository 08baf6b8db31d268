use Rattle.serde_json_path_core.proofs.Words.{◌≡◌, ◌-◌, ◌^◌, ◌<◌, length, drop, ap, ◌∙◌, sym, arith, rules, items_view, Null, strided, next_position, nat_tests, common_steps}
use Rattle.serde_json_path_core.proofs.Steps.Positions.{strided-first, strided-up, strided-down}
use Rattle.serde_json_path_core.proofs.evaluation.slice_positions.SlicePositions.pass.Goals as goal
use Rattle.serde_json_path_core.proofs.evaluation.slice_positions.SlicePositions.pass.Goals.{then-self, else-self}

pub returns : goal.returns
returns c =
    let self = c.args.self.now in
    let items = c.args.items.now in
    let count = self.left - 1 in
    let goes : strided count self.upwards (next_position self.upwards self.next self.stride) self.stride (items_view items) ≡ strided count self.upwards c.if-self.self self.stride (items_view items) =
    elim c.if-self.branch [
      | then-self w ↦
          let most : length items < 2 ^ 64 = search rules in
          strided-up items count self.upwards self.next self.stride c.if-self.self (2 ^ 64 - 1) w.if-self.true (w.self-is ∙ w.saturating_add-self.ensures) (omega arith)
      | else-self w ↦ strided-down items count self.upwards self.next self.stride c.if-self.self w.if-self.false (w.self-is ∙ w.saturating_sub-self.ensures)
    ] in
    sym (ap (drop 1) (strided-first items self.left self.upwards self.next self.stride Null c.if-self-eq0.false c.if-position-items.false) ∙ goes)
