use Rattle.serde_json_path_core.proofs.Words.{ap, ◌∙◌, arith, SFits, w64, to_z-of_z, position_in, nat_tests, common_steps}
use Rattle.serde_json_path_core.proofs.Steps.Lookups.{item_past}
use Rattle.serde_json_path_core.proofs.child.item_of.Goals as goal

pub returns-else-position-len : goal.returns-else-position-len
returns-else-position-len c =
    let f : SFits w64 c.args.index = c.ranges.index in
    let e = simp to_z-of_z at c.position.ensures in
    item_past c.args.items.now.items c.args.index _ _ c.in-Some.is (e ∙ ap (position_in c.args.index) (c.len.ensures ∙ c.args.items.now.ok.0)) (omega arith)
