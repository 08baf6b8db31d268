use Rattle.serde_json_path_core.proofs.Words.{option_map, sym, ap, ◌∙◌, nodes_in, selector_view, stage_at, arith, nat_tests, common_steps}
use Rattle.serde_json_path_core.proofs.Walks.Turns.{drop-some}
use Rattle.serde_json_path_core.proofs.evaluation.frame.open.Goals as goal

pub returns-in-Some : goal.returns-in-Some
returns-in-Some c =
    let nodes = (nodes_in c.args.query.now) in
    rw (drop-some (stage_at nodes c.args.segment).selectors c.args.selector (selector_view nodes c.in-Some.selector_ref) (sym (ap (option_map (selector_view nodes)) (sym c.in-Some.is) ∙ c.selector_ref.ensures.selector_ref))) c.choose.ensures
