use Rattle.serde_json_path_core.proofs.Words.{nodes_in, selector_view, stage_at, arith, nat_tests, common_steps}
use Rattle.serde_json_path_core.proofs.Walks.SingleChildren.{single_stage}
use Rattle.serde_json_path_core.proofs.evaluation.single_children.single_selector.Goals as goal

pub returns-in-Some-clause-found : goal.returns-in-Some-clause-found
returns-in-Some-clause-found c =
    let nodes = nodes_in c.args.query.now in
    single_stage (stage_at nodes c.args.segment) (selector_view nodes c.in-Some.only) c.name_or_index.result c.in-Some.ensures.found (c.name_or_index.ensures.found nodes)

pub returns-in-None-clause-complete : goal.returns-in-None-clause-complete
returns-in-None-clause-complete c = λ only is single. let some = c.only_selector.ensures.complete only is in cc (some, c.in-None.is)
