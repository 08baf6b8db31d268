use Rattle.serde_json_path_core.proofs.Words.{nodes_in, arith, nat_tests, common_steps}
use Rattle.serde_json_path_core.proofs.Walks.SingleChildren.{select-single}
use Rattle.serde_json_path_core.proofs.evaluation.single_children.only_child.Goals as goal

pub returns : goal.returns
returns c =
    select-single (nodes_in c.args.query.now) c.args.segments.now (record { number = 0 }) c.single_selector.result c.in-len1.len_at_least c.in-len1.len_below c.single_selector.ensures.found
