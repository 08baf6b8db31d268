use Rattle.jsonpath_lines.proofs.EachOnce.{differing_within}
use Rattle.jsonpath_lines.proofs.Words.{◌∙◌, Ok, ap}
use Rattle.jsonpath_lines.proofs.distinct.distinct_nodes.Goals as goal

pub returns-then-branch-clause-few : goal.returns-then-branch-clause-few
returns-then-branch-clause-few g c =
    let took = c.feed.ensures.all (c.in_ok-feed.was ∙ ap Ok c.if-branch.true) in
    differing_within c.args.limit c.distinct.result.items c.feed.new.sink.nodes.items c.feed.new.sink.room c.distinct.ensures took.held took.few
