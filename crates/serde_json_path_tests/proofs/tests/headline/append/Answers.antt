use Rattle.serde_json_path_tests.proofs.Words.{subst, view, located_nodes, with_rule, before_builtin, IsResult, path_tree, with_rule_of}
use Rattle.serde_json_path_tests.proofs.tests.headline.append.Goals as goal

pub returns : goal.returns
returns g c = λ kind segs reach seg shorter longer.
    let set = before_builtin (g.F.Functions.set c.args.functions.now) in
    let F = with_rule_of c.args.shorter.now set in
    let top = view c.args.document.now in
    let more = subst (λ rule. IsResult (with_rule rule set) top (path_tree c.args.longer.now) top (located_nodes c.in_ok-more.more)) c.requires.rule c.in_ok-more.ensures.selects in
    c.law_append.ensures F top kind segs reach seg top (located_nodes c.in_ok-nodes.nodes) (located_nodes c.in_ok-more.more)
    (subst (λ q. IsResult F top q top (located_nodes c.in_ok-nodes.nodes)) shorter c.in_ok-nodes.ensures.selects)
    (subst (λ q. IsResult F top q top (located_nodes c.in_ok-more.more)) longer more)
