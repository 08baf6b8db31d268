use Rattle.serde_json_path_core.proofs.Words.{sym, ap, ◌∙◌, view, start_of, signatures_of, tree_of, rule_of, with_rule, results, arith, nat_tests, common_steps}
use Rattle.serde_json_path_core.proofs.Meaning.Derived.{computed_result}
use Rattle.serde_json_path_core.proofs.Sound.{sound-segments, whole-sound}
use Rattle.serde_json_path_core.proofs.Walks.Chains.{root_stands}
use Rattle.serde_json_path_core.proofs.Walks.SingleChildren.{values-query}
use Rattle.serde_json_path_core.proofs.evaluation.evaluate.Goals as goal

pub all_from-requires-clause-sound : goal.all_from-requires-clause-sound
all_from-requires-clause-sound g c =
    let F = with_rule (rule_of c.args.query.now) (g.F.Functions.set c.args.functions) in
    let q = c.args.query.now in
    (c.segments.ensures.are, sound-segments F (tree_of q) _ _ c.segments.ensures.tree (whole-sound F (signatures_of q) (tree_of q) ∣ c.requires ∣₁ q.typed))

pub all_from-requires-clause-inside : goal.all_from-requires-clause-inside
all_from-requires-clause-inside g c = root_stands (view c.args.document.now)

pub returns-clause-selects : goal.returns-clause-selects
returns-clause-selects g c =
    let F = with_rule (rule_of c.args.query.now) (g.F.Functions.set c.args.functions) in
    let q = c.args.query.now in
    let top = view c.args.document.now in
    let values = values-query F top (tree_of q) top top _ c.segments.ensures.tree (sym (ap (λ kind. start_of kind top top) q.rooted)) in
    (results F top (tree_of q) top, computed_result F top (tree_of q) top, c.from.ensures ∙ c.in_ok-found.ensures.means ∙ sym values)
