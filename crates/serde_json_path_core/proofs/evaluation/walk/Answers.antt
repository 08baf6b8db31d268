use Rattle.serde_json_path_core.proofs.Words.{sym, subst, ap, ◌∙◌, view, start_of, nodes_in, tree_of, rule_of, with_rule, frames_view, rest_of, stages, stages_at, IsResult, arith, nat_tests, common_steps}
use Rattle.serde_json_path_core.proofs.Walks.Chains.{stack-started}
use Rattle.serde_json_path_core.proofs.Meaning.Derived.{computed_result}
use Rattle.serde_json_path_core.proofs.Walks.Stacks.{begun-results}
use Rattle.serde_json_path_core.proofs.evaluation.walk.Goals as goal

pub invariant_of-result : goal.invariant_of-result
invariant_of-result g c = record { stack = ∣ stack-started (stages_at (nodes_in c.args.query.now) c.segments.result.now) (view c.args.document.now) _ c.in_ok-frames.ensures ∣₁ }

pub returns-clause-selects : goal.returns-clause-selects
returns-clause-selects g c =
    let F = with_rule (rule_of c.args.query.now) (g.F.Functions.set c.args.functions) in
    let q = c.args.query.now in
    let tree = tree_of q in
    let top = view c.args.document.now in
    let frames = frames_view c.in_ok-frames.frames.items in
    let begun = begun-results F top tree top top _ frames c.segments.ensures.tree (sym (ap (λ kind. start_of kind top top) q.rooted)) c.in_ok-frames.ensures in
    subst (IsResult F top tree top) (sym begun ∙ ap (λ segs. rest_of F top (stages segs) frames) c.segments.ensures.tree)
    (computed_result F top tree top)
