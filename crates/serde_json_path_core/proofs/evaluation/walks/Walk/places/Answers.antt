use Rattle.serde_json_path_core.proofs.Words.{◌≡◌, ◌≤◌, ◌+◌, sym, subst, ◌∙◌, arith, ∥∥₁_elim, length-map, view, frame_view, frames_view, le_prop, nat_tests, common_steps}
use Rattle.serde_json_path_core.proofs.Walks.Chains.{stack-height}
use Rattle.serde_json_path_core.proofs.Walks.Heights.{height, computed_height, same_height}
use Rattle.serde_json_path_core.proofs.evaluation.walks.Walk.places.Goals as goal

pub returns-clause-within : goal.returns-clause-within
returns-clause-within g c = λ most is.
    let w = c.args.self.now in
    let top = view w.scope.root.now in
    let same : most ≡ height top = same_height top most (height top) is (computed_height top) in
    let within : c.len.result ≤ height top + 1 =
    ∥∥₁_elim w.stack le_prop
    (λ stack. subst (λ n. n ≤ height top + 1) (length-map w.frames.items frame_view ∙ sym (c.len.ensures ∙ w.frames.ok.0)) (stack-height top (frames_view w.frames.items) stack)) in
    omega arith
