use Rattle.serde_json_path_core.proofs.Words.{refl, rules, sym, ap, subst, ◌∙◌, ∥∥₁_map, view, segments_at, nodes_in, signatures_of, document_of, rest_of, IsStack, IsStackIn, stages, stages_at, frames_view, segments_of, arith, nat_tests, common_steps}
use Rattle.serde_json_path_core.specs.Walks.{set_of, query_of}
use Rattle.serde_json_path_core.proofs.Sound.{sound-segments, whole-sound}
use Rattle.serde_json_path_core.proofs.Walks.Chains.{root_stands}
use Rattle.serde_json_path_core.proofs.Steps.Lookups.{found-none, found-some, if-err}
use Rattle.serde_json_path_core.proofs.evaluation.walks.Walk.next_into.Goals as goal

pub find_next-requires : goal.find_next-requires
find_next-requires g c =
    let w = c.args.self.now in
    let whole = whole-sound (set_of w) (signatures_of w.scope.query.now) (query_of w) w.scope.fits w.scope.query.now.typed in
    let sound = sound-segments (set_of w) (query_of w) (query_of w) (segments_at (nodes_in w.scope.query.now) c.segments-segments.result.now) c.segments-segments.ensures.tree whole in
    let inside : ∥ IsStackIn (document_of w) (frames_view w.frames.items) ∥₁ = ∥∥₁_map w.stack (λ h. (document_of w, root_stands (document_of w), h)) in
    search rules

pub pass_node-requires : goal.pass_node-requires
pass_node-requires g c = (found-some _ _ c.in_ok-find_next.field-0 c.in-Some.found c.in-Some.is c.in_ok-find_next.ensures.found).0

pub invariant_of-self : goal.invariant_of-self
invariant_of-self g c = record { stack = ∥∥₁_map c.args.self.now.stack (c.find_next.ensures.kept.2 (view c.args.self.now.scope.root.now)) }

pub invariant_of-self-in-Some : goal.invariant_of-self-in-Some
invariant_of-self-in-Some g c =
    let w = c.args.self.now in
    let start = view w.scope.root.now in
    let at = found-some _ _ c.in_ok-find_next.field-0 c.in-Some.found c.in-Some.is c.in_ok-find_next.ensures.found in
    record { stack = ∥∥₁_map w.stack (λ h. subst (IsStack start) (sym c.pass_node.ensures) (at.1.2 start (c.find_next.ensures.kept.2 start h))) }

pub invariant_of-self-in-Break-branch-3 : goal.invariant_of-self-in-Break-branch-3
invariant_of-self-in-Break-branch-3 g c = record { stack = ∥∥₁_map c.args.self.now.stack (c.find_next.ensures.kept.2 (view c.args.self.now.scope.root.now)) }

pub returns-in_err-find_next-clause-unchanged : goal.returns-in_err-find_next-clause-unchanged
returns-in_err-find_next-clause-unchanged g c =
    if-err _ c.from_residual.result (rw (← c.segments-segments.ensures.tree) (sym c.find_next.ensures.kept.0))

pub returns-in_err-node-in-Some-clause-unchanged : goal.returns-in_err-node-in-Some-clause-unchanged
returns-in_err-node-in-Some-clause-unchanged g c =
    if-err _ c.from_residual-in_err-node-in-Some.result (rw (← c.segments-segments.ensures.tree) (sym c.find_next.ensures.kept.0))

pub returns-in-None-clause-given : goal.returns-in-None-clause-given
returns-in-None-clause-given g c =
    let w = c.args.self.now in
    let none = ap frames_view (found-none _ _ c.in_ok-find_next.field-0 c.in-None.is c.in_ok-find_next.ensures.found) in (
      rw (← c.segments-segments.ensures.tree) (c.find_next.ensures.kept.0 ∙ ap (rest_of (set_of w) (document_of w) (stages_at (nodes_in w.scope.query.now) c.segments-segments.result.now)) none),
      ap (rest_of (set_of w) (document_of w) (stages (segments_of (query_of w)))) none,
    )

pub returns-clause-given : goal.returns-clause-given
returns-clause-given g c =
    let at = found-some _ _ c.in_ok-find_next.field-0 c.in-Some.found c.in-Some.is c.in_ok-find_next.ensures.found in
    rw (← c.segments-segments.ensures.tree)
    (c.find_next.ensures.kept.0 ∙ rw (at.1.0, sym c.pass_node.ensures, c.in_ok-node-in-Some.ensures.node, c.as_slice.ensures.value) refl)
