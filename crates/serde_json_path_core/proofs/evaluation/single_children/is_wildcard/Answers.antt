use Rattle.serde_json_path_core.proofs.Words.{◌≡◌, ◌∷◌, [], slice_index_or, subst, refl, nodes_in, selector_view, stage_at, child, wildcard, Part, SelectorRef, arith, nat_tests, common_steps}
use Rattle.serde_json_path_core.proofs.Walks.SingleChildren.{select-only}
use Rattle.serde_json_path_core.proofs.evaluation.single_children.is_wildcard.Goals as goal

pub returns-in-Some-Wildcard : goal.returns-in-Some-Wildcard
returns-in-Some-Wildcard c = λ yes.
    let nodes = nodes_in c.args.query.now in
    let d : Part = record { number = 0 } in
    let IsOnly : SelectorRef → Type 0 = λ s. stage_at nodes (slice_index_or c.args.segments.now 0 d) ≡ record { kind = child; selectors = selector_view nodes s ∷ [] } in
    select-only nodes c.args.segments.now d wildcard c.in-len1.len_at_least c.in-len1.len_below (subst IsOnly c.in-Some-Wildcard.field-0-is c.in-Some-Wildcard.ensures.found) (λ F top cs. refl)
