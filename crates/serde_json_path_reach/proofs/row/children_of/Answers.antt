use Rattle.serde_json_path_reach.proofs.Words.{Some, ap, name, nodes_in, option_map, segment_in, branch_at, selector_view, selectors_of, slice_get, sym, ◌∙◌, ◌≡◌}
use Rattle.serde_json_path_reach.proofs.Selectors.{one_selector}
use Rattle.serde_json_path_reach.proofs.row.children_of.Goals as goal

pub returns-in-None : goal.returns-in-None
returns-in-None c =
    let nodes = nodes_in c.args.query.now in
    let sels = selectors_of (segment_in (branch_at nodes c.args.segment.number)) in
    let first : slice_get sels 0 ≡ Some (name c.in-Some-Name.name.now) =
    sym c.selector_ref.ensures.selector_ref ∙ ap (option_map (selector_view nodes)) (c.in-Some-Name.is ∙ ap Some c.in-Some-Name.field-0-is) in
    let second = sym c.selector_ref-in-Some-Name.ensures.selector_ref ∙ ap (option_map (selector_view nodes)) c.in-None.is in
    λ s. one_selector sels (name c.in-Some-Name.name.now) s first second
