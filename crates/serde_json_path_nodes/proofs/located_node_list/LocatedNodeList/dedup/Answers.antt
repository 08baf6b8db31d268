use Rattle.serde_json_path_nodes.proofs.Words.{◌≡◌, List, length, map, vec_len, rules, ap, subst, ◌∙◌, dedup, IsNonDecreasingBy, IsPermutation, IsSortedBy, eq_by_cmp, is_lt, on_total, with_items_is, IsNonDecreasingBy-from_sort_by_key, ranks_by, first_places, node_cmp, same_steps, located, LocatedNode, always_returns_same, dedup_same}
use Rattle.serde_json_path_nodes.proofs.FirstPlaces.{first_places_are_first, by_location, number_of}
use Rattle.serde_json_path_nodes.proofs.KeptBySorting.{kept_by_sorting, order_then_number-total}
use Rattle.serde_json_path_nodes.proofs.Orders.{location_cmp-total, location_cmp-ties}
use Rattle.serde_json_path_nodes.proofs.located_node_list.LocatedNodeList.dedup.Goals as goal

pub returns : goal.returns
returns c =
    let numbered = c.number_nodes.new.nodes in
    let sorted = c.sort_unstable_by.new.self.items in
    let total = on_total (λ (node : LocatedNode). node.location) location_cmp-total in
    let up : IsSortedBy (λ a b. is_lt (node_cmp a b)) sorted =
    c.sort_unstable_by.ensures.sorted (λ a b. is_lt (node_cmp a b)) (ranks_by (order_then_number-total by_location number_of total) (λ (node : LocatedNode). node))
    (always_returns_same _ _ _ (λ a r q k. search rules)) in
    let kept : c.dedup_by.new.self.items ≡ dedup (λ a b. same_steps a.location b.location) sorted =
    dedup_same _ (λ (a b : LocatedNode). same_steps a.location b.location) _ (λ x y b f' x' y' k. search rules) _ _ c.dedup_by.ensures.filtered in
    let rises : IsNonDecreasingBy number_of c.sort_unstable_by_key.new.self.items =
    IsNonDecreasingBy-from_sort_by_key number_of _ c.sort_unstable_by_key.ensures.sorted (λ a r q k. search rules) in
    let ties : dedup (λ (a b : LocatedNode). same_steps a.location b.location) sorted ≡ dedup (eq_by_cmp by_location) sorted =
    λ i. dedup (λ (a b : LocatedNode). location_cmp-ties a.location b.location i) sorted in
    let long : length numbered ≡ vec_len c.args.self.nodes = c.number_nodes.auto.nodes ∙ c.as_mut_slice.ensures.len in
    let moved : IsPermutation numbered sorted = subst (λ (nodes : List LocatedNode). IsPermutation nodes sorted) (with_items_is c.args.self.nodes numbered long) c.sort_unstable_by.ensures.permutation in
    let moved_back : IsPermutation (dedup (eq_by_cmp by_location) sorted) c.sort_unstable_by_key.new.self.items =
    rw (← ties, ← kept) c.sort_unstable_by_key.ensures.permutation in
    ap (map located) (kept_by_sorting by_location number_of total numbered sorted c.sort_unstable_by_key.new.self.items c.number_nodes.ensures.numbered moved up moved_back rises)
    ∙ first_places_are_first numbered c.number_nodes.ensures.numbered
    ∙ ap first_places c.number_nodes.ensures.same
    ∙ ap (λ (nodes : List LocatedNode). first_places (map located nodes)) c.as_mut_slice.ensures.value
