-- A descendant segment's nodes are the child segment's at the node, then those of each child's subtree.
use Rattle.serde_json_path_core.proofs.Words.{◌≡◌, List, [], ◌∷◌, ◌++◌, map, flat_map, refl, sym, ap, ◌∙◌, append-nil, Data, Step, StepBefore, Located, Query, query, current, Segments, segment, child, descendant, Segment, FunctionSet, beneath, children, itself, placed, reached, results, results_from, chosen, AreChildren, AreSubtreeResults, flat_map-same, arith, nat_tests, common_steps}
use Rattle.serde_json_path_core.proofs.Meaning.ChildSteps.{in_children, children_ordered}
use Rattle.serde_json_path_core.proofs.Meaning.DerivationEnds.{results_beneath}
use Rattle.serde_json_path_core.proofs.Meaning.Derived.{computed_only}
use Rattle.serde_json_path_core.proofs.Meaning.Order.{step_once, in_order_once}
use Rattle.serde_json_path_core.proofs.Walks.Stacks.{unrolled}
use Rattle.serde_json_path_core.proofs.laws.law_descendants_in_document_order.Goals as goal

-- a list of the children is the computed one
children_are : (v : Data) (cs : List (Step × Data)) → AreChildren v cs → cs ≡ children v
children_are v cs h =
    in_order_once (λ (a b : Step × Data). StepBefore a.0 b.0) (λ a b. step_once a.0 b.0) cs (children v) h.0 (children_ordered v)
    (λ c k. (in_children v c).1 ((h.1 c).0 k)) (λ c k. (h.1 c).1 ((in_children v c).0 k))

module _ (F : FunctionSet) (top : Data) where
  -- the results at each of the children, below its step, joined
  abbrev subtrees : Query → List (Step × Data) → List Located
  subtrees q cs = flat_map (λ (c : Step × Data). map (beneath (c.0 ∷ [])) (results F top q c.1)) cs

  subtree_results : (q : Query) (cs : List (Step × Data)) (ns : List Located) → AreSubtreeResults F top q cs ns → ns ≡ subtrees q cs
  subtree_results q [] ns h = h
  subtree_results q (c ∷ cs) ns h = h.4 ∙ rw (computed_only F top q c.1 h.0 h.2, subtree_results q cs h.1 h.3) refl

  node_then_subtrees : (seg : Segment) (more : Segments) (v : Data) → results F top (query current (segment descendant seg more)) v
      ≡ results F top (query current (segment child seg more)) v ++ subtrees (query current (segment descendant seg more)) (children v)
  node_then_subtrees seg more v =
      let make : Located → List Located = λ m. flat_map (results_from F top more) (map (placed m.location) (chosen F top seg m.value)) in
      unrolled make descendant (itself v)
      ∙ ap (λ ns. ns ++ flat_map (λ c. flat_map make (reached descendant (placed [] c))) (children v)) (sym (append-nil (make (itself v))))
      ∙ ap (λ ns. results F top (query current (segment child seg more)) v ++ ns)
      (flat_map-same _ _ (λ c. results_beneath F top (segment descendant seg more) (placed [] c)) (children v))

pub returns : goal.returns
returns c = λ F top seg more v cs list here below typed is_list is_here are_children are_below.
    let whole = query current (segment descendant seg more) in
    let all = subtrees F top whole in
    computed_only F top whole v list is_list ∙ node_then_subtrees F top seg more v
    ∙ ap (λ ns. ns ++ all (children v)) (sym (computed_only F top (query current (segment child seg more)) v here is_here))
    ∙ ap (λ ns. here ++ ns) (sym (subtree_results F top whole cs below are_below ∙ ap all (children_are v cs are_children)))
