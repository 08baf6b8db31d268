-- A location, written step by step.
use Rattle.serde_json_path_nodes.proofs.Words.{◌≡◌, ℕ, ◌+◌, ◌<◌, List, ◌++◌, length, get_or, map, take, append-nil, flat_map-append, map-append, take_more, Step, normal, normal_step, step_view, PathElement}

-- the text of a location that has one step more
pub normal_more : (items : List PathElement) (i : ℕ) (d : PathElement) (s : Step) → i < length items → step_view (get_or items i d) ≡ s
    → normal (map step_view (take i items)) ++ normal_step s ≡ normal (map step_view (take (i + 1) items))
normal_more items i d s h is = rw (take_more items i d h) (simp (map-append, flat_map-append, is, append-nil))
