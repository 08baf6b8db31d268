-- What a list keeps of its nodes, read from its parts.
use Rattle.jsonpath_owned_nodes.proofs.Words.{common_steps, ◌≡◌, ℕ, suc, ◌+◌, ◌<◌, String, string_bytes, List, [], ◌∷◌, ◌++◌, length, map, drop, get_or, Option, Bor, Some, None, ◌⊎◌, inl, inr, zero, refl, sym, ap, ◌∙◌, arith, slice_get, option_and_then, take_all, option_copied, IsGetResult, slice_get_past, slice_get_read, map-append, append_assoc, drop_all, drop_more, length_push, All-head, All-tail, All-push, All-weaker, All, Data, Step, child_at, at, step_in, IsStored, IsLocation, nodes_in, AreParts, NodeInfo, StoredStep, BeginsWith}
use Rattle.jsonpath_owned_nodes.proofs.Names.{steps_kept, all_kept}

-- there are as many nodes as parts
pub length_nodes_in : (names : List ℕ) (locations : List (List StoredStep)) (infos : List NodeInfo) → length locations ≡ length infos
    → length (nodes_in names locations infos) ≡ length infos
length_nodes_in names [] [] e = refl
length_nodes_in names [] (info ∷ infos) e = cc
length_nodes_in names (steps ∷ others) [] e = cc
length_nodes_in names (steps ∷ others) (info ∷ infos) e = ap suc (length_nodes_in names others infos (omega arith))

-- the node at an index has the parts at that index
pub node_at : (names : List ℕ) (locations : List (List StoredStep)) (infos : List NodeInfo) (i : ℕ) → length locations ≡ length infos
    → ((slice_get (nodes_in names locations infos) i ≡ None) × (slice_get locations i ≡ None) × (slice_get infos i ≡ None))
    ⊎ ((steps : List StoredStep) × (info : NodeInfo) × (slice_get locations i ≡ Some steps) × (slice_get infos i ≡ Some info)
    × (slice_get (nodes_in names locations infos) i ≡ Some (record { location = map (step_in names) steps; info = info })))
node_at names [] [] i e = inl (refl, refl, refl)
node_at names [] (info ∷ infos) i e = cc
node_at names (steps ∷ others) [] i e = cc
node_at names (steps ∷ others) (info ∷ infos) zero e = inr (steps, info, refl, refl, refl)
node_at names (steps ∷ others) (info ∷ infos) (suc i) e = node_at names others infos i (omega arith)

-- what is copied out of a list at an index
pub copied_at : (infos : List NodeInfo) (i : ℕ) (r : Option (Bor NodeInfo)) → IsGetResult infos i i r → option_copied r ≡ slice_get infos i
copied_at infos i r h = grind (arith, common_steps, slice_get_past, slice_get_read)

-- nothing is found below a value that lacks the next child
pub none_below : (value : Data) (names : List ℕ) (steps : List StoredStep) (i : ℕ) (default : StoredStep) → i < length steps
    → None ≡ child_at value (step_in names (get_or steps i default)) → at value (map (step_in names) (drop i steps)) ≡ None
none_below value names steps i default within none = grind (arith, common_steps, drop_more)

-- one more node
nodes_in-push : (names : List ℕ) (locations : List (List StoredStep)) (infos : List NodeInfo) (steps : List StoredStep) (info : NodeInfo)
    → length locations ≡ length infos
    → nodes_in names (locations ++ steps ∷ []) (infos ++ info ∷ []) ≡ nodes_in names locations infos ++ record { location = map (step_in names) steps; info = info } ∷ []
nodes_in-push names [] [] steps info e = refl
nodes_in-push names [] (first ∷ infos) steps info e = cc
nodes_in-push names (first ∷ others) [] steps info e = cc
nodes_in-push names (first ∷ others) (known ∷ infos) steps info e =
    ap (λ rest. record { location = map (step_in names) first; info = known } ∷ rest) (nodes_in-push names others infos steps info (omega arith))

-- the steps of the location that is being stored: `rest` is still to come
pub record IsBegun (names : List ℕ) (steps : List StoredStep) (rest location : List Step) : Type 0 where
  pub stored : All (IsStored names) steps
  pub same : map (step_in names) steps ++ rest ≡ location

module _ {Z : Type 0} (old new : String Z) (grown : BeginsWith (string_bytes new) (string_bytes old)) where
  -- the nodes stay when the text of names goes on
  nodes_kept : (locations : List (List StoredStep)) (infos : List NodeInfo) → All (All (IsStored (string_bytes old))) locations
      → nodes_in (string_bytes new) locations infos ≡ nodes_in (string_bytes old) locations infos
  nodes_kept [] infos are = refl
  nodes_kept (steps ∷ others) [] are = refl
  nodes_kept (steps ∷ others) (info ∷ infos) are =
      let first = steps_kept old new grown steps (All-head (All (IsStored (string_bytes old))) steps others are) in
      let rest = nodes_kept others infos (All-tail (All (IsStored (string_bytes old))) steps others are) in cc

  -- one more node, whose names are appended
  module _ (locations : List (List StoredStep)) (infos : List NodeInfo) (steps : List StoredStep) (info : NodeInfo) (location : List Step)
      (are : AreParts (string_bytes old) locations infos) (is : IsLocation (string_bytes new) steps location) where
    pub parts_more : AreParts (string_bytes new) (locations ++ steps ∷ []) (infos ++ info ∷ [])
    parts_more =
        let kept = All-weaker (All (IsStored (string_bytes old))) (All (IsStored (string_bytes new))) (all_kept old new grown) locations are.stored in
        record {
          one_each = simp length_push (ap (λ n. n + 1) are.one_each);
          stored = All-push (All (IsStored (string_bytes new))) locations steps kept is.stored;
        }

    pub nodes_more : nodes_in (string_bytes new) (locations ++ steps ∷ []) (infos ++ info ∷ []) ≡ nodes_in (string_bytes old) locations infos ++ record { location = location; info = info } ∷ []
    nodes_more = nodes_in-push (string_bytes new) locations infos steps info are.one_each ∙ rw (nodes_kept locations infos are.stored, is.same)

  pub step_more : (steps : List StoredStep) (step : StoredStep) (next : Step) (left rest location : List Step)
      → IsBegun (string_bytes old) steps left location → left ≡ next ∷ rest → IsStored (string_bytes new) step → step_in (string_bytes new) step ≡ next
      → IsBegun (string_bytes new) (steps ++ step ∷ []) rest location
  step_more steps step next left rest location begun e stored is =
      let same = steps_kept old new grown steps begun.stored in
      let pushed = map-append (step_in (string_bytes new)) steps (step ∷ []) in
      record {
        stored = All-push (IsStored (string_bytes new)) steps step (all_kept old new grown steps begun.stored) stored;
        same = ap (λ front. front ++ rest) pushed ∙ append_assoc (map (step_in (string_bytes new)) steps) (step_in (string_bytes new) step ∷ []) rest
            ∙ rw (same, is) (rw (← e) begun.same);
      }

-- what readers of a list cite
pub ruleset of_nodes = (length_nodes_in, node_at, copied_at, nodes_more, none_below, drop_all, take_all)
