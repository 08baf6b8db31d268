-- Lists that stand one after the other, each up to its end.
use Rattle.jsonpath_owned_nodes.proofs.Words.{common_steps, ◌≡◌, ℕ, zero, suc, ◌-◌, ◌≤◌, ◌<◌, List, [], ◌∷◌, ◌++◌, length, take, drop, get_or, Some, refl, sym, ap, ◌∙◌, arith, length-drop, slice_range, slice_get, take-append-le, drop-append-le, drop_all, length_push, slice_get_past, take_all, length-take-le, take-append-drop, cut, last_end, AreEnds}

-- there are as many lists as ends
pub length_cut : {T : Type 0} (start : ℕ) (ends : List ℕ) (items : List T) → length (cut start ends items) ≡ length ends
length_cut start [] items = refl
length_cut start (end ∷ ends) items = ap suc (length_cut end ends items)

-- the first list begins within the items, and so does the one after the last
pub last_within : (start : ℕ) (ends : List ℕ) (total : ℕ) → AreEnds start ends total → (start ≤ last_end start ends) × (last_end start ends ≤ total)
last_within start [] total h = (omega arith, h)
last_within start (end ∷ ends) total h = let rest = last_within end ends total h.1 in (omega arith, omega arith)

-- each list ends within the items, and begins before it ends
pub ends_at : (start : ℕ) (ends : List ℕ) (total i d : ℕ) → AreEnds start ends total → i < length ends
    → (get_or ends i d ≤ total) × (get_or (start ∷ ends) i 0 ≤ get_or ends i d)
ends_at start [] total i d h within = absurd (omega arith)
ends_at start (end ∷ ends) total zero d h within = let rest = last_within end ends total h.1 in (omega arith, h.0)
ends_at start (end ∷ ends) total (suc i) d h within = ends_at end ends total i d h.1 (omega arith)

-- the list at a place stands between the end before it and its own
pub cut_at : {T : Type 0} (start : ℕ) (ends : List ℕ) (items : List T) (i d : ℕ) → i < length ends
    → slice_get (cut start ends items) i ≡ Some (slice_range items (get_or (start ∷ ends) i 0) (get_or ends i d))
cut_at start [] items i d within = absurd (omega arith)
cut_at start (end ∷ ends) items zero d within = refl
cut_at start (end ∷ ends) items (suc i) d within = cut_at end ends items i d (omega arith)

-- what is appended changes no part that stands before it
pub slice_range-more : {T : Type 0} (items more : List T) (start end : ℕ) → start ≤ end → end ≤ length items
    → slice_range (items ++ more) start end ≡ slice_range items start end
slice_range-more items more start end rises within = grind (arith, common_steps, drop-append-le, take-append-le, length-drop)

-- items that are appended change no list that was ended
pub cut_more : {T : Type 0} (start : ℕ) (ends : List ℕ) (items more : List T) → AreEnds start ends (length items)
    → cut start ends (items ++ more) ≡ cut start ends items
cut_more start [] items more h = refl
cut_more start (end ∷ ends) items more h = grind (arith, common_steps, slice_range-more, last_within, (cut_more end ends items more h.1))

-- the ends are those of any items that the last one is within
pub ends_of : (start : ℕ) (ends : List ℕ) (total other : ℕ) → AreEnds start ends total → last_end start ends ≤ other → AreEnds start ends other
ends_of start [] total other h within = within
ends_of start (end ∷ ends) total other h within = (h.0, ends_of end ends total other h.1 within)

-- a list is ended where the items end
pub ends_push : (start : ℕ) (ends : List ℕ) (total : ℕ) → AreEnds start ends total → AreEnds start (ends ++ total ∷ []) total
ends_push start [] total h = (h, omega arith)
ends_push start (end ∷ ends) total h = (h.0, ends_push end ends total h.1)

pub last_end_push : (start : ℕ) (ends : List ℕ) (total : ℕ) → last_end start (ends ++ total ∷ []) ≡ total
last_end_push start ends total = grind (arith, common_steps, length_push)

pub cut_push : {T : Type 0} (start : ℕ) (ends : List ℕ) (items : List T) → AreEnds start ends (length items)
    → cut start (ends ++ length items ∷ []) items ≡ cut start ends items ++ drop (last_end start ends) items ∷ []
cut_push start [] items h = ap (λ run. run ∷ []) (take_all (length items - start) (drop start items) (omega (arith, length-drop start items)))
cut_push start (end ∷ ends) items h = ap (λ runs. slice_range items start end ∷ runs) (cut_push end ends items h.1)

-- the items after the last end can go
pub cut_kept : {T : Type 0} (start : ℕ) (ends : List ℕ) (items : List T) → AreEnds start ends (length items)
    → cut start ends (take (last_end start ends) items) ≡ cut start ends items
cut_kept start ends items h =
    let last = last_end start ends in
    let long = length-take-le last items (last_within start ends (length items) h).1 in
    let are = ends_of start ends (length items) (length (take last items)) h (omega arith) in
    sym (cut_more start ends (take last items) (drop last items) are) ∙ ap (cut start ends) (take-append-drop last items)

-- what `Runs` cites
pub ruleset of_cuts = (length_cut, cut_more, cut_push, cut_kept, ends_of, ends_push, last_end_push, last_within, ends_at, cut_at, drop-append-le, drop_all, length_push, length-take-le, slice_get_past)
