-- Chains of frames in a document, and where they stand.
use Rattle.serde_json_path_core.proofs.Words.{nat_tests, common_steps, ◌≡◌, ℕ, ◌+◌, ◌<◌, ◌≤◌, List, [], ◌∷◌, ◌++◌, length, Some, None, refl, sym, ap, subst, ◌∙◌, arith, inr, Data, Step, child_at, Stage, AreChildrenOf, Frame, begun, entered, IsAtChild, IsAtStart, IsOfValue, IsChain, IsStack, IsSameFrame, ∥∥₁_map, ∥∥₁_elim, ∥∥₁_prop, at, QueryKind, root, current, IsIn, start_of, StandsIn, EndsIn, IsStackIn, IsInside, AllStandIn, in_append}
use Rattle.serde_json_path_core.proofs.Walks.Heights.{height, height-child_at}
use Rattle.serde_json_path_core.proofs.Walks.Frames.{opened-of}
use Rattle.serde_json_path_core.proofs.Meaning.Derived.{at-append}

pub begun-of : (all : List Stage) (v : Data) → AreChildrenOf v (begun all v)
unfolding AreChildrenOf
begun-of all v = grind (arith, nat_tests, common_steps, opened-of)

-- ---- chains

-- without its last frame it is a chain, and what is left at that one are children of its value
pub chain-split : (First : Frame → Type 0) (ps : List Frame) (p : Frame) → IsChain First (ps ++ p ∷ []) → IsChain First ps × IsOfValue p
chain-split First [] p h = (tt, h.1)
chain-split First (q ∷ qs) p h = let above = chain-split (IsAtChild q.value) qs p h.2 in ((h.0, h.1, above.0), above.1)

-- the last frame is replaced by one at the same value
chain-held : (First : Frame → Type 0) (ps : List Frame) (p m : Frame) → (First p → First m) → IsSameFrame p m → IsChain First (ps ++ p ∷ []) → IsChain First (ps ++ m ∷ [])
chain-held First [] p m stays same h = (stays h.0, same.3 h.1, tt)
chain-held First (r ∷ rs) p m stays same h = grind (arith, nat_tests, common_steps, chain-held (IsAtChild r.value) rs p m (λ at. (at.0, same.0 ∙ at.1, at.2 ∙ ap Some (sym same.1))) same h.2)

-- a frame at a child of the last one is put above
chain-above : (First : Frame → Type 0) (ps : List Frame) (m q : Frame) → IsChain First (ps ++ m ∷ []) → IsAtChild m.value q → IsOfValue q → IsChain First ((ps ++ m ∷ []) ++ q ∷ [])
chain-above First [] m q h at left = (h.0, h.1, (at, left, tt))
chain-above First (r ∷ rs) m q h at left = (h.0, h.1, chain-above (IsAtChild r.value) rs m q h.2 at left)

chain-height : (First : Frame → Type 0) (n : ℕ) (ps : List Frame) → ((p : Frame) → First p → height p.value < n) → IsChain First ps → length ps ≤ n
chain-height First n [] low h = omega arith
chain-height First n (p ∷ ps) low h = grind (arith, nat_tests, common_steps, height, height-child_at, chain-height (IsAtChild p.value) (height p.value) ps (λ q at. height-child_at p.value at.0 q.value at.2) h.2)

-- ---- stacks

pub stack-held : (start : Data) (ps : List Frame) (p m : Frame) → IsStack start (ps ++ p ∷ []) → IsSameFrame p m → IsStack start (ps ++ m ∷ [])
stack-held start ps p m h same = chain-held (IsAtStart start) ps p m (λ at. (same.0 ∙ at.0, same.1 ∙ at.1)) same h

-- the same, and a frame at a child of it is put above
pub stack-moved : (start : Data) (ps : List Frame) (p m q : Frame) (s : Step) → IsStack start (ps ++ p ∷ []) → IsSameFrame p m → q.step ≡ Some s → child_at p.value s ≡ Some q.value → IsOfValue q
    → IsStack start ((ps ++ m ∷ []) ++ q ∷ [])
stack-moved start ps p m q s h same step leads left = grind (arith, nat_tests, common_steps, chain-above, stack-held)

-- a frame where a walk begins is a stack
pub stack-started : (all : List Stage) (start : Data) (ps : List Frame) → ps ≡ entered None 0 all start ∷ [] → IsStack start ps
stack-started all start ps e = subst (IsStack start) (sym e) ((refl, refl), begun-of all start, tt)

-- a stack has at most one frame more than the start is high
pub stack-height : (start : Data) (ps : List Frame) → IsStack start ps → length ps ≤ height start + 1
stack-height start ps h = chain-height (IsAtStart start) (height start + 1) ps (λ p at. let same = ap height at.1 in omega arith) h

-- ---- values that stand in the document: those of a walk's frames, and their children

pub root_stands : (top : Data) → StandsIn top top
root_stands top = ∣ ([], refl) ∣₁

-- where a query begins
pub start_stands : (kind : QueryKind) (top here : Data) → StandsIn top here → StandsIn top (start_of kind top here)
start_stands root top here h = root_stands top
start_stands current top here h = h

pub child_stands : (top v : Data) (s : Step) (c : Data) → child_at v s ≡ Some c → StandsIn top v → StandsIn top c
child_stands top v s c leads h =
    ∥∥₁_map h (λ l. (l.0 ++ s ∷ [], rw (at-append top l.0 (s ∷ []), l.1, leads) refl))

-- ---- frames

-- what is left at a frame
pub left_stands : (top : Data) (p : Frame) → ∥ IsInside top p ∥₁ → AllStandIn top p.left
unfolding AreChildrenOf
left_stands top p h = λ c i. ∥∥₁_elim h ∥∥₁_prop (λ inside. child_stands top p.value c.0 c.1 (inside.1 c i) inside.0)

chain-inside : (top : Data) (First : Frame → Type 0) (ps : List Frame) (p : Frame) → ((q : Frame) → First q → StandsIn top q.value) → IsChain First (ps ++ p ∷ []) → IsInside top p
chain-inside top First [] p stands h = (stands p h.0, h.1)
chain-inside top First (q ∷ qs) p stands h = chain-inside top (IsAtChild q.value) qs p (λ r at. child_stands top q.value at.0 r.value at.2 (stands q h.0)) h.2

-- the last frame of a stack
pub stack-inside : (top start : Data) (ps : List Frame) (p : Frame) → StandsIn top start → IsStack start (ps ++ p ∷ []) → IsInside top p
stack-inside top start ps p stands h = chain-inside top (IsAtStart start) ps p (λ q at. subst (StandsIn top) (sym at.1) stands) h

-- what is left of children that stand there
pub ends-stand : (top : Data) (xs ys : List (Step × Data)) → EndsIn xs ys → AllStandIn top xs → AllStandIn top ys
ends-stand top xs ys ends h = λ c i. h c (subst (IsIn c) (sym ends.1) ((in_append c ends.0 ys).1 (inr i)))

-- the frame where segments begin at a value
pub entered-inside : (top v : Data) (all : List Stage) (ps : List Frame) → StandsIn top v → ps ≡ entered None 0 all v ∷ [] → IsStackIn top ps
entered-inside top v all ps stands begins = (v, stands, stack-started all v ps begins)
