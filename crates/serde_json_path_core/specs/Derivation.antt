-- Derivations of a query: how it comes to a node, and which derivation stands before which
-- (RFC 9535, sections 2.5.1.2 and 2.5.2.2).
use Rattle.std.specs.Prelude.{◌≡◌, ℕ, zero, suc, ◌<◌, pos, ◌<ℤ◌, List, [], ◌∷◌, ◌++◌, ◌⊎◌, Some}
use Rattle.serde_json_path_core.specs.Imports.{Data, Step, at, StepBefore, DescentBefore, Located, QueryKind, root, current, Segments, no_segments, segment, Segment, long_hand, Selectors, no_selectors, selector, Selector, slice}
use Rattle.serde_json_path_core.specs.Slices.{step_of}

-- What a derivation does at one segment: child steps down to where the selectors are applied, the number of the
-- selector, from 0, and the step that it selects there. A `.name` and a `.*` count as one selector.
pub record Triple : Type 0 where
  pub descent : List Step
  pub number : ℕ
  pub step : Step

-- all descents and steps of a derivation, which has a triple for each segment, joined
abbrev pub location_of : List Triple → List Step
location_of [] = []
location_of (x ∷ xs) = (x.descent ++ x.step ∷ []) ++ location_of xs

-- where a query begins: at the document's root, or at the node at hand
abbrev pub start_of : QueryKind → Data → Data → Data
start_of root top here = top
start_of current top here = here

-- the pair's location is the derivation's, and its value stands there
abbrev pub BelongsTo : Data → List Triple → Located → Type 0
BelongsTo start xs n = (n.location ≡ location_of xs) × (at start n.location ≡ Some n.value)

-- a node below a location
abbrev pub beneath : List Step → Located → Located
beneath above n = record { location = above ++ n.location; value = n.value }

-- ---- order

-- of two steps that one selector selects: a slice with a step below 0 takes them falling, and all else takes document
-- order
abbrev pub SelectedBefore : Selector → Step → Step → Type 0
SelectedBefore (slice s) a b = ((pos 0 <ℤ step_of s) × StepBefore a b) ⊎ ((step_of s <ℤ pos 0) × StepBefore b a)
SelectedBefore _ a b = StepBefore a b

-- of two steps that the selector of that number selects
abbrev pub SelectedBeforeBy : Selectors → ℕ → Step → Step → Type 0
SelectedBeforeBy no_selectors number a b = ⊥
SelectedBeforeBy (selector sel more) zero a b = SelectedBefore sel a b
SelectedBeforeBy (selector sel more) (suc number) a b = SelectedBeforeBy more number a b

abbrev pub SelectedBeforeIn : Segment → ℕ → Step → Step → Type 0
SelectedBeforeIn (long_hand sels) number a b = SelectedBeforeBy sels number a b
SelectedBeforeIn _ number a b = StepBefore a b

-- by descent in document order, then by the number of the selector, then by the order of that selector
abbrev pub TripleBefore : Segment → Triple → Triple → Type 0
TripleBefore seg x y =
    DescentBefore x.descent y.descent
    ⊎ ((x.descent ≡ y.descent) × ((x.number < y.number) ⊎ ((x.number ≡ y.number) × SelectedBeforeIn seg x.number x.step y.step)))

-- by the first triple that differs
abbrev pub Before : Segments → List Triple → List Triple → Type 0
Before no_segments xs ys = ⊥
Before (segment kind seg more) (x ∷ xs) (y ∷ ys) = TripleBefore seg x y ⊎ ((x ≡ y) × Before more xs ys)
Before (segment kind seg more) _ _ = ⊥
