-- Stacks of frames: what is left of a walk, and the stack with which one begins.
use Rattle.serde_json_path_core.proofs.Words.{nat_tests, common_steps, ◌≡◌, ℕ, ◌+◌, List, [], ◌∷◌, ◌++◌, map, drop, flat_map, Option, Some, refl, ap, ◌∙◌, sym, append_assoc, ◌<◌, ◌≤◌, length, true, arith, length-append, None, flat_map-append, append-nil, drop-drop, flat_map-map, Step, Located, SegmentKind, child, descendant, Selector, name, wildcard, beneath, placed, reached, Stage, Frame, candidates, lower, entered, frame_arrivals, is_leaf, here, stack_path, visit, visit_rest, visit_place, visit_stack, admitted, unfiltered, rest_of, work, flat_map-same, flat_map-flat_map, FunctionSet, Data, Query, query, kind_of, segments_of, Segments, no_segments, segment, Segment, dot_name, dot_wildcard, long_hand, Selectors, no_selectors, selector, filter, start_of, results, results_from, chosen, chosen_by, selected, selectors_of, selectors_list, stages, array, object}
use Rattle.serde_json_path_core.proofs.Meaning.Descents.{below_child, descents_are}
use Rattle.serde_json_path_core.proofs.Walks.Frames.{next_opened}

-- ---- what a stack of frames has left, when its last frame gives its node, is dropped, or moves on to a child

abbrev pub located : List Step → Data → Located
located above v = record { location = above; value = v }

-- ---- a node and all below it, level by level

module _ {A : Type 0} (make : Located → List A) where
  -- a node, and then its children with all below them
  pub unrolled : (kind : SegmentKind) (n : Located) → flat_map make (reached kind n) ≡ make n ++ flat_map (λ c. flat_map make (reached kind (placed n.location c))) (lower kind n.value)
  unrolled kind n = grind (arith, nat_tests, common_steps, flat_map-map, flat_map-same, flat_map-flat_map, below_child, descents_are)

-- ---- stacks

pub stack_path-last : (above : List Step) (ps : List Frame) (p : Frame) → stack_path above (ps ++ p ∷ []) ≡ here (stack_path above ps) p
stack_path-last above [] p = refl
stack_path-last above (q ∷ qs) p = stack_path-last (here above q) qs p

module _ (admit : Selector → List (Step × Data) → List (Step × Data)) {A : Type 0} (before : List A) (leaf : Located → List A) (all : List Stage) where
  abbrev made : List Stage → Located → List A
  made = visit admit before leaf

  abbrev of_arrival : List Step → ℕ × (Step × Data) → List A
  of_arrival above x = made (drop x.0 all) (placed above x.1)

  abbrev of_stack : List Frame → List A
  of_stack = visit_stack admit before leaf all []

  -- the children that the selectors of a stage admit
  abbrev picks : List Selector → Data → List (Step × Data)
  picks sels v = flat_map (λ s. admit s (candidates s v)) sels

  -- where a segment begins
  begins : (number : ℕ) (stage : Stage) (more : List Stage) (n : Located) → stage ∷ more ≡ drop number all
      → made (stage ∷ more) n ≡ before ++ flat_map (of_arrival n.location) (map (λ c. (number + 1, c)) (picks stage.selectors n.value) ++ map (λ c. (number, c)) (lower stage.kind n.value))
  begins number stage more n e =
      let xs = picks stage.selectors n.value in
      let ys = lower stage.kind n.value in
      unrolled (λ m. before ++ flat_map (λ c. made more (placed m.location c)) (picks stage.selectors m.value)) stage.kind n
      ∙ rw (flat_map-append, flat_map-map, flat_map-map, sym (drop-drop 1 number all) ∙ ap (drop 1) (sym e), sym e)
      (append_assoc before (flat_map (λ c. made more (placed n.location c)) xs) (flat_map (λ c. made (stage ∷ more) (placed n.location c)) ys))

  of_stack-last : (above : List Step) (ps : List Frame) (p : Frame)
      → visit_stack admit before leaf all above (ps ++ p ∷ []) ≡ visit_place admit before leaf all (here (stack_path above ps) p) p ++ visit_stack admit before leaf all above ps
  of_stack-last above [] p = sym (append-nil _)
  of_stack-last above (q ∷ qs) p = grind (arith, nat_tests, common_steps, of_stack-last (here above q) qs p)

  -- the last frame gives its node
  pub gives : (ps : List Frame) (p : Frame) → drop p.segment all ≡ [] → of_stack (ps ++ p ∷ []) ≡ leaf (located (stack_path [] (ps ++ p ∷ [])) p.value) ++ of_stack ps
  gives ps p d = grind (arith, nat_tests, common_steps, stack_path-last, of_stack-last)

  -- the last frame has some arrivals left, and then no more
  pub drops : (ps : List Frame) (p : Frame) (stage : Stage) (more : List Stage) → drop p.segment all ≡ stage ∷ more
      → of_stack (ps ++ p ∷ []) ≡ flat_map (of_arrival (here (stack_path [] ps) p)) (frame_arrivals admit stage p) ++ of_stack ps
  drops ps p stage more d = of_stack-last [] ps p ∙ ap (λ s. visit_rest admit before leaf all s (here (stack_path [] ps) p) p ++ of_stack ps) d

  -- a frame where a arrival begins
  pub enters : (step : Option Step) (number : ℕ) (stages : List Stage) (n : Located) → stages ≡ drop number all
      → made stages n ≡ before ++ visit_rest admit before leaf all stages n.location (entered step number stages n.value)
  enters step number [] n e = refl
  enters step number (stage ∷ more) n e =
      begins number stage more n e ∙ ap (λ ts. before ++ flat_map (of_arrival n.location) ts) (next_opened admit number stage.kind n.value stage.selectors)

  -- the last frame passes some of its arrivals
  pub passes : (ps : List Frame) (p m : Frame) (stage : Stage) (more : List Stage) (front : List (ℕ × (Step × Data)))
      → drop p.segment all ≡ stage ∷ more → frame_arrivals admit stage p ≡ front ++ frame_arrivals admit stage m
      → m.step ≡ p.step → m.segment ≡ p.segment
      → of_stack (ps ++ p ∷ []) ≡ flat_map (of_arrival (here (stack_path [] ps) p)) front ++ of_stack (ps ++ m ∷ [])
  passes ps p m stage more front d t ms mk = grind (arith, nat_tests, common_steps, flat_map-append, drops)

  -- the last frame moves on, past some arrivals, to a child
  pub moves : (ps : List Frame) (p m : Frame) (stage : Stage) (more : List Stage) (front : List (ℕ × (Step × Data))) (number : ℕ) (c : Step × Data)
      → drop p.segment all ≡ stage ∷ more → frame_arrivals admit stage p ≡ front ++ (number, c) ∷ frame_arrivals admit stage m
      → m.step ≡ p.step → m.segment ≡ p.segment
      → of_stack (ps ++ p ∷ []) ≡ flat_map (of_arrival (here (stack_path [] ps) p)) front ++ (before ++ of_stack ((ps ++ m ∷ []) ++ entered (Some c.0) number (drop number all) c.1 ∷ []))
  moves ps p m stage more front number c d t ms mk =
      let arrival : ℕ × (Step × Data) = (number, c) in
      let q = entered (Some c.0) number (drop number all) c.1 in
      let S = of_stack (ps ++ m ∷ []) in
      let L = here (stack_path [] ps) p in
      let Q = visit_place admit before leaf all (L ++ c.0 ∷ []) q in
      let passed = flat_map (of_arrival L) front in
      let begun = enters (Some c.0) number (drop number all) (placed L c) refl in
      let last = of_stack-last [] (ps ++ m ∷ []) q in
      passes ps p m stage more (front ++ arrival ∷ []) d (t ∙ sym (append_assoc front (arrival ∷ []) (frame_arrivals admit stage m))) ms mk
      ∙ rw (flat_map-append, append-nil, begun, append_assoc passed (before ++ Q) S, append_assoc before Q S, last, stack_path-last, ms) refl

-- ---- leaves

leaf-admits : (F : FunctionSet) (top : Data) (sel : Selector) (v : Data) → is_leaf v ≡ true → admitted F top sel (candidates sel v) ≡ []
leaf-admits F top sel v h = grind (arith, nat_tests, common_steps)

leaf-picks : (F : FunctionSet) (top : Data) (sels : List Selector) (v : Data) → is_leaf v ≡ true → flat_map (λ s. admitted F top s (candidates s v)) sels ≡ []
leaf-picks F top [] v h = refl
leaf-picks F top (sel ∷ more) v h = rw (leaf-admits F top sel v h) (leaf-picks F top more v h)

leaf-lower : (F : FunctionSet) (top : Data) (kind : SegmentKind) (v : Data) → is_leaf v ≡ true → lower kind v ≡ []
leaf-lower F top kind v h = grind (arith, nat_tests, common_steps, leaf-admits)

-- a frame where a segment begins at a leaf has no arrival
pub leaf-done : (F : FunctionSet) (top : Data) (step : Option Step) (number : ℕ) (stage : Stage) (more : List Stage) (v : Data) → is_leaf v ≡ true
    → frame_arrivals (admitted F top) stage (entered step number (stage ∷ more) v) ≡ []
leaf-done F top step number stage more v h =
    rw (sym (next_opened (admitted F top) number stage.kind v stage.selectors), leaf-picks F top stage.selectors v h, leaf-lower F top stage.kind v h) refl

-- ---- what remains, and how much work, after one step of a walk

abbrev marks : List Stage → List Frame → List ℕ
marks all ps = visit_stack unfiltered (0 ∷ 0 ∷ []) (λ n. 0 ∷ []) all [] ps

-- how much less work is left without some of the marks and frames
work-past : (all : List Stage) (old new : List Frame) (front : List ℕ) → marks all old ≡ front ++ marks all new → work all new + (length front + length old) ≡ work all old + length new
work-past all old new front e = let long = ap length e ∙ length-append front (marks all new) in omega arith

-- with a frame less there is less work
pub work-fewer : (all : List Stage) (ps : List Frame) (p : Frame) → work all ps < work all (ps ++ p ∷ [])
work-fewer all ps p = grind (arith, nat_tests, common_steps, of_stack-last, work-past)

-- whatever arrivals the last frame passes, there is no more work
pub work-held : (all : List Stage) (ps : List Frame) (p m : Frame) (stage : Stage) (more : List Stage) (front : List (ℕ × (Step × Data))) → drop p.segment all ≡ stage ∷ more
    → frame_arrivals unfiltered stage p ≡ front ++ frame_arrivals unfiltered stage m → m.step ≡ p.step → m.segment ≡ p.segment
    → work all (ps ++ m ∷ []) ≤ work all (ps ++ p ∷ [])
work-held all ps p m stage more front d t ms mk =
    let past = work-past all (ps ++ p ∷ []) (ps ++ m ∷ []) _ (passes unfiltered (0 ∷ 0 ∷ []) (λ n. 0 ∷ []) all ps p m stage more front d t ms mk) in
    let before = length-append ps (p ∷ []) in
    let after = length-append ps (m ∷ []) in
    omega arith

-- a move is less work, whatever is passed over
pub work-moved : (all : List Stage) (ps : List Frame) (p m : Frame) (stage : Stage) (more : List Stage) (front : List (ℕ × (Step × Data))) (number : ℕ) (c : Step × Data)
    → drop p.segment all ≡ stage ∷ more → frame_arrivals unfiltered stage p ≡ front ++ (number, c) ∷ frame_arrivals unfiltered stage m
    → m.step ≡ p.step → m.segment ≡ p.segment → work all ((ps ++ m ∷ []) ++ entered (Some c.0) number (drop number all) c.1 ∷ []) < work all (ps ++ p ∷ [])
work-moved all ps p m stage more front number c d t ms mk =
    let q = entered (Some c.0) number (drop number all) c.1 in
    let marked = moves unfiltered {A = ℕ} (0 ∷ 0 ∷ []) (λ n. 0 ∷ []) all ps p m stage more front number c d t ms mk in
    let passed = flat_map (of_arrival unfiltered {A = ℕ} (0 ∷ 0 ∷ []) (λ n. 0 ∷ []) all (here (stack_path [] ps) p)) front in
    let past = work-past all (ps ++ p ∷ []) ((ps ++ m ∷ []) ++ q ∷ []) (passed ++ 0 ∷ 0 ∷ []) (marked ∙ sym (append_assoc passed (0 ∷ 0 ∷ []) (marks all ((ps ++ m ∷ []) ++ q ∷ [])))) in
    let two = length-append passed (0 ∷ 0 ∷ []) in
    let before = length-append ps (p ∷ []) in
    let after = length-append (ps ++ m ∷ []) (q ∷ []) in
    let held = length-append ps (m ∷ []) in
    omega arith

-- ---- what a walk that begins has left is the result of the segments

module _ (F : FunctionSet) (top : Data) where
  chosen_by-list : (sels : Selectors) (v : Data) → flat_map (λ s. admitted F top s (candidates s v)) (selectors_list sels) ≡ chosen_by F top sels v
  chosen_by-list no_selectors v = refl
  chosen_by-list (selector sel more) v = grind (arith, nat_tests, common_steps, chosen_by-list more v)

  pub chosen-list : (seg : Segment) (v : Data) → flat_map (λ s. admitted F top s (candidates s v)) (selectors_of seg) ≡ chosen F top seg v
  chosen-list seg v = grind (arith, nat_tests, common_steps, chosen_by-list)

  visit-results : (segs : Segments) (n : Located) → visit (admitted F top) [] (λ m. m ∷ []) (stages segs) n ≡ results_from F top segs n
  visit-results no_segments n = refl
  visit-results (segment kind seg more) n =
      flat_map-same _ _ (λ m.
      ap (flat_map (λ c. visit (admitted F top) [] (λ l. l ∷ []) (stages more) (placed m.location c))) (chosen-list seg m.value)
      ∙ flat_map-same _ (λ c. results_from F top more (placed m.location c)) (λ c. visit-results more (placed m.location c)) (chosen F top seg m.value)
      ∙ sym (flat_map-map (results_from F top more) (placed m.location) (chosen F top seg m.value))) (reached kind n)

  pub rest-started : (segs : Segments) (v : Data) (ps : List Frame) → ps ≡ entered None 0 (stages segs) v ∷ [] → rest_of F top (stages segs) ps ≡ results_from F top segs (located [] v)
  rest-started segs v ps e =
      ap (rest_of F top (stages segs)) e ∙ sym (enters (admitted F top) [] (λ m. m ∷ []) (stages segs) None 0 (stages segs) (located [] v) refl) ∙ visit-results segs (located [] v)

  -- at the query's start, it is the query's result
  pub begun-results : (q : Query) (here start : Data) (segs : Segments) (ps : List Frame) → segs ≡ segments_of q → start ≡ start_of (kind_of q) top here → ps ≡ entered None 0 (stages segs) start ∷ []
      → rest_of F top (stages segs) ps ≡ results F top q here
  begun-results (query kind more) here start segs ps e s begins = grind (arith, nat_tests, common_steps, begins, rest-started)
