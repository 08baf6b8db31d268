-- The nodes that remain of a walk, and how a frame moves on.
use Rattle.std.specs.Prelude.{◌≡◌, ℕ, ◌+◌, ◌-◌, List, [], ◌∷◌, ◌++◌, length, map, take, drop, flat_map, filter as keep, Option, Some, None, option_to_list, Bool, true, false, cond, ◌<◌, ◌≤◌, MatchOption}
use Rattle.serde_json_path_core.specs.Imports.{Data, array, object, Step, by_name, child_at, Located, SegmentKind, child, descendant, Selector, name, wildcard, index, slice, filter, Stage, stages, FunctionSet, IsIn}
use Rattle.serde_json_path_core.specs.PatternCalls.{StandsIn}
use Rattle.serde_json_path_core.specs.Inside.Computed.{child_by, item_at, children, sliced, reached, placed, is_true}

-- ---- children

-- the children that a selector chooses from
abbrev pub candidates : Selector → Data → List (Step × Data)
candidates (name k) v = option_to_list (child_by v (by_name k))
candidates wildcard v = children v
candidates (index i) v = option_to_list (item_at v i)
candidates (slice s) v = sliced s v
candidates (filter e) v = children v

-- those of them that the selector admits: a filter's where its expression holds, and else all
abbrev pub admitted : FunctionSet → Data → Selector → List (Step × Data) → List (Step × Data)
admitted F top (filter e) cs = keep (λ c. is_true F top e c.1) cs
admitted F top (name k) cs = cs
admitted F top wildcard cs = cs
admitted F top (index i) cs = cs
admitted F top (slice s) cs = cs

-- the same where every filter admits all
abbrev pub unfiltered : Selector → List (Step × Data) → List (Step × Data)
unfiltered sel cs = cs

-- the children that a segment goes down to
abbrev pub lower : SegmentKind → Data → List (Step × Data)
lower child v = []
lower descendant v = children v

-- the children with which the work of these selectors begins, or, where none is left, those to go down to
abbrev pub opened : SegmentKind → List Selector → Data → List (Step × Data)
opened kind (sel ∷ more) v = candidates sel v
opened kind [] v = lower kind v

-- the same where these stages are left
abbrev pub begun : List Stage → Data → List (Step × Data)
begun [] v = []
begun (stage ∷ more) v = opened stage.kind stage.selectors v

-- ---- frames

-- A value where the segment of that number is applied: the step that led to it, the number of the selector at work, and
-- the children that are left of it, or, after the last selector, those that are left to go down to.
pub record Frame : Type 0 where
  pub step : Option Step
  pub value : Data
  pub segment : ℕ
  pub selector : ℕ
  pub left : List (Step × Data)

-- a frame where these stages begin, the first of them of that number
abbrev pub entered : Option Step → ℕ → List Stage → Data → Frame
entered step number stages v = record { step = step; value = v; segment = number; selector = 0; left = begun stages v }

-- the frame once it has passed the first of the children that are left
abbrev pub passed : Frame → Frame
passed p = record { step = p.step; value = p.value; segment = p.segment; selector = p.selector; left = drop 1 p.left }

-- the frames once the last one has passed a child
abbrev pub last_passed : List Frame → List Frame
last_passed [] = []
last_passed (p ∷ []) = passed p ∷ []
last_passed (p ∷ q ∷ ps) = p ∷ last_passed (q ∷ ps)

-- the value is neither an array nor an object
abbrev pub is_leaf : Data → Bool
is_leaf (array items) = false
is_leaf (object of) = false
is_leaf _ = true

-- the frames once the last one has passed a arrival: with a frame for it, unless it is at a leaf
abbrev pub entering : List Stage → List Frame → ℕ × (Step × Data) → List Frame
entering all ps arrival = last_passed ps ++ cond (is_leaf arrival.1.1) [] (entered (Some arrival.1.0) arrival.0 (drop arrival.0 all) arrival.1.1 ∷ [])

-- the children to go down to, where these selectors are left
abbrev pub lower_left : SegmentKind → List Selector → List (Step × Data) → Data → List (Step × Data)
lower_left kind (sel ∷ more) cs v = lower kind v
lower_left child [] cs v = []
lower_left descendant [] cs v = cs

-- the location of a frame, given the location above it
abbrev pub here : List Step → Frame → List Step
here above p = above ++ option_to_list p.step

-- the location of the last of these frames
abbrev pub stack_path : List Step → List Frame → List Step
stack_path above [] = above
stack_path above (p ∷ ps) = stack_path (here above p) ps

-- a node at that step from the last frame, or of the last frame itself, with that value
abbrev pub node_at : List Frame → Option Step → Data → Located
node_at ps step v = record { location = stack_path [] ps ++ option_to_list step; value = v }

-- the frames once that node is passed
abbrev pub without_node : List Frame → Option Step → List Frame
without_node ps None = take (length ps - 1) ps
without_node ps (Some s) = last_passed ps

-- what is left, where `admit` tells which children a selector admits
module _ (admit : Selector → List (Step × Data) → List (Step × Data)) where
  -- what the selectors have still to select, the first of them from these
  abbrev pub picks_left : List Selector → List (Step × Data) → Data → List (Step × Data)
  picks_left [] cs v = []
  picks_left (sel ∷ more) cs v = admit sel cs ++ flat_map (λ s. admit s (candidates s v)) more

  -- the children still to go to, each with the number of the segment that is applied there
  abbrev pub arrivals : ℕ → SegmentKind → List Selector → List (Step × Data) → Data → List (ℕ × (Step × Data))
  arrivals number kind sels cs v = map (λ c. (number + 1, c)) (picks_left sels cs v) ++ map (λ c. (number, c)) (lower_left kind sels cs v)

  abbrev pub frame_arrivals : Stage → Frame → List (ℕ × (Step × Data))
  frame_arrivals stage p = arrivals p.segment stage.kind (drop p.selector stage.selectors) p.left p.value

  -- `before` for each visit of a value, and `leaf` for each node that is given
  module _ {A : Type 0} (before : List A) (leaf : Located → List A) where
    -- all that the stages make of a node
    abbrev pub visit : List Stage → Located → List A
    visit [] n = before ++ leaf n
    visit (stage ∷ more) n =
        flat_map (λ m. before ++ flat_map (λ c. visit more (placed m.location c)) (flat_map (λ s. admit s (candidates s m.value)) stage.selectors)) (reached stage.kind n)

    -- the same of a frame where the first of these stages has done part of its work
    abbrev pub visit_rest : List Stage → List Stage → List Step → Frame → List A
    visit_rest all [] above p = leaf (record { location = above; value = p.value })
    visit_rest all (stage ∷ more) above p = flat_map (λ (x : ℕ × (Step × Data)). visit (drop x.0 all) (placed above x.1)) (frame_arrivals stage p)

    abbrev pub visit_place : List Stage → List Step → Frame → List A
    visit_place all above p = visit_rest all (drop p.segment all) above p

    -- the last frame comes first
    abbrev pub visit_stack : List Stage → List Step → List Frame → List A
    visit_stack all above [] = []
    visit_stack all above (p ∷ ps) = visit_stack all (here above p) ps ++ visit_place all (here above p) p

-- the nodes that remain of the frames
abbrev pub rest_of : FunctionSet → Data → List Stage → List Frame → List Located
rest_of F top all ps = visit_stack (admitted F top) [] (λ n. n ∷ []) all [] ps

-- how many steps are left at most, were all filters to admit all
abbrev pub work : List Stage → List Frame → ℕ
work all ps = length {A = ℕ} (visit_stack unfiltered (0 ∷ 0 ∷ []) (λ n. 0 ∷ []) all [] ps) + length ps

-- the list is some front and then the other
abbrev pub EndsIn : {A : Type 0} → List A → List A → Type 0
EndsIn {A} xs ys = (front : List A) × (xs ≡ front ++ ys)

-- ---- stacks

-- the children are of the value
unfoldable pub AreChildrenOf : Data → List (Step × Data) → Type 0
AreChildrenOf v cs = (c : Step × Data) → IsIn c cs → child_at v c.0 ≡ Some c.1

-- what is left at a frame are children of its value
abbrev pub IsOfValue : Frame → Type 0
IsOfValue p = AreChildrenOf p.value p.left

abbrev pub IsAtStart : Data → Frame → Type 0
IsAtStart start p = (p.step ≡ None) × (p.value ≡ start)

-- the frame is at a child of the value
abbrev pub IsAtChild : Data → Frame → Type 0
IsAtChild v p = (s : Step) × (p.step ≡ Some s) × (child_at v s ≡ Some p.value)

-- so is the first frame, and each other one is at a child of the value of the frame below it
abbrev pub IsChain : (Frame → Type 0) → List Frame → Type 0
IsChain First [] = Unit {0}
IsChain First (p ∷ ps) = First p × IsOfValue p × IsChain (IsAtChild p.value) ps

abbrev pub IsStack : Data → List Frame → Type 0
IsStack start ps = IsChain (IsAtStart start) ps

-- the start stands in the document
abbrev pub IsStackIn : Data → List Frame → Type 0
IsStackIn top ps = (start : Data) × StandsIn top start × IsStack start ps

-- the children stand in the document
abbrev pub AllStandIn : Data → List (Step × Data) → Type 0
AllStandIn top cs = (c : Step × Data) → IsIn c cs → StandsIn top c.1

-- the value stands in the document, and what is left at the frame are children of it
abbrev pub IsInside : Data → Frame → Type 0
IsInside top p = StandsIn top p.value × IsOfValue p

-- ---- how a frame moves on

-- the same value, where the same segment is applied
abbrev pub IsSameFrame : Frame → Frame → Type 0
IsSameFrame old new = (new.step ≡ old.step) × (new.value ≡ old.value) × (new.segment ≡ old.segment) × (IsOfValue old → IsOfValue new)

module _ (F : FunctionSet) (top : Data) where
  -- of these children some are passed, but none that the selector admits
  abbrev pub Skips : Selector → List (Step × Data) → List (Step × Data) → Type 0
  Skips sel old new = (admitted F top sel old ≡ admitted F top sel new) × EndsIn old new

  -- the first of these children is the next one that the selector admits, if there is one
  abbrev pub IsAtAdmitted : Selector → List (Step × Data) → Option (Step × Data) → Type 0
  IsAtAdmitted sel left found = MatchOption found
      (admitted F top sel left ≡ [])
      (λ c. (left ≡ c ∷ drop 1 left) × (admitted F top sel left ≡ c ∷ admitted F top sel (drop 1 left)))

  -- the frame has passed some children, but no arrival
  abbrev pub Passes : Stage → Frame → Frame → Type 0
  Passes stage old new =
      IsSameFrame old new × (frame_arrivals (admitted F top) stage old ≡ frame_arrivals (admitted F top) stage new)
      × EndsIn (frame_arrivals unfiltered stage old) (frame_arrivals unfiltered stage new)

  -- the frame has come to its next arrival and passed it
  abbrev pub ComesTo : Stage → Frame → ℕ × (Step × Data) → Frame → Type 0
  ComesTo stage old arrival new =
      IsSameFrame old new × (frame_arrivals (admitted F top) stage old ≡ arrival ∷ frame_arrivals (admitted F top) stage new)
      × EndsIn (frame_arrivals unfiltered stage old) (arrival ∷ frame_arrivals unfiltered stage new)
      × (IsOfValue old → child_at old.value arrival.1.0 ≡ Some arrival.1.1)

  -- the frame has no arrival left
  abbrev pub IsDone : Stage → Frame → Type 0
  IsDone stage old = frame_arrivals (admitted F top) stage old ≡ []

  -- the first child that is left at the frame is its next arrival, if there is one
  abbrev pub IsAtArrival : Stage → Frame → Option (ℕ × (Step × Data)) → Type 0
  IsAtArrival stage p found = MatchOption found (IsDone stage p) (λ arrival. ComesTo stage p arrival (passed p))

  module _ (all : List Stage) where
    -- nothing is given, and there is no more work than before
    abbrev pub IsKept : List Frame → List Frame → Type 0
    IsKept old new =
        (rest_of F top all old ≡ rest_of F top all new) × (work all new ≤ work all old) × ((start : Data) → IsStack start old → IsStack start new)

    -- the walk has come to a node, at that step from the last frame, with that value
    abbrev pub IsAtNode : List Frame → Option Step → Data → Type 0
    IsAtNode ps step v =
        (rest_of F top all ps ≡ node_at ps step v ∷ rest_of F top all (without_node ps step))
        × (work all (without_node ps step) < work all ps) × ((start : Data) → IsStack start ps → IsStack start (without_node ps step))
