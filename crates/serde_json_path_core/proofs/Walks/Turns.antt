-- Turns of a walk: what the last frame comes to.
use Rattle.serde_json_path_core.proofs.Words.{nat_tests, common_steps, ◌≡◌, ℕ, ◌+◌, ◌<◌, List, [], ◌∷◌, ◌++◌, take, set, length, get_or, refl, ap, ◌∙◌, sym, arith, zero, suc, ◌≤◌, drop, slice_get, option_map, Option, Some, None, slice_index_or, inl, inr, ◌-◌, frame_view, frames_view, Frame, last_passed, passed, get_or_append_left, take_all, length-set, map-append, drop_all, drop_more, none-some, slice_get_read, slice_get_past, Branch, Node, Part, branch_in, branches, branches_named, segment_in, segment_kind_in, segments_in, stage_of, stages, stage_at, stages_at, append-nil, take-append_seam, Data, Step, FunctionSet, Stage, admitted, entered, entering, is_leaf, rest_of, stack_path, work, IsAtStart, IsStack, ComesTo, IsAtNode, IsDone, Passes, cases_Bool, get_or_default, view, IsAtArrival, arrival_view, set-append_left, take_more, take_more_set, take-set, get_or_from_slice_get, slice_get_cases, slice_get_within, IsKept, Arrival, one_is, within_bound, below_length, past_length, LogicalOr, MatchOption, filter, is_true, child_view, IsAtAdmitted, true, Child}
use Rattle.serde_json_path_core.specs.declared.evaluation.frame.Frame as declared
use Rattle.serde_json_path_core.proofs.Walks.Chains.{begun-of, chain-split, stack-held, stack-moved}
use Rattle.serde_json_path_core.proofs.Walks.Stacks.{drops, gives, leaf-done, located, moves, passes, stack_path-last, work-fewer, work-held, work-moved, rest-started}
use Rattle.serde_json_path_core.proofs.Steps.Lookups.{found-none, found-some}
use Rattle.serde_json_path_core.proofs.Walks.SingleChildren.{first-of-values}

-- ---- the last of so many frames

-- what is seen of the frames where the last one is replaced
pub sees_replaced : (items : List declared.Frame) (n : ℕ) (old new : declared.Frame) → length items ≡ n + 1 → old ≡ get_or items n old
    → (frames_view items ≡ frames_view (take n items) ++ frame_view old ∷ []) × (frames_view (set items n new) ≡ frames_view (take n items) ++ frame_view new ∷ [])
sees_replaced items n old new long is =
    let within : n < length items = omega arith in
    let same = length-set items n new in
    let last = sym (take_all (n + 1) items (omega arith)) ∙ take_more items n old within ∙ ap (λ f. take n items ++ f ∷ []) (sym is) in
    let replaced = sym (take_all (n + 1) (set items n new) (omega arith)) ∙ take_more_set items n new within in
    (ap frames_view last ∙ map-append frame_view (take n items) (old ∷ []), ap frames_view replaced ∙ map-append frame_view (take n items) (new ∷ []))

pub passes-last : (ps : List Frame) (p : Frame) → last_passed (ps ++ p ∷ []) ≡ ps ++ passed p ∷ []
passes-last (q ∷ r ∷ rs) p = ap (λ more. q ∷ more) (passes-last (r ∷ rs) p)
passes-last ps p = grind (arith, nat_tests, common_steps)

-- where the last one is replaced by one that is seen as it, past a arrival
pub sees_passed : (items : List declared.Frame) (n : ℕ) (old new : declared.Frame) → length items ≡ n + 1 → old ≡ get_or items n old → frame_view new ≡ passed (frame_view old)
    → frames_view (set items n new) ≡ last_passed (frames_view items)
sees_passed items n old new long is e = grind (arith, nat_tests, common_steps, sees_replaced, passes-last)

-- the same where another frame is after it
pub sees_passed_below : (items pushed : List declared.Frame) (n : ℕ) (old new next : declared.Frame) → length items ≡ n + 1 → pushed ≡ items ++ next ∷ []
    → old ≡ get_or pushed n old → frame_view new ≡ passed (frame_view old) → frames_view (set pushed n new) ≡ last_passed (frames_view items) ++ frame_view next ∷ []
sees_passed_below items pushed n old new next long e is seen = grind (arith, nat_tests, common_steps, get_or_append_left, map-append, set-append_left, sees_passed)

-- ---- the stages of a query's parts, and what is left of a list after so many elements

-- after so many elements comes the one of that number
pub drop-some : {A : Type 0} (xs : List A) (i : ℕ) (x : A) → slice_get xs i ≡ Some x → drop i xs ≡ x ∷ drop (i + 1) xs
drop-some xs i x e = drop_more xs i x (slice_get_within xs i x e) ∙ ap (λ y. y ∷ drop (i + 1) xs) (get_or_from_slice_get xs i x x e)

pub drop-none : {A : Type 0} (xs : List A) (i : ℕ) → slice_get xs i ≡ None → drop i xs ≡ []
drop-none xs i e = elim (slice_get_cases xs i).1 [ inl within ↦ absurd (none-some within.0 (sym e ∙ within.2)) | inr past ↦ drop_all i xs past.0 ]

-- the stages of so many parts, one by one
stages-get : (ps : List Branch) (parts : List Part) (i : ℕ)
    → slice_get (stages (segments_in (branches_named ps parts))) i
    ≡ option_map (λ (part : Part). stage_of (segment_kind_in (branch_in ps part.number)) (segment_in (branch_in ps part.number))) (slice_get parts i)
stages-get ps (part ∷ parts) (suc i) = stages-get ps parts i
stages-get ps parts i = grind (arith, nat_tests, common_steps)

pub stages-from : (nodes : List Node) (parts : List Part) (i : ℕ) (part : Part) → i < length parts → part ≡ slice_index_or parts i part
    → drop i (stages_at nodes parts) ≡ stage_at nodes part ∷ drop (i + 1) (stages_at nodes parts)
stages-from nodes parts i part lt e =
    drop-some (stages_at nodes parts) i (stage_at nodes part) (stages-get (branches nodes) parts i ∙ ap (option_map (stage_at nodes)) (slice_get_read parts _ i part refl lt e))

pub stages-past : (nodes : List Node) (parts : List Part) (i : ℕ) → length parts ≤ i → drop i (stages_at nodes parts) ≡ []
stages-past nodes parts i le = drop-none (stages_at nodes parts) i (stages-get (branches nodes) parts i ∙ ap (option_map (stage_at nodes)) (slice_get_past parts i le))

-- where a frame begins
pub ruleset of_stages = (nat_tests, common_steps, one_is, within_bound, below_length, past_length, drop-none, stages-from, stages-past)

-- where a value is seen nowhere, there is none
pub missing : {A B : Type 0} (see : A → B) (found : Option A) (o : Option B) → ((x : A) → found ≡ Some x → ⊥) → option_map see found ≡ o → o ≡ None
missing see found o none e = grind (arith, nat_tests, common_steps)

-- the child that is left first is admitted, as the expression holds for it
pub at_child : (F : FunctionSet) (top : Data) (e : LogicalOr) (left : List (Step × Data)) (first : Step × Data) (found : Option Child)
    → left ≡ first ∷ drop 1 left → is_true F top e first.1 ≡ true → MatchOption found (left ≡ []) (λ c. left ≡ child_view c ∷ drop 1 left)
    → IsAtAdmitted F top (filter e) left (option_map child_view found)
at_child F top e left first found is holds none = grind (arith, nat_tests, common_steps)

-- what is found, of an expression's children and of a walk's nodes
pub ruleset of_found = (nat_tests, common_steps, at_child, found-none, found-some, rest-started, first-of-values)

-- ---- one turn of a walk: what it gives, and what stays

module _ (F : FunctionSet) (top : Data) (all : List Stage) where
  -- a turn leaves what remains as it is, leaves less work, and keeps the stack
  abbrev pub IsTurn : List Frame → List Frame → Type 0
  IsTurn old new = (rest_of F top all old ≡ rest_of F top all new) × (work all new < work all old) × ((start : Data) → IsStack start old → IsStack start new)

  pub kept-turn : (a b c : List Frame) → IsKept F top all a b → IsTurn b c → IsTurn a c
  kept-turn a b c kept turn = grind (arith, nat_tests, common_steps)

  pub kept-trans : (a b c : List Frame) → IsKept F top all a b → IsKept F top all b c → IsKept F top all a c
  kept-trans a b c kept then = grind (arith, nat_tests, common_steps)

  pub turn-kept : (a b : List Frame) → IsTurn a b → IsKept F top all a b
  turn-kept a b turn = (turn.0, (let less = turn.1 in omega arith), turn.2)

  -- the last frame passes no arrival
  pub held : (ps : List Frame) (p m : Frame) (stage : Stage) (more : List Stage) → drop p.segment all ≡ stage ∷ more → Passes F top stage p m → IsKept F top all (ps ++ p ∷ []) (ps ++ m ∷ [])
  held ps p m stage more d pass =
      (passes (admitted F top) [] (λ n. n ∷ []) all ps p m stage more [] d pass.1 pass.0.0 pass.0.2, work-held all ps p m stage more pass.2.0 d pass.2.1 pass.0.0 pass.0.2, λ start h. stack-held start ps p m h pass.0)

  -- the last frame has no arrival left, and is dropped
  pub turn-dropped : (ps : List Frame) (p : Frame) (stage : Stage) (more : List Stage) → drop p.segment all ≡ stage ∷ more → IsDone F top stage p → IsTurn (ps ++ p ∷ []) ps
  turn-dropped ps p stage more d done = (drops (admitted F top) [] (λ n. n ∷ []) all ps p stage more d ∙ rw done refl, work-fewer all ps p, λ start h. (chain-split (IsAtStart start) ps p h).0)

  -- the last frame passes a arrival, for which there is a frame
  moved : (ps : List Frame) (p m : Frame) (stage : Stage) (more : List Stage) (number : ℕ) (c : Step × Data) → drop p.segment all ≡ stage ∷ more → ComesTo F top stage p (number, c) m
      → IsTurn (ps ++ p ∷ []) ((ps ++ m ∷ []) ++ entered (Some c.0) number (drop number all) c.1 ∷ [])
  moved ps p m stage more number c d comes = (
    moves (admitted F top) [] (λ n. n ∷ []) all ps p m stage more [] number c d comes.1 comes.0.0 comes.0.2,
    work-moved all ps p m stage more comes.2.0 number c d comes.2.1 comes.0.0 comes.0.2,
    λ start h. stack-moved start ps p m (entered (Some c.0) number (drop number all) c.1) c.0 h comes.0 refl (comes.3 (chain-split (IsAtStart start) ps p h).1) (begun-of (drop number all) c.1),
  )

  -- the last frame passes a arrival, where a segment is to be applied
  pub turn-entered : (ps : List Frame) (p : Frame) (stage : Stage) (more : List Stage) (number : ℕ) (c : Step × Data) (next : Stage) (others : List Stage)
      → drop p.segment all ≡ stage ∷ more → ComesTo F top stage p (number, c) (passed p) → drop number all ≡ next ∷ others → IsTurn (ps ++ p ∷ []) (entering all (ps ++ p ∷ []) (number, c))
  turn-entered ps p stage more number c next others d comes inner =
      let q = entered (Some c.0) number (drop number all) c.1 in
      let turn = moved ps p (passed p) stage more number c d comes in
      elim (cases_Bool (is_leaf c.1)) [
        | inl e ↦ rw (e, append-nil (last_passed (ps ++ p ∷ [])), passes-last ps p)
            (kept-turn _ ((ps ++ passed p ∷ []) ++ q ∷ []) _ (turn-kept _ _ turn)
            (turn-dropped (ps ++ passed p ∷ []) q next others inner (rw inner (leaf-done F top (Some c.0) number next others c.1 e))))
        | inr e ↦ rw (e, passes-last ps p) turn
      ]

  -- the last frame has come to a node
  pub at-child : (ps : List Frame) (p : Frame) (stage : Stage) (more : List Stage) (number : ℕ) (c : Step × Data) → drop p.segment all ≡ stage ∷ more
      → ComesTo F top stage p (number, c) (passed p) → drop number all ≡ [] → IsAtNode F top all (ps ++ p ∷ []) (Some c.0) c.1
  at-child ps p stage more number c d comes ends =
      let m = passed p in
      let q = entered (Some c.0) number (drop number all) c.1 in
      let turn = moved ps p m stage more number c d comes in
      let place : stack_path [] ((ps ++ m ∷ []) ++ q ∷ []) ≡ stack_path [] (ps ++ p ∷ []) ++ c.0 ∷ [] = rw (stack_path-last, stack_path-last, stack_path-last) refl in
      rw (passes-last ps p) (
        turn.0 ∙ gives (admitted F top) [] (λ n. n ∷ []) all (ps ++ m ∷ []) q ends ∙ ap (λ location. located location c.1 ∷ rest_of F top all (ps ++ m ∷ [])) place,
        (let less = turn.1 in let fewer = work-fewer all (ps ++ m ∷ []) q in omega arith),
        λ start h. (chain-split (IsAtStart start) (ps ++ m ∷ []) q (turn.2 start h)).0,
      )

  -- the last frame is at a node itself
  pub at-start : (ps : List Frame) (p : Frame) → drop p.segment all ≡ [] → IsAtNode F top all (ps ++ p ∷ []) None p.value
  at-start ps p ends = grind (arith, nat_tests, common_steps, chain-split, gives, located, work-fewer, take-append_seam)

-- ---- what comes of the last of a walk's frames once its next arrival was looked for

module _ (F : FunctionSet) (top : Data) (nodes : List Node) (segments : List Part) where
  -- the last frame, of that number, is at that segment, and has passed no arrival
  pub record Came (items : List declared.Frame) (n : ℕ) (seen old new : declared.Frame) (segment : Part) : Type 0 where
    pub long : length items ≡ n + 1
    pub seen_is : seen ≡ get_or items n seen
    pub old_is : old ≡ get_or items n old
    pub within : seen.segment < length segments
    pub at : segment ≡ get_or segments seen.segment segment
    pub passes : Passes F top (stage_at nodes segment) (frame_view old) (frame_view new)

  inner : (i : ℕ) → i < length segments → (next : Stage) × (others : List Stage) × (drop i (stages_at nodes segments) ≡ next ∷ others)
  inner i within =
      let first : Part = record { number = 0 } in
      let part = get_or segments i first in
      (stage_at nodes part, drop (i + 1) (stages_at nodes segments), stages-from nodes segments i part within (get_or_default segments i first part within))

module _ {F : FunctionSet} {top : Data} {nodes : List Node} {segments : List Part} {items : List declared.Frame} {n : ℕ} {seen old new : declared.Frame} {segment : Part}
    (came : Came F top nodes segments items n seen old new segment) where
  abbrev all : List Stage
  all = stages_at nodes segments

  old_stage : drop old.segment all ≡ stage_at nodes segment ∷ drop (old.segment + 1) all
  old_stage = grind (arith, nat_tests, common_steps, get_or_default, stages-from)

  new_stage : drop new.segment all ≡ stage_at nodes segment ∷ drop (old.segment + 1) all
  new_stage = ap (λ k. drop k all) came.passes.0.2 ∙ old_stage

  views : (frames_view items ≡ frames_view (take n items) ++ frame_view old ∷ []) × (frames_view (set items n new) ≡ frames_view (take n items) ++ frame_view new ∷ [])
  views = sees_replaced items n old new came.long came.old_is

  passing : IsKept F top all (frames_view items) (frames_view (set items n new))
  passing =
      rw views.0 (rw views.1 (held F top all (frames_view (take n items)) (frame_view old) (frame_view new) (stage_at nodes segment) _ old_stage came.passes))

  -- what was kept until then is
  pub came-kept : (start : List Frame) → IsKept F top all start (frames_view items) → IsKept F top all start (frames_view (set items n new))
  came-kept start kept = kept-trans F top all _ _ _ kept passing

  pub came-turned : (start next : List Frame) → IsKept F top all start (frames_view items) → IsTurn F top all (frames_view items) next → IsKept F top all start next
  came-turned start next kept turn = kept-trans F top all _ _ _ kept (turn-kept F top all _ _ turn)

  -- it has no arrival left
  pub came-dropped : {found : Option Arrival} → found ≡ None → IsAtArrival F top (stage_at nodes segment) (frame_view new) (option_map arrival_view found)
      → {left : List declared.Frame} → left ≡ take n (set items n new) → IsTurn F top all (frames_view items) (frames_view left)
  came-dropped none at {left} is =
      let done = found-none _ _ _ (ap (option_map arrival_view) none) at in
      let front : left ≡ take n items = is ∙ take-set items n new in
      kept-turn F top all _ _ _ passing (rw views.1 (rw front (turn-dropped F top all (frames_view (take n items)) (frame_view new) (stage_at nodes segment) _ new_stage done)))

  -- its next arrival is at another segment
  pub came-entered : {found : Option Arrival} {arrival : Arrival} → found ≡ Some arrival → IsAtArrival F top (stage_at nodes segment) (frame_view new) (option_map arrival_view found)
      → arrival.segment < length segments → {frames : List Frame} → frames ≡ entering all (frames_view (set items n new)) (arrival_view arrival) → IsTurn F top all (frames_view items) frames
  came-entered {found} {arrival} some here below is =
      let at = found-some _ _ _ (arrival_view arrival) (ap (option_map arrival_view) some) here in
      let next = inner F top nodes segments arrival.segment below in
      kept-turn F top all _ _ _ passing
      (rw is (rw views.1 (turn-entered F top all (frames_view (take n items)) (frame_view new) (stage_at nodes segment) _ arrival.segment (arrival_view arrival).1 next.0 next.1 new_stage at next.2)))

  -- its next arrival is a node
  pub came-node : {found : Option Arrival} {arrival : Arrival} → found ≡ Some arrival → IsAtArrival F top (stage_at nodes segment) (frame_view new) (option_map arrival_view found)
      → length segments ≤ arrival.segment → IsAtNode F top all (frames_view (set items n new)) (Some (arrival_view arrival).1.0) (arrival_view arrival).1.1
  came-node {found} {arrival} some here past =
      let at = found-some _ _ _ (arrival_view arrival) (ap (option_map arrival_view) some) here in
      rw views.1 (at-child F top all (frames_view (take n items)) (frame_view new) (stage_at nodes segment) _ arrival.segment (arrival_view arrival).1 new_stage at (stages-past nodes segments arrival.segment past))

module _ (F : FunctionSet) (top : Data) (nodes : List Node) (segments : List Part) where
  -- the last frame is past the last segment
  pub came-start : (items : List declared.Frame) (n : ℕ) (last : declared.Frame) (v : Data) → length items ≡ n + 1 → last ≡ get_or items n last → length segments ≤ last.segment → view last.value.now ≡ v
      → IsAtNode F top (stages_at nodes segments) (frames_view items) None v
  came-start items n last v long is past same =
      rw (sees_replaced items n last last long is).0 (rw (sym same) (at-start F top (stages_at nodes segments) (frames_view (take n items)) (frame_view last) (stages-past nodes segments last.segment past)))
