use Rattle.serde_json_path_core.proofs.Words.{nat_tests, ◌≡◌, ◌+◌, length, map, take, [], drop, option_map, get_or, true, false, MatchOption, None, refl, sym, subst, ap, ◌∙◌, arith, ◌∷◌, ◌++◌, ◌⊎◌, inl, inr, rules, append_assoc, Option, Some, List, slice_get, slice_get_within, get_or_default, map-append, common_steps, length-set, ∥∥₁_map, iter_rest, Data, view, Located, node_value, Passes, child, descendant, cursor_left, segment_kind_view, segment_in, segments_at, branch_at, basic_at, operand_at, call_at, branches, operator_view, term_view, StandsIn, AreTypedArguments, name_of, arguments_of, nodes_of, top_of, frame_view, frames_view, admitted, rest_of, IsStack, IsStackIn, IsInside, selector_view, stage_at, stages_at, child_view, IsIn, within_get, within_bound, below_length, past_length, signatures_of, params_of, Step, EndsIn, AllStandIn, FunctionSet, LogicalOr, filter, or_at, kind_view, query_of, set_of, Child}
use Rattle.serde_json_path_core.specs.Inside.Evaluates.{IsKept}
use Rattle.serde_json_path_core.specs.Inside.Computed as computed
use Rattle.serde_json_path_core.specs.Inside.Rest as advances
use Rattle.serde_json_path_core.proofs.Steps.Answered.{given-all, answered, answered-kind, by_pattern, if_refused}
use Rattle.serde_json_path_core.proofs.Steps.Lookups.{found-none, found-some}
use Rattle.serde_json_path_core.proofs.Walks.Frames.{at_selector, ends-trans, passes-over, passes-skipped, at-onward, at-downward, done}
use Rattle.serde_json_path_core.proofs.Walks.Stacks.{rest-started}
use Rattle.serde_json_path_core.proofs.Walks.Chains.{left_stands, entered-inside, stack-inside, ends-stand}
use Rattle.serde_json_path_core.proofs.Sound.{argument-calls, next-argument, sound-relation, sound-segment, sound-selector, sound-and, sound-basic, typed-arguments, parameters-known}
use Rattle.serde_json_path_core.proofs.Walks.Turns.{sees_replaced, Came, came-dropped, came-entered, came-kept, came-node, came-start, came-turned, drop-some, drop-none, missing}
use Rattle.serde_json_path_core.proofs.Walks.SingleChildren.{first-of-values}
use Rattle.serde_json_path_core.proofs.+evaluation.Goals.{evaluation::frame::Frame::next_arrival-In-Some, evaluation::frame::Frame::next_arrival-In_default, evaluation::frame::Frame::next_arrival-After-next_admitted, evaluation::stack::find_next-After-next_arrival}
use Rattle.serde_json_path_core.proofs.+evaluation.Goals as goal

-- ---- frames

-- the selector of that number is the one at work
at_work : (g : _) (t : _) (c : evaluation::frame::Frame::next_arrival-In-Some g t)
    → slice_get (stage_at (nodes_of c.args.scope.now) c.args.segment).selectors c.loop-selector_ref.self.selector ≡ Some (selector_view (nodes_of c.args.scope.now) c.in-Some.selector_ref)
at_work g t c = sym (ap (option_map (selector_view (nodes_of c.args.scope.now))) (sym c.in-Some.is) ∙ c.selector_ref.ensures.selector_ref)

-- no selector is left
none_at_work : (g : _) (t : _) (c : evaluation::frame::Frame::next_arrival-In_default g t) → drop c.loop-selector_ref.self.selector (stage_at (nodes_of c.args.scope.now) c.args.segment).selectors ≡ []
none_at_work g t c = grind (arith, nat_tests, common_steps, drop-none, missing)

-- the selector at work passes children that it does not admit
skipped : (g : _) (t : _) (c : evaluation::frame::Frame::next_arrival-After-next_admitted g t) → slice_get (stage_at (nodes_of c.args.scope.now) c.args.segment).selectors c.loop-selector_ref.self.selector ≡ Some (selector_view (nodes_of c.args.scope.now) c.in-Some.selector_ref)
    → Passes (set_of c.args.scope.now) (top_of c.args.scope.now) (stage_at (nodes_of c.args.scope.now) c.args.segment) (frame_view c.args.self.now)
    (at_selector (frame_view c.loop-selector_ref.self) c.loop-selector_ref.self.selector (cursor_left c.next_admitted.new.cursor))
skipped g t c here =
    let scope = c.args.scope.now in
    let stage = stage_at (nodes_of scope) c.args.segment in
    let sel = selector_view (nodes_of scope) c.in-Some.selector_ref in
    let mid = frame_view c.loop-selector_ref.self in
    passes-skipped (set_of scope) (top_of scope) stage (frame_view c.args.self.now) mid sel (drop (mid.selector + 1) stage.selectors) (cursor_left c.next_admitted.new.cursor)
    c.loop-selector_ref.invariant.1 (drop-some stage.selectors mid.selector sel here) c.next_admitted.ensures.skips

pub evaluation::frame::Frame::next_arrival-next_admitted-requires : goal.evaluation::frame::Frame::next_arrival-next_admitted-requires
evaluation::frame::Frame::next_arrival-next_admitted-requires g t c =
    let scope = c.args.scope.now in
    let same = c.loop-selector_ref.invariant.1.0 in
    let here = at_work g t (goal.at.evaluation::frame::Frame::next_arrival-next_admitted-requires g t c).In-Some in
    let sound = sound-selector (set_of scope) (query_of scope) (segment_in (branch_at (nodes_of scope) c.args.segment.number)) c.loop-selector_ref.self.selector _ here c.requires.sound.1 in
    let inside = left_stands (top_of scope) (frame_view c.loop-selector_ref.self) (∥∥₁_map c.requires.inside (λ h. (subst (StandsIn (top_of scope)) (sym same.1) h.0, same.3 h.1))) in
    search rules

pub evaluation::frame::Frame::next_arrival-loop-selector_ref-smaller : goal.evaluation::frame::Frame::next_arrival-loop-selector_ref-smaller
evaluation::frame::Frame::next_arrival-loop-selector_ref-smaller g t c =
    let stage = stage_at (nodes_of c.args.scope.now) c.args.segment in
    let within = slice_get_within stage.selectors c.loop-selector_ref.self.selector _ (at_work g t (goal.at.evaluation::frame::Frame::next_arrival-loop-selector_ref-smaller g t c).In-Some) in
    omega arith

pub evaluation::frame::Frame::next_arrival-loop-selector_ref-preserved : goal.evaluation::frame::Frame::next_arrival-loop-selector_ref-preserved
evaluation::frame::Frame::next_arrival-loop-selector_ref-preserved g t c =
    let scope = c.args.scope.now in
    let stage = stage_at (nodes_of scope) c.args.segment in
    let sel = selector_view (nodes_of scope) c.in-Some.selector_ref in
    let mid = frame_view c.loop-selector_ref.self in
    let left = cursor_left c.next_admitted.new.cursor in
    let here = drop-some stage.selectors mid.selector sel (at_work g t (goal.at.evaluation::frame::Frame::next_arrival-loop-selector_ref-preserved g t c).In-Some) in
    let none : admitted (set_of scope) (top_of scope) sel mid.left ≡ [] = c.next_admitted.ensures.skips.0 ∙ found-none _ _ _ (ap (option_map child_view) c.in-None.is) c.in_ok-child.ensures.found in
    (c.loop-selector_ref.invariant.0, passes-over (set_of scope) (top_of scope) stage (frame_view c.args.self.now) mid sel (cursor_left c.open-self.result) c.loop-selector_ref.invariant.1 here none c.open-self.ensures)

pub evaluation::frame::Frame::next_arrival-returns-in_err-child-clause-passes : goal.evaluation::frame::Frame::next_arrival-returns-in_err-child-clause-passes
evaluation::frame::Frame::next_arrival-returns-in_err-child-clause-passes g t c =
    let at = goal.at.evaluation::frame::Frame::next_arrival-returns-in_err-child-clause-passes g t c in
    skipped g t at.After-next_admitted (at_work g t at.In-Some)

pub evaluation::frame::Frame::next_arrival-returns-in-Some-2-clause-passes : goal.evaluation::frame::Frame::next_arrival-returns-in-Some-2-clause-passes
evaluation::frame::Frame::next_arrival-returns-in-Some-2-clause-passes g t c =
    let at = goal.at.evaluation::frame::Frame::next_arrival-returns-in-Some-2-clause-passes g t c in
    skipped g t at.After-next_admitted (at_work g t at.In-Some)

pub evaluation::frame::Frame::next_arrival-returns-in-Some-2-clause-found : goal.evaluation::frame::Frame::next_arrival-returns-in-Some-2-clause-found
evaluation::frame::Frame::next_arrival-returns-in-Some-2-clause-found g t c =
    let scope = c.args.scope.now in
    let stage = stage_at (nodes_of scope) c.args.segment in
    let sel = selector_view (nodes_of scope) c.in-Some.selector_ref in
    let mid = frame_view c.loop-selector_ref.self in
    let left = cursor_left c.next_admitted.new.cursor in
    let here = drop-some stage.selectors mid.selector sel (at_work g t (goal.at.evaluation::frame::Frame::next_arrival-returns-in-Some-2-clause-found g t c).In-Some) in
    at-onward (set_of scope) (top_of scope) stage (at_selector mid mid.selector left) sel (drop (mid.selector + 1) stage.selectors) (child_view c.in-Some-2.child) here
    (found-some _ _ _ (child_view c.in-Some-2.child) (ap (option_map child_view) c.in-Some-2.is) c.in_ok-child.ensures.found)

pub evaluation::frame::Frame::next_arrival-returns-in-Child-clause-found : goal.evaluation::frame::Frame::next_arrival-returns-in-Child-clause-found
evaluation::frame::Frame::next_arrival-returns-in-Child-clause-found g t c =
    let scope = c.args.scope.now in
    let stage = stage_at (nodes_of scope) c.args.segment in
    let here = none_at_work g t (goal.at.evaluation::frame::Frame::next_arrival-returns-in-Child-clause-found g t c).In_default in
    done (set_of scope) (top_of scope) stage (frame_view c.loop-selector_ref.self) here
    (λ kind. let no : child ≡ descendant = sym (ap segment_kind_view c.in-Child.is) ∙ c.segment_kind.ensures ∙ kind in absurd cc)

pub evaluation::frame::Frame::next_arrival-returns-in-None-peek-clause-found : goal.evaluation::frame::Frame::next_arrival-returns-in-None-peek-clause-found
evaluation::frame::Frame::next_arrival-returns-in-None-peek-clause-found g t c =
    let scope = c.args.scope.now in
    let stage = stage_at (nodes_of scope) c.args.segment in
    let here = none_at_work g t (goal.at.evaluation::frame::Frame::next_arrival-returns-in-None-peek-clause-found g t c).In_default in
    done (set_of scope) (top_of scope) stage (frame_view c.loop-selector_ref.self) here (λ kind. c.in-None-peek.ensures)

pub evaluation::frame::Frame::next_arrival-returns-in-Some-peek-clause-found : goal.evaluation::frame::Frame::next_arrival-returns-in-Some-peek-clause-found
evaluation::frame::Frame::next_arrival-returns-in-Some-peek-clause-found g t c =
    let scope = c.args.scope.now in
    let stage = stage_at (nodes_of scope) c.args.segment in
    let here = none_at_work g t (goal.at.evaluation::frame::Frame::next_arrival-returns-in-Some-peek-clause-found g t c).In_default in
    at-downward (set_of scope) (top_of scope) stage (frame_view c.loop-selector_ref.self) (child_view c.in-Some-peek.child) here (sym c.segment_kind.ensures ∙ ap segment_kind_view c.in-Descendant.is)
    c.in-Some-peek.ensures

-- the child that is left first stands in the document
stands : (top : Data) (all left : List (Step × Data)) (first : Step × Data) → EndsIn all left → AllStandIn top all → left ≡ first ∷ drop 1 left → StandsIn top first.1
stands top all left first ends inside is = ends-stand top all left ends inside first (subst (IsIn first) (sym is) (inl refl))

-- another child is passed for which the expression does not hold
skips_another : (F : FunctionSet) (top : Data) (e : LogicalOr) (old left new : List (Step × Data)) (first : Step × Data)
    → advances.Skips F top (filter e) old left → left ≡ first ∷ drop 1 left → computed.is_true F top e first.1 ≡ false → new ≡ drop 1 left → advances.Skips F top (filter e) old new
skips_another F top e old left new first skips is fails passed =
    (skips.0 ∙ rw (is, fails, passed) refl, ends-trans _ _ _ skips.1 (first ∷ [], is ∙ ap (λ cs. first ∷ cs) (sym passed)))

pub evaluation::frame::next_passing-compares-requires : goal.evaluation::frame::next_passing-compares-requires
evaluation::frame::next_passing-compares-requires g t c =
    let inside = stands (top_of c.args.scope.now) (cursor_left c.args.cursor.now) (cursor_left c.loop-child.cursor) (child_view c.in-Some-peek.child) c.loop-child.invariant.1 c.requires.inside c.in-Some-peek.ensures in
    search rules

pub evaluation::frame::next_passing-loop-child-preserved : goal.evaluation::frame::next_passing-loop-child-preserved
evaluation::frame::next_passing-loop-child-preserved g t c =
    let scope = c.args.scope.now in
    let e = or_at (nodes_of scope) c.args.test in
    skips_another (set_of scope) (top_of scope) e _ _ _ (child_view c.in-Some-peek.child) c.loop-child.invariant c.in-Some-peek.ensures (search rules) c.pass.ensures

pub evaluation::frame::next_holding-loop-child-preserved : goal.evaluation::frame::next_holding-loop-child-preserved
evaluation::frame::next_holding-loop-child-preserved g t c =
    let scope = c.args.scope.now in
    let e = or_at (nodes_of scope) c.args.test in
    skips_another (set_of scope) (top_of scope) e _ _ _ (child_view c.in-Some.child) c.loop-child.invariant c.in-Some.ensures (search rules) c.pass.ensures

pub evaluation::frame::next_holding-any_holds-requires : goal.evaluation::frame::next_holding-any_holds-requires
evaluation::frame::next_holding-any_holds-requires g t c =
    let inside = stands (top_of c.args.scope.now) (cursor_left c.args.cursor.now) (cursor_left c.loop-child.cursor) (child_view c.in-Some.child) c.loop-child.invariant.1 c.requires.inside c.in-Some.ensures in
    search rules

-- ---- the stack

pub evaluation::stack::find_next-next_arrival-requires : goal.evaluation::stack::find_next-next_arrival-requires
evaluation::stack::find_next-next_arrival-requires g t c =
    let scope = c.args.scope.now in
    let nodes = nodes_of scope in
    let frames = c.loop-last.frames in
    let items = frames.items in
    let n = c.in-Some.last in
    let some = c.in-Some.ensures in
    let len = c.len.ensures ∙ frames.ok.0 in
    let long : length items ≡ n + 1 = omega arith in
    let segment = c.in-Some-get.segment.now in
    let look = c.in-Some-get.ensures.lookup in
    let seen = c.index.result.now in
    let old = c.index_mut.result.now in
    let same : seen ≡ old = c.index.ensures ∙ get_or_default items n seen old (omega arith) ∙ sym c.index_mut.ensures.value in
    let within = below_length _ _ look.0 in
    let number = ap (λ f. (frame_view f).segment) same in
    let below = within_bound c.args.segments.now seen.segment segment within look.1 in
    let sound = sound-segment (set_of scope) (query_of scope) (branches nodes) c.args.segments.now seen.segment segment within look.1 c.requires.sound in
    let views = (sees_replaced items n old old long c.index_mut.ensures.value).0 in
    let inside : ∥ IsInside (top_of scope) (frame_view old) ∥₁ =
    ∥∥₁_map c.requires.inside (λ h. stack-inside (top_of scope) h.0 (frames_view (take n items)) (frame_view old) h.1 (subst (IsStack h.0) views (c.loop-last.invariant.2 h.0 h.2))) in
    search rules

pub evaluation::stack::find_next-returns-in-None-clause-found : goal.evaluation::stack::find_next-returns-in-None-clause-found
evaluation::stack::find_next-returns-in-None-clause-found g t c =
    let scope = c.args.scope.now in
    let items = c.loop-last.frames.items in
    let some = c.in-Some.ensures in
    let len = c.len.ensures ∙ c.loop-last.frames.ok.0 in (
      omega arith,
      came-start (set_of scope) (top_of scope) (nodes_of scope) c.args.segments.now items c.in-Some.last c.index.result.now _ (omega arith) c.index.ensures (past_length _ _ c.in-None.ensures.lookup.0)
          (ap (λ f. (frame_view f).value) (c.index.ensures ∙ get_or_default items c.in-Some.last _ _ (omega arith) ∙ sym c.index-in-None.ensures)),
    )

came_by : (g : _) (t : _) (c : evaluation::stack::find_next-After-next_arrival g t)
    → Came (set_of c.args.scope.now) (top_of c.args.scope.now) (nodes_of c.args.scope.now) c.args.segments.now
    c.loop-last.frames.items c.in-Some.last c.index.result.now c.index_mut.result.now c.next_arrival.new.self c.in-Some-get.segment.now
came_by g t c = grind (arith, nat_tests, common_steps, below_length)

pub evaluation::stack::find_next-returns-in_err-next_arrival-in-Some-get-clause-kept : goal.evaluation::stack::find_next-returns-in_err-next_arrival-in-Some-get-clause-kept
evaluation::stack::find_next-returns-in_err-next_arrival-in-Some-get-clause-kept g t c =
    let came = came_by g t (goal.at.evaluation::stack::find_next-returns-in_err-next_arrival-in-Some-get-clause-kept g t c).After-next_arrival in
    came-kept came _ c.loop-last.invariant

pub evaluation::stack::find_next-returns-in_err-enter-in-Some-2-clause-kept : goal.evaluation::stack::find_next-returns-in_err-enter-in-Some-2-clause-kept
evaluation::stack::find_next-returns-in_err-enter-in-Some-2-clause-kept g t c =
    let came = came_by g t (goal.at.evaluation::stack::find_next-returns-in_err-enter-in-Some-2-clause-kept g t c).After-next_arrival in
    subst (IsKept c.args.scope.now c.args.segments.now (frames_view c.args.frames.now.items)) (ap frames_view (sym c.in_err-enter-in-Some-2.ensures.unchanged)) (came-kept came _ c.loop-last.invariant)

pub evaluation::stack::find_next-returns-then-arrival-segments-clause-kept : goal.evaluation::stack::find_next-returns-then-arrival-segments-clause-kept
evaluation::stack::find_next-returns-then-arrival-segments-clause-kept g t c =
    let came = came_by g t (goal.at.evaluation::stack::find_next-returns-then-arrival-segments-clause-kept g t c).After-next_arrival in
    came-kept came _ c.loop-last.invariant

pub evaluation::stack::find_next-returns-then-arrival-segments-clause-found : goal.evaluation::stack::find_next-returns-then-arrival-segments-clause-found
evaluation::stack::find_next-returns-then-arrival-segments-clause-found g t c =
    let came = came_by g t (goal.at.evaluation::stack::find_next-returns-then-arrival-segments-clause-found g t c).After-next_arrival in
    (omega (arith, length-set c.loop-last.frames.items c.in-Some.last c.next_arrival.new.self), came-node came c.in-Some-2.is c.in_ok-next_arrival-in-Some-get.ensures.found (omega arith))

pub evaluation::stack::find_next-loop-last-smaller-in-None-2 : goal.evaluation::stack::find_next-loop-last-smaller-in-None-2
evaluation::stack::find_next-loop-last-smaller-in-None-2 g t c =
    let came = came_by g t (goal.at.evaluation::stack::find_next-loop-last-smaller-in-None-2 g t c).After-next_arrival in
    (came-dropped came c.in-None-2.is c.in_ok-next_arrival-in-Some-get.ensures.found c.truncate.ensures.items).1

pub evaluation::stack::find_next-loop-last-preserved-in-None-2 : goal.evaluation::stack::find_next-loop-last-preserved-in-None-2
evaluation::stack::find_next-loop-last-preserved-in-None-2 g t c =
    let came = came_by g t (goal.at.evaluation::stack::find_next-loop-last-preserved-in-None-2 g t c).After-next_arrival in
    came-turned came _ _ c.loop-last.invariant (came-dropped came c.in-None-2.is c.in_ok-next_arrival-in-Some-get.ensures.found c.truncate.ensures.items)

pub evaluation::stack::find_next-loop-last-smaller : goal.evaluation::stack::find_next-loop-last-smaller
evaluation::stack::find_next-loop-last-smaller g t c =
    let came = came_by g t (goal.at.evaluation::stack::find_next-loop-last-smaller g t c).After-next_arrival in
    (came-entered came c.in-Some-2.is c.in_ok-next_arrival-in-Some-get.ensures.found (omega arith) c.in_ok-enter-in-Some-2.ensures.ok).1

pub evaluation::stack::find_next-loop-last-preserved : goal.evaluation::stack::find_next-loop-last-preserved
evaluation::stack::find_next-loop-last-preserved g t c =
    let came = came_by g t (goal.at.evaluation::stack::find_next-loop-last-preserved g t c).After-next_arrival in
    came-turned came _ _ c.loop-last.invariant (came-entered came c.in-Some-2.is c.in_ok-next_arrival-in-Some-get.ensures.found (omega arith) c.in_ok-enter-in-Some-2.ensures.ok)

-- ---- queries in expressions

pub filter::query::first_from-find_next-requires : goal.filter::query::first_from-find_next-requires
filter::query::first_from-find_next-requires g t c =
    let scope = c.args.scope.now in
    let frames = frames_view c.in_ok-frames.frames.items in
    let inside : ∥ IsStackIn (top_of scope) frames ∥₁ = ∣ entered-inside _ (view c.args.value.now) _ _ c.requires.inside c.in_ok-frames.ensures ∣₁ in
    search rules

pub filter::query::all_from-values-init : goal.filter::query::all_from-values-init
filter::query::all_from-values-init g t c =
    let scope = c.args.scope.now in
    let all = stages_at (nodes_of scope) c.args.segments.now in
    let begins = rest-started (set_of scope) (top_of scope) (segments_at (nodes_of scope) c.args.segments.now) (view c.args.value.now) _ c.in_ok-frames.ensures in
    let frames = frames_view c.in_ok-frames.frames.items in
    let values = map (λ (n : Located). n.value) in
    record {
      values =
          ap values (sym begins) ∙ ap (λ found. map node_value found ++ values (rest_of (set_of scope) (top_of scope) all frames)) (sym c.new-found.ensures.items);
      inside = ∣ entered-inside (top_of scope) (view c.args.value.now) all frames c.requires.inside c.in_ok-frames.ensures ∣₁;
    }

pub filter::query::all_from-pass_node-requires : goal.filter::query::all_from-pass_node-requires
filter::query::all_from-pass_node-requires g t c = (found-some _ _ c.in_ok-node.field-0 c.in-Some.node c.in-Some.is c.in_ok-node.ensures.found).0

pub filter::query::all_from-values-preserved : goal.filter::query::all_from-values-preserved
filter::query::all_from-values-preserved g t c =
    let scope = c.args.scope.now in
    let all = stages_at (nodes_of scope) c.args.segments.now in
    let node = c.in-Some.node in
    let at = found-some _ _ c.in_ok-node.field-0 node c.in-Some.is c.in_ok-node.ensures.found in
    let left = map (λ (n : Located). n.value) (rest_of (set_of scope) (top_of scope) all (frames_view c.pass_node.new.frames.items)) in
    let found = map node_value c.values.found.items in
    record {
      values =
          c.values.invariant.values
          ∙ rw (c.find_next.ensures.kept.0, at.1.0, sym c.pass_node.ensures, c.in_ok-push.ensures.items, map-append node_value c.values.found.items (node.value ∷ []))
          (sym (append_assoc found (view node.value.now ∷ []) left));
      inside = ∥∥₁_map c.values.invariant.inside (λ h. (h.0, h.1, subst (IsStack h.0) (sym c.pass_node.ensures) (at.1.2 h.0 (c.find_next.ensures.kept.2 h.0 h.2))));
    }

-- ---- logical expressions and calls

pub filter::logic::any_holds-and_holds-requires : goal.filter::logic::any_holds-and_holds-requires
filter::logic::any_holds-and_holds-requires g t c =
    let scope = c.args.scope.now in
    let parts = c.args.operands.now in
    let i = c.loop-operand.operand-index in
    let below = within_get parts i (record { number = 0 }) c.loop-operand-test.true in
    let sound = sound-and (set_of scope) (query_of scope) (branches (nodes_of scope)) parts i (record { number = 0 }) c.loop-operand-test.true c.requires.sound in
    search rules

pub filter::logic::all_hold-basic_holds-requires : goal.filter::logic::all_hold-basic_holds-requires
filter::logic::all_hold-basic_holds-requires g t c =
    let scope = c.args.scope.now in
    let parts = c.args.operands.now in
    let i = c.loop-part.part-index in
    let below = within_get parts i (record { number = 0 }) c.loop-part-test.true in
    let sound = sound-basic (set_of scope) (query_of scope) (branches (nodes_of scope)) parts i (record { number = 0 }) c.loop-part-test.true c.requires.sound in
    search rules

pub filter::logic::basic_holds-relation_holds-requires : goal.filter::logic::basic_holds-relation_holds-requires
filter::logic::basic_holds-relation_holds-requires g t c =
    let scope = c.args.scope.now in
    let sides =
    sound-relation (set_of scope) (query_of scope) (operand_at (nodes_of scope) c.in-Relation.left) (operator_view c.in-Relation.operator) (operand_at (nodes_of scope) c.in-Relation.right) (basic_at (nodes_of scope) c.args.expression)
    (search rules) c.requires.sound.1 in
    search rules

pub filter::call::answer-loop-argument-init : goal.filter::call::answer-loop-argument-init
filter::call::answer-loop-argument-init g t c =
    let scope = c.args.scope.now in
    let F = set_of scope in
    let asked = call_at (nodes_of scope) c.args.call in
    let kinds = map kind_view c.parameters-parameters.result.now in
    let known : kinds ≡ params_of (F.signature (name_of asked)) = parameters-known F (signatures_of scope.query.now) asked kinds scope.fits c.requires.sound.1.0 c.parameters-parameters.ensures in
    let calls = argument-calls (query_of scope) asked c.requires.sound.1.1 in
    let typed : AreTypedArguments F.signature (arguments_of asked) kinds = subst (AreTypedArguments F.signature (arguments_of asked)) (sym known) (typed-arguments F asked c.requires.sound.1.0) in
    record {
      below = grind (arith, common_steps);
      are = search rules;
      sound = search rules;
      typed = grind (arith, common_steps);
      means = search rules;
    }

pub filter::call::answer-loop-argument-preserved : goal.filter::call::answer-loop-argument-preserved
filter::call::answer-loop-argument-preserved g t c = grind (arith, nat_tests, common_steps, next-argument)

pub filter::call::answer-returns-clause-computes : goal.filter::call::answer-returns-clause-computes
filter::call::answer-returns-clause-computes g t c =
    let scope = c.args.scope.now in
    let F = set_of scope in
    let asked = call_at (nodes_of scope) c.args.call in
    let name = c.called_name-name.result.now in
    let v = view c.args.current.now in
    let parts = iter_rest c.loop-argument.argument-iterator.a in
    let kinds = iter_rest c.loop-argument.argument-iterator.b in
    let given = map term_view c.loop-argument.given.items in
    let over : (length parts ≡ 0) ⊎ (length kinds ≡ 0) = elim c.in-None.ensures.steps [ inl h ↦ inl h.1.0 | inr h ↦ inr h.1.0 ] in
    let all = given-all F (top_of scope) (branches (nodes_of scope)) parts kinds v given _ over c.loop-argument.invariant.means in
    record {
      means = answered F (top_of scope) asked name v given c.call.result c.requires.sound.1.0 c.called_name-name.ensures all c.call.ensures.means;
      refused =
          if_refused c.call.result (λ may. by_pattern F (top_of scope) (query_of scope) asked name v given c.called_name-name.ensures c.requires.sound.1 c.requires.inside all may) c.call.ensures.pattern;
    }
