use Rattle.serde_json_path_core.proofs.Words.{◌≡◌, ◌+◌, ◌-◌, ◌*◌, ◌≤◌, ◌++◌, drop, length, map, max, AreOfKind, is_argument, iter_rest, view, Located, node_value, kind_of_term, term_view, arguments_of, calls_in_arguments, name_of, AreTypedArguments, params_of, arguments_in, call_at, branches, branches_named, segments_at, parts_bound, selector_bound, cursor_left, rest_of, work, IsStackIn, Passes, values_from, stage_at, stages_at, Sound, nodes_of, top_of, frame_view, frames_view, kind_view, form_bound, any_holds, all_hold, IsKept, set_of, Filter}
use Rattle.serde_json_path_core.specs.Inside.Computed as computed
use Rattle.serde_json_path_core.specs.Inside.Evaluates.{Skips}
use Rattle.serde_json_path_core.proofs.+evaluation.Given as goal

abbrev pub decreases-filter::logic::or_holds : goal.decreases-filter::logic::or_holds
decreases-filter::logic::or_holds g l = 8 * l.expression.number + 5

abbrev pub decreases-filter::logic::any_holds : goal.decreases-filter::logic::any_holds
decreases-filter::logic::any_holds g l = 8 * parts_bound l.operands.now + 4

abbrev pub decreases-filter::logic::and_holds : goal.decreases-filter::logic::and_holds
decreases-filter::logic::and_holds g l = 8 * l.expression.number + 5

abbrev pub decreases-filter::logic::all_hold : goal.decreases-filter::logic::all_hold
decreases-filter::logic::all_hold g l = 8 * parts_bound l.operands.now + 4

abbrev pub decreases-filter::logic::others_hold : goal.decreases-filter::logic::others_hold
decreases-filter::logic::others_hold g l = 8 * parts_bound l.operands.now + 5

abbrev pub decreases-filter::logic::basic_holds : goal.decreases-filter::logic::basic_holds
decreases-filter::logic::basic_holds g l = 8 * l.expression.number + 5

abbrev pub decreases-filter::logic::relation_holds : goal.decreases-filter::logic::relation_holds
decreases-filter::logic::relation_holds g l = 8 * max l.left.number l.right.number + 3

abbrev pub decreases-filter::logic::compares : goal.decreases-filter::logic::compares
decreases-filter::logic::compares g l = 8 * max (max (form_bound l.comparison.now.left) (form_bound l.comparison.now.right)) (parts_bound l.comparison.now.others.now) + 6

abbrev pub decreases-filter::logic::first_compares : goal.decreases-filter::logic::first_compares
decreases-filter::logic::first_compares g l = 8 * max (form_bound l.comparison.now.left) (form_bound l.comparison.now.right) + 2

abbrev pub decreases-filter::logic::answer_compares : goal.decreases-filter::logic::answer_compares
decreases-filter::logic::answer_compares g l = 8 * max (l.call.number + 1) (form_bound l.right) + 1

abbrev pub decreases-filter::logic::compares_with : goal.decreases-filter::logic::compares_with
decreases-filter::logic::compares_with g l = 8 * form_bound l.right

abbrev pub decreases-filter::logic::compares_with_answer : goal.decreases-filter::logic::compares_with_answer
decreases-filter::logic::compares_with_answer g l = 8 * l.call.number + 7

abbrev pub decreases-filter::logic::test_holds : goal.decreases-filter::logic::test_holds
decreases-filter::logic::test_holds g l = 8 * l.operand.number + 5

abbrev pub decreases-filter::logic::exists : goal.decreases-filter::logic::exists
decreases-filter::logic::exists g l = 8 * l.query.number + 7

abbrev pub decreases-filter::logic::call_holds : goal.decreases-filter::logic::call_holds
decreases-filter::logic::call_holds g l = 8 * l.call.number + 6

abbrev pub decreases-filter::query::first : goal.decreases-filter::query::first
decreases-filter::query::first g l = 8 * l.query.number + 6

abbrev pub decreases-filter::query::first_from : goal.decreases-filter::query::first_from
decreases-filter::query::first_from g l = 8 * parts_bound l.segments.now + 5

abbrev pub decreases-filter::query::all_from : goal.decreases-filter::query::all_from
decreases-filter::query::all_from g l = 8 * parts_bound l.segments.now + 5

abbrev pub decreases-filter::query::all_values : goal.decreases-filter::query::all_values
decreases-filter::query::all_values g l = 8 * l.query.number + 6

abbrev pub decreases-filter::call::answer : goal.decreases-filter::call::answer
decreases-filter::call::answer g l = 8 * l.call.number + 5

abbrev pub decreases-filter::call::argument_as : goal.decreases-filter::call::argument_as
decreases-filter::call::argument_as g l = 8 * l.argument.number + 6

abbrev pub decreases-filter::call::result_as : goal.decreases-filter::call::result_as
decreases-filter::call::result_as g l = 8 * l.query.number + 7

abbrev pub decreases-evaluation::stack::find_next : goal.decreases-evaluation::stack::find_next
decreases-evaluation::stack::find_next g l = 8 * parts_bound l.segments.now + 4

abbrev pub decreases-evaluation::frame::Frame::next_arrival : goal.decreases-evaluation::frame::Frame::next_arrival
decreases-evaluation::frame::Frame::next_arrival g l = 8 * l.segment.number + 6

abbrev pub decreases-evaluation::frame::next_admitted : goal.decreases-evaluation::frame::next_admitted
decreases-evaluation::frame::next_admitted g l = 8 * selector_bound l.selector_ref + 3

abbrev pub decreases-evaluation::frame::next_holding : goal.decreases-evaluation::frame::next_holding
decreases-evaluation::frame::next_holding g l = 8 * l.test.number + 6

abbrev pub decreases-evaluation::frame::next_passing : goal.decreases-evaluation::frame::next_passing
decreases-evaluation::frame::next_passing g l = 8 * l.test.number + 7

abbrev pub invariant-filter::logic::any_holds-loop-operand : goal.invariant-filter::logic::any_holds-loop-operand
invariant-filter::logic::any_holds-loop-operand g l =
    any_holds l.fn.scope l.fn.operands (view l.fn.current) ≡ any_holds l.scope (drop l.operand-index l.operands) (view l.current)

abbrev pub invariant-filter::logic::all_hold-loop-part : goal.invariant-filter::logic::all_hold-loop-part
invariant-filter::logic::all_hold-loop-part g l =
    all_hold l.fn.scope l.fn.operands (view l.fn.current) ≡ all_hold l.scope (drop l.part-index l.operands) (view l.current)

abbrev pub invariant-evaluation::frame::Frame::next_arrival-loop-selector_ref : goal.invariant-evaluation::frame::Frame::next_arrival-loop-selector_ref
invariant-evaluation::frame::Frame::next_arrival-loop-selector_ref g l =
    (l.self.segment ≡ l.fn.self.segment) × Passes (set_of l.scope) (top_of l.scope) (stage_at (nodes_of l.scope) l.segment) (frame_view l.fn.self) (frame_view l.self)

abbrev pub decreases-evaluation::frame::Frame::next_arrival-loop-selector_ref : goal.decreases-evaluation::frame::Frame::next_arrival-loop-selector_ref
decreases-evaluation::frame::Frame::next_arrival-loop-selector_ref g l = length (stage_at (nodes_of l.scope) l.segment).selectors - l.self.selector

abbrev pub invariant-evaluation::frame::next_passing-loop-child : goal.invariant-evaluation::frame::next_passing-loop-child
invariant-evaluation::frame::next_passing-loop-child g l = Skips l.scope (Filter l.fn.test) (cursor_left l.fn.cursor) (cursor_left l.cursor)

abbrev pub decreases-evaluation::frame::next_passing-loop-child : goal.decreases-evaluation::frame::next_passing-loop-child
decreases-evaluation::frame::next_passing-loop-child g l = length (cursor_left l.cursor)

abbrev pub invariant-evaluation::frame::next_holding-loop-child : goal.invariant-evaluation::frame::next_holding-loop-child
invariant-evaluation::frame::next_holding-loop-child g l = Skips l.scope (Filter l.fn.test) (cursor_left l.fn.cursor) (cursor_left l.cursor)

abbrev pub decreases-evaluation::frame::next_holding-loop-child : goal.decreases-evaluation::frame::next_holding-loop-child
decreases-evaluation::frame::next_holding-loop-child g l = length (cursor_left l.cursor)

abbrev pub invariant-evaluation::stack::find_next-loop-last : goal.invariant-evaluation::stack::find_next-loop-last
invariant-evaluation::stack::find_next-loop-last g l =
    IsKept (set_of l.scope) (top_of l.scope) (stages_at (nodes_of l.scope) l.segments) (frames_view l.fn.frames.items) (frames_view l.frames.items)

abbrev pub decreases-evaluation::stack::find_next-loop-last : goal.decreases-evaluation::stack::find_next-loop-last
decreases-evaluation::stack::find_next-loop-last g l = work (stages_at (nodes_of l.scope) l.segments) (frames_view l.frames.items)

abbrev pub invariant-filter::query::all_from-values : goal.invariant-filter::query::all_from-values
invariant-filter::query::all_from-values g l = record {
  values : values_from (set_of l.fn.scope) (top_of l.fn.scope) (segments_at (nodes_of l.fn.scope) l.fn.segments) (view l.fn.value)
      ≡ map node_value l.found.items ++ map (λ (n : Located). n.value) (rest_of (set_of l.scope) (top_of l.scope) (stages_at (nodes_of l.scope) l.segments) (frames_view l.frames.items));
  inside : ∥ IsStackIn (top_of l.scope) (frames_view l.frames.items) ∥₁;
}

abbrev pub decreases-filter::query::all_from-values : goal.decreases-filter::query::all_from-values
decreases-filter::query::all_from-values g l = work (stages_at (nodes_of l.scope) l.segments) (frames_view l.frames.items)

abbrev pub invariant-filter::call::answer-loop-argument : goal.invariant-filter::call::answer-loop-argument
invariant-filter::call::answer-loop-argument g l =
    let F = set_of l.scope in
    let call = call_at (nodes_of l.scope) l.fn.call in
    let parts = iter_rest l.argument-iterator.a in
    let kinds = map kind_view (iter_rest l.argument-iterator.b) in
    let left = arguments_in (branches_named (branches (nodes_of l.scope)) parts) in
    let given = map term_view l.given.items in
    record {
      below : parts_bound parts ≤ l.fn.call.number;
      are : AreOfKind is_argument (nodes_of l.scope) parts;
      sound : Sound l.scope (λ signature args. AreTypedArguments signature args kinds) calls_in_arguments left;
      typed : map kind_of_term given ++ kinds ≡ params_of (F.signature (name_of call));
      means : computed.arguments F (top_of l.scope) (arguments_of call) (params_of (F.signature (name_of call))) (view l.current)
          ≡ given ++ computed.arguments F (top_of l.scope) left kinds (view l.current);
    }
