use Rattle.serde_json_path_core.proofs.Words.{get_or, None, Some, ◌∙◌, sym, true≢false, get_or_default, view, nodes_in, Part, arith, nat_tests, common_steps}
use Rattle.serde_json_path_core.proofs.Walks.Chains.{child_stands}
use Rattle.serde_json_path_core.proofs.Walks.SingleChildren.{child-selected, goes_down, next-singular}
use Rattle.serde_json_path_core.proofs.evaluation.single_children.go_down.Goals as goal

pub returns-in-None-clause-selects : goal.returns-in-None-clause-selects
returns-in-None-clause-selects c = λ F top.
    let parts = c.args.segments.now in
    let i = c.loop-passed.passed in
    let first : Part = record { number = 0 } in
    c.loop-passed.invariant.selects F top
    ∙ goes_down F top (nodes_in c.args.query.now) parts i (get_or parts i first) (view c.loop-passed.reached.now) c.in-Some.selector None c.loop-passed-test.true
    (get_or_default parts i first (get_or parts i first) c.loop-passed-test.true) c.in-Some.ensures.found c.in-None.ensures

pub loop-passed-preserved : goal.loop-passed-preserved
loop-passed-preserved c =
    let parts = c.args.segments.now in
    let i = c.loop-passed.passed in
    let first : Part = record { number = 0 } in
    let child = view c.in-Some-select.child.now in
    let selected = child-selected c.in-Some.selector (view c.loop-passed.reached.now) child c.in-Some-select.ensures in
    record {
      selects = λ F top.
          c.loop-passed.invariant.selects F top
          ∙ goes_down F top (nodes_in c.args.query.now) parts i (get_or parts i first) (view c.loop-passed.reached.now) c.in-Some.selector (Some child) c.loop-passed-test.true
          (get_or_default parts i first (get_or parts i first) c.loop-passed-test.true) c.in-Some.ensures.found c.in-Some-select.ensures;
      singular = λ all.
          (next-singular (nodes_in c.args.query.now) parts i (get_or parts i first) c.loop-passed-test.true (get_or_default parts i first (get_or parts i first) c.loop-passed-test.true) (c.loop-passed.invariant.singular all)).3;
      inside = λ top stands.
          child_stands top (view c.loop-passed.reached.now) selected.0 child selected.1 (c.loop-passed.invariant.inside top stands);
    }

pub returns-in_default-clause-whole : goal.returns-in_default-clause-whole
returns-in_default-clause-whole c = λ all.
    let parts = c.args.segments.now in
    let i = c.loop-passed.passed in
    let first : Part = record { number = 0 } in
    let next = next-singular (nodes_in c.args.query.now) parts i (get_or parts i first) c.loop-passed-test.true (get_or_default parts i first (get_or parts i first) c.loop-passed-test.true) (c.loop-passed.invariant.singular all) in
    let some = c.single_selector.ensures.complete next.0 next.1 next.2 in
    absurd (true≢false (sym (rw c.in_default.is at some)))
