use Rattle.serde_json_path_reach.proofs.Words.{None, Some, add-one, arith, common_steps, false, may_admit, nodes_in, selector_view, selectors_of_row, slice_get, step_view, sym, true, ◌∙◌, ◌≡◌}
use Rattle.serde_json_path_reach.proofs.Selectors.{any_here, any_past}
use Rattle.serde_json_path_reach.proofs.row.Row.any_may_admit.Goals as goal

pub returns-then-may_admit : goal.returns-then-may_admit
returns-then-may_admit c =
    let sel = selector_view (nodes_in c.args.self.now.query.now) c.in-Some.selector in
    let there : slice_get (selectors_of_row c.args.self.now) c.selectors.number ≡ Some sel = sym c.in-Some.ensures.selector_ref in
    let here = (any_here (selectors_of_row c.args.self.now) c.selectors.number sel (step_view c.args.step) there).0 in
    let may : may_admit sel (step_view c.args.step) ≡ true = sym (c.may_admit.ensures (nodes_in c.args.self.now.query.now)) ∙ c.if-may_admit.true in
    sym (sym c.selectors.invariant ∙ here ∙ rw may)

pub selectors-smaller : goal.selectors-smaller
selectors-smaller c =
    let sel = selector_view (nodes_in c.args.self.now.query.now) c.in-Some.selector in
    let there : slice_get (selectors_of_row c.args.self.now) c.selectors.number ≡ Some sel = sym c.in-Some.ensures.selector_ref in
    let within = (any_here (selectors_of_row c.args.self.now) c.selectors.number sel (step_view c.args.step) there).1 in
    omega (arith, within)

pub selectors-preserved : goal.selectors-preserved
selectors-preserved c =
    let sel = selector_view (nodes_in c.args.self.now.query.now) c.in-Some.selector in
    let there : slice_get (selectors_of_row c.args.self.now) c.selectors.number ≡ Some sel = sym c.in-Some.ensures.selector_ref in
    let here = (any_here (selectors_of_row c.args.self.now) c.selectors.number sel (step_view c.args.step) there).0 in
    let not : may_admit sel (step_view c.args.step) ≡ false = sym (c.may_admit.ensures (nodes_in c.args.self.now.query.now)) ∙ c.if-may_admit.false in
    rw add-one (sym (here ∙ rw not) ∙ c.selectors.invariant)

pub returns : goal.returns
returns c =
    let past : slice_get (selectors_of_row c.args.self.now) c.selectors.number ≡ None = grind (arith, common_steps) in
    sym (sym c.selectors.invariant ∙ any_past (selectors_of_row c.args.self.now) c.selectors.number (step_view c.args.step) past)
