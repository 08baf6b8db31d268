use Rattle.jsonpath_program.proofs.Words.{◌≡◌, true, Option, subst, ◌∙◌, IfOk-weaker, Drains, Run, YieldsRun}
use Rattle.jsonpath_program.proofs.arguments.words_after_first.Goals as goal

-- a run that went on to `None` drained its iterator
run_drains : {S A : Type 0} {steps : S → Option A → S → Type 0} (run : Run steps) (s : S) → run.from ≡ s → run.whole ≡ true → Drains steps s run.items
unfolding YieldsRun
run_drains {steps = steps} run s from whole =
    let (t, yields, ends) = run.gave.0 in
    let (u, last) = ends whole in
    subst (λ x. Drains steps x run.items) from (u, (t, yields, last))

pub returns : goal.returns
returns g c = IfOk-weaker c.collect.result _ _ (λ words made.
    let (run, from, whole, gives) = made tt in
    let (source, start, skipped) = c.skip.ensures.runs run run.seen from in
    (source.items, run_drains source c.args.args start (skipped.0 ∙ whole), gives.0 ∙ skipped.2)) c.collect.ensures.runs
