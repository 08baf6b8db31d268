use Rattle.serde_json_path_tests.proofs.Words.{◌∷◌, sym, subst, ◌∙◌, step_view, ArePositionsWritten}
use Rattle.serde_json_path_tests.proofs.tests.headline.can_be_written.Goals as goal

pub loop-step-init : goal.loop-step-init
loop-step-init c = subst ArePositionsWritten (c.into_iter-step-iterator.ensures.into_iter_gives ∙ c.iter-step-items.ensures)

pub loop-step-preserved : goal.loop-step-preserved
loop-step-preserved c = λ h.
    c.loop-step.invariant
    (subst ArePositionsWritten (sym c.in-Some.ensures.steps)
    (subst (λ s. ArePositionsWritten (step_view s ∷ c.next.new.self)) (sym c.in-Index.is) (c.if-position-gt-LARGEST_INDEX.false, h)))

pub returns : goal.returns
returns c = λ yes. c.loop-step.invariant (subst ArePositionsWritten (sym c.in-None.ensures.steps.0) tt)
