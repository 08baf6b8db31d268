use Rattle.jsonpath_owned_nodes.proofs.Words.{◌≡◌, ◌∷◌, ◌∙◌, rules, step_view}
use Rattle.jsonpath_owned_nodes.proofs.Kept.{step_more}
use Rattle.jsonpath_owned_nodes.proofs.Names.{goes_on}
use Rattle.jsonpath_owned_nodes.proofs.stored_location.push_steps.Goals as goal

pub loop-element-preserved : goal.loop-element-preserved
loop-element-preserved c =
    let before = c.loop-element.invariant in
    let grown = c.store.ensures.grown in
    let next : c.loop-element.element-iterator ≡ step_view c.in-Some.element ∷ c.next.new.self = search rules in
    record {
      grown = goes_on _ _ _ before.grown grown;
      ended = c.push.ensures.ended ∙ before.ended;
      begun = rw c.in_ok-push.ensures.begun (step_more c.loop-element.names c.store.new.names grown _ _ _ _ _ _ before.begun next c.in_ok-store.ensures.stored c.in_ok-store.ensures.step);
    }
