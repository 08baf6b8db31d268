use Rattle.serde_json_path_nodes.proofs.Words.{arith, nat_tests, common_steps, ◌∙◌, sym, rules, same_steps_decides}
use Rattle.serde_json_path_nodes.proofs.Equal.{elements-same_steps, lengths_differ, lasts_differ}
use Rattle.serde_json_path_nodes.proofs.normalized_path.NormalizedPathPartialEq.eq.Goals as goal

pub returns-then-eq-clause-computes : goal.returns-then-eq-clause-computes
returns-then-eq-clause-computes c = grind (arith, nat_tests, common_steps, elements-same_steps)

pub returns-then-eq-clause-same : goal.returns-then-eq-clause-same
returns-then-eq-clause-same c = rw (returns-then-eq-clause-computes c) (same_steps_decides c.args.self.now c.args.other.now)

pub returns-else-eq-clause-computes : goal.returns-else-eq-clause-computes
returns-else-eq-clause-computes c = rw (← c.self.view_is, ← c.other.view_is) (c.if-eq.false ∙ elim c.if-len.branch [
  | goal.then-len w ↦ lasts_differ c.self.inside.steps.items c.other.inside.steps.items w.last.result w.last-then-len.result
      (search rules) (rw (← w.deref.ensures.value) w.last.ensures.value) (rw (← w.deref-then-len.ensures.value) w.last-then-len.ensures.value)
      (sym w.eq.ensures ∙ sym w.value-is ∙ c.if-eq.false)
  | goal.else-len w ↦ lengths_differ c.self.inside.steps.items c.other.inside.steps.items (search rules)
])

pub returns-else-eq-clause-same : goal.returns-else-eq-clause-same
returns-else-eq-clause-same c = rw (returns-else-eq-clause-computes c) (same_steps_decides c.args.self.now c.args.other.now)
