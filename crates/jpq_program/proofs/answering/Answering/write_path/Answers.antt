use Rattle.jpq_program.proofs.Words.{IfErr-weaker, IfOk-weaker, arith, common_steps, inl, inr, refl, view}
use Rattle.jpq_program.proofs.Nodes.{begins_again, filled_again, took_again}
use Rattle.jpq_program.proofs.answering.Answering.write_path.Goals as goal

pub returns-in-Ok-clause-filled : goal.returns-in-Ok-clause-filled
returns-in-Ok-clause-filled g c = IfOk-weaker c.write_nodes-in-Ok.result _ _ (λ _ filled.
    let none = (c.in-Err-Pattern.ensures.before c.in-Err-Pattern.field-0-is).2.took in (
      view c.in-Ok.whole,
      filled.0,
      inr (rw c.in-Ok.is at c.read_document.ensures.ok),
      filled.1,
      filled_again g.W.Write.contents c.args.written.now _ _ c.write_nodes.new.written c.write_nodes-in-Ok.new.written none c.requires.none (grind (arith, common_steps, c.if-written-eq0.true)) filled.2,
    )) c.write_nodes-in-Ok.ensures.filled

pub returns-in-Ok-clause-before : goal.returns-in-Ok-clause-before
returns-in-Ok-clause-before g c = IfErr-weaker c.write_nodes-in-Ok.result _ _ (λ _ again pattern.
    let none = (c.in-Err-Pattern.ensures.before c.in-Err-Pattern.field-0-is).2.took in
    let later = again pattern in (
      view c.in-Ok.whole,
      later.0,
      inr (rw c.in-Ok.is at c.read_document.ensures.ok),
      later.1,
      took_again g.W.Write.contents c.args.written.now c.write_nodes.new.written c.write_nodes-in-Ok.new.written _ later.0 none c.requires.none (grind (arith, common_steps, c.if-written-eq0.true)) later.2,
    )) c.write_nodes-in-Ok.ensures.before

pub returns-in-Ok-clause-begun : goal.returns-in-Ok-clause-begun
returns-in-Ok-clause-begun g c =
    let none = (c.in-Err-Pattern.ensures.before c.in-Err-Pattern.field-0-is).2.took in
    let later = c.write_nodes-in-Ok.ensures.begun in (
      view c.in-Ok.whole,
      later.0,
      inr (rw c.in-Ok.is at c.read_document.ensures.ok),
      later.1,
      begins_again g.W.Write.contents c.args.written.now c.write_nodes.new.written c.write_nodes-in-Ok.new.written _ later.0 none c.requires.none (grind (arith, common_steps, c.if-written-eq0.true)) later.2,
    )

pub returns-in_default-2-clause-before : goal.returns-in_default-2-clause-before
returns-in_default-2-clause-before g c = λ pattern.
    let before = c.in-Err-Pattern.ensures.before pattern in
    (view c.args.document.value.now, before.0, inl refl, before.1, before.2)
