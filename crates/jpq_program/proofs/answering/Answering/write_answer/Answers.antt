use Rattle.jpq_program.proofs.Words.{shown_by, shown_in_part_by}
use Rattle.jpq_program.proofs.Shown.{answered_sent, if_both, written_begun}
use Rattle.jpq_program.proofs.answering.Answering.write_answer.Goals as goal

pub returns-clause-answered : goal.returns-clause-answered
returns-clause-answered g c =
    if_both c.write.result _ _ _ c.write.ensures.whole c.write.ensures.all (λ sent none are.
    let answered = c.in_ok-make_answer.ensures.answered are in
    (answered_sent g.W.Write.contents (shown_by c.args.self.now c.args.document.source.name.now c.args.document.source.line c.args.document.bytes.now c.args.streams.now.total) (shown_in_part_by c.args.self.now c.args.document.source.name.now c.args.document.source.line c.args.document.bytes.now c.args.streams.now.total) c.args.streams.now c.make_answer.new.streams c.write.new.self answered c.write.ensures.kept sent, none))

pub returns-clause-begun : goal.returns-clause-begun
returns-clause-begun g c = λ are.
    written_begun g.W.Write.contents (shown_by c.args.self.now c.args.document.source.name.now c.args.document.source.line c.args.document.bytes.now c.args.streams.now.total) (shown_in_part_by c.args.self.now c.args.document.source.name.now c.args.document.source.line c.args.document.bytes.now c.args.streams.now.total) c.args.streams.now c.make_answer.new.streams c.write.new.self (c.in_ok-make_answer.ensures.answered are) c.write.ensures.beginning
