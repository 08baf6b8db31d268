use Rattle.jpq_program.proofs.Words.{ℕ, subst, AreInputsShown, IsBetween, IfWhole, header_by, names_in, total_by, wanted_by, wanted_in_part_by}
use Rattle.jpq_program.proofs.Sending.{header_begun, inputs_begun, no_answer, no_named, opened_at, sends_between, sum_begun}
use Rattle.jpq_program.specs.Inside.{OpensBy}
use Rattle.jpq_program.proofs.Shown.{answered_begun}
use Rattle.jpq_program.proofs.run.answer_documents.Goals as goal

pub returns-clause-answered : goal.returns-clause-answered
returns-clause-answered g c = λ reads fresh empty known.
    let head = c.in_ok-write_header.ensures.sent empty in
    let sent = c.in_ok-next.ensures.answered reads head.1 known in
    sends_between g.W.Write.contents c.args.documents.now.answering.showing.output.form c.args.documents.now.answering.showing.most_of_all (header_by c.args.documents.now.answering c.args.options.now.header) (total_by c.args.documents.now.answering) (λ before. AreInputsShown (wanted_by c.args.documents.now.answering) c.args.documents.now.lines (g.I.Inputs.bytes_of c.args.inputs.now) (names_in c.args.options.now) before) (λ before. AreInputsShown (wanted_in_part_by c.args.documents.now.answering) c.args.documents.now.lines (g.I.Inputs.bytes_of c.args.inputs.now) (names_in c.args.options.now) before)
    c.in_ok-next.next c.args.streams.now c.write_header.new.streams c.answer_inputs.new.streams c.write_total.new.streams fresh head sent (c.in_ok-write_total.ensures.sent sent.1.1)

-- ---- of what a beginning is out, however it ends

pub returns-clause-begun : goal.returns-clause-begun
returns-clause-begun g c = λ reads fresh empty known.
    let sent = returns-clause-answered g c reads fresh empty known in
    answered_begun g.W.Write.contents (IfWhole c.in_ok-next.next (IsBetween (header_by c.args.documents.now.answering c.args.options.now.header) (total_by c.args.documents.now.answering) (AreInputsShown (wanted_by c.args.documents.now.answering) c.args.documents.now.lines (g.I.Inputs.bytes_of c.args.inputs.now) (names_in c.args.options.now) 0))) (IsBetween (header_by c.args.documents.now.answering c.args.options.now.header) (total_by c.args.documents.now.answering) (AreInputsShown (wanted_in_part_by c.args.documents.now.answering) c.args.documents.now.lines (g.I.Inputs.bytes_of c.args.inputs.now) (names_in c.args.options.now) 0)) c.args.streams.now c.write_total.new.streams sent.1.0

pub returns-in_err-write_total-clause-begun : goal.returns-in_err-write_total-clause-begun
returns-in_err-write_total-clause-begun g c = λ reads fresh empty known.
    let head = c.in_ok-write_header.ensures.sent empty in
    sum_begun g.W.Write.contents c.args.documents.now.answering.showing.output.form c.args.documents.now.answering.showing.most_of_all (header_by c.args.documents.now.answering c.args.options.now.header) (total_by c.args.documents.now.answering) (λ before. AreInputsShown (wanted_by c.args.documents.now.answering) c.args.documents.now.lines (g.I.Inputs.bytes_of c.args.inputs.now) (names_in c.args.options.now) before) (λ before. AreInputsShown (wanted_in_part_by c.args.documents.now.answering) c.args.documents.now.lines (g.I.Inputs.bytes_of c.args.inputs.now) (names_in c.args.options.now) before)
    c.in_ok-next.next c.args.streams.now c.write_header.new.streams c.answer_inputs.new.streams c.write_total.new.streams fresh head (c.in_ok-next.ensures.answered reads head.1 known) c.write_total.ensures.begun

pub returns-in_err-next-clause-begun : goal.returns-in_err-next-clause-begun
returns-in_err-next-clause-begun g c = λ reads fresh empty known.
    let head = c.in_ok-write_header.ensures.sent empty in
    inputs_begun g.W.Write.contents (header_by c.args.documents.now.answering c.args.options.now.header) (total_by c.args.documents.now.answering) (λ before. AreInputsShown (wanted_in_part_by c.args.documents.now.answering) c.args.documents.now.lines (g.I.Inputs.bytes_of c.args.inputs.now) (names_in c.args.options.now) before) c.args.streams.now c.write_header.new.streams c.answer_inputs.new.streams fresh head (c.answer_inputs.ensures.begun reads head.1 known)

pub returns-in_err-write_header-clause-begun : goal.returns-in_err-write_header-clause-begun
returns-in_err-write_header-clause-begun g c = λ reads fresh empty known.
    header_begun g.W.Write.contents (header_by c.args.documents.now.answering c.args.options.now.header) (total_by c.args.documents.now.answering) (AreInputsShown (wanted_in_part_by c.args.documents.now.answering) c.args.documents.now.lines (g.I.Inputs.bytes_of c.args.inputs.now) (names_in c.args.options.now) 0) c.args.streams.now c.write_header.new.streams
    (no_named (wanted_in_part_by c.args.documents.now.answering) c.args.documents.now.lines (g.I.Inputs.bytes_of c.args.inputs.now) (names_in c.args.options.now) 0 (λ name number bytes. no_answer c.args.documents.now.answering name number bytes 0) known 1) c.write_header.ensures.begun

pub returns-clause-wanted : goal.returns-clause-wanted
returns-clause-wanted g c = λ whole right reads fresh empty known.
    let head = c.in_ok-write_header.ensures.sent empty in
    let sent = c.in_ok-next.ensures.answered reads head.1 known in
    let closed = c.in_ok-write_total.ensures.sent sent.1.1 in
    subst (λ (n : ℕ). OpensBy c.args.documents.now (g.I.Inputs.bytes_of c.args.inputs.now) n (names_in c.args.options.now) (g.I.Inputs.opened c.args.inputs.now) (g.I.Inputs.opened c.answer_inputs.new.inputs))
    (opened_at g.W.Write.contents (header_by c.args.documents.now.answering c.args.options.now.header) c.args.streams.now c.write_header.new.streams fresh head)
    (c.in_ok-next.ensures.wanted whole (closed.0.whole right).0 reads head.1 known)
