use Rattle.jpq_program.proofs.Words.{Bool, true, false, ap, IfOk-weaker, refl, subst, sym, Begins, IfWhole, IsInputShown, SendsInput, Streams, wanted_by, wanted_in_part_by}
use Rattle.jpq_program.proofs.Sending.{known_at, no_answer, no_input, refused_until, some_known}
use Rattle.jpq_program.proofs.Shown.{answered_since, begun_since, nothing_begun}
use Rattle.jpq_program.proofs.documents.Documents.answer_input.Goals as goal

pub returns-then-self-clause-answered : goal.returns-then-self-clause-answered
returns-then-self-clause-answered g c = IfOk-weaker c.answer_lines.result _ _ (λ next answered reads more empty.
    some_known (g.I.Inputs.bytes_of c.args.inputs.now c.args.name.now) (λ bytes is.
    let known = known_at _ (g.I.Inputs.bytes_of c.args.inputs.now c.args.name.now) bytes is c.in-Ok.ensures.known in
    let sent = known_at _ (g.I.Input.Read.remaining c.in-Ok.input) bytes known (answered reads more empty) in
    let own = answered_since g.W.Write.contents (IfWhole next (IsInputShown (wanted_by c.args.self.now.answering) true c.args.name.now bytes c.args.streams.now.total)) (IsInputShown (wanted_in_part_by c.args.self.now.answering) true c.args.name.now bytes c.args.streams.now.total)
    c.args.streams.now (record c.args.streams.now { refused_documents = 0 }) c.answer_lines.new.streams refl refl refl refl (λ silent. refl) sent.1.0 in
    subst (λ (lines : Bool). SendsInput g.W.Write.contents c.args.self.now.answering next lines c.args.name.now bytes c.args.streams.now c.answer_lines.new.streams) (sym c.if-self.true) (sent.0, (own, sent.1.1)))) c.answer_lines.ensures.answered

pub returns-then-self-clause-begun : goal.returns-then-self-clause-begun
returns-then-self-clause-begun g c = λ reads more empty. some_known (g.I.Inputs.bytes_of c.args.inputs.now c.args.name.now) (λ bytes is.
    let known = known_at _ (g.I.Inputs.bytes_of c.args.inputs.now c.args.name.now) bytes is c.in-Ok.ensures.known in
    let begun = known_at _ (g.I.Input.Read.remaining c.in-Ok.input) bytes known (c.answer_lines.ensures.begun reads more empty) in
    subst (λ (lines : Bool). Begins g.W.Write.contents (IsInputShown (wanted_in_part_by c.args.self.now.answering) lines c.args.name.now bytes c.args.streams.now.total) c.args.streams.now c.answer_lines.new.streams) (sym c.if-self.true)
    (begun_since g.W.Write.contents (IsInputShown (wanted_in_part_by c.args.self.now.answering) true c.args.name.now bytes c.args.streams.now.total) c.args.streams.now (record c.args.streams.now { refused_documents = 0 }) c.answer_lines.new.streams refl refl begun))

pub returns-else-self-clause-answered : goal.returns-else-self-clause-answered
returns-else-self-clause-answered g c = IfOk-weaker c.answer_whole.result _ _ (λ next answered reads more empty.
    some_known (g.I.Inputs.bytes_of c.args.inputs.now c.args.name.now) (λ bytes is.
    let known = known_at _ (g.I.Inputs.bytes_of c.args.inputs.now c.args.name.now) bytes is c.in-Ok.ensures.known in
    let sent = known_at _ (g.I.Input.Read.remaining c.in-Ok.input) bytes known (answered reads more empty) in
    let own = answered_since g.W.Write.contents (IfWhole next (IsInputShown (wanted_by c.args.self.now.answering) false c.args.name.now bytes c.args.streams.now.total)) (IsInputShown (wanted_in_part_by c.args.self.now.answering) false c.args.name.now bytes c.args.streams.now.total)
    c.args.streams.now (record c.args.streams.now { refused_documents = 0 }) c.answer_whole.new.streams refl refl refl refl (λ silent. refl) sent.1.0 in
    subst (λ (lines : Bool). SendsInput g.W.Write.contents c.args.self.now.answering next lines c.args.name.now bytes c.args.streams.now c.answer_whole.new.streams) (sym c.if-self.false) (sent.0, (own, sent.1.1)))) c.answer_whole.ensures.answered

pub returns-else-self-clause-begun : goal.returns-else-self-clause-begun
returns-else-self-clause-begun g c = λ reads more empty. some_known (g.I.Inputs.bytes_of c.args.inputs.now c.args.name.now) (λ bytes is.
    let known = known_at _ (g.I.Inputs.bytes_of c.args.inputs.now c.args.name.now) bytes is c.in-Ok.ensures.known in
    let begun = known_at _ (g.I.Input.Read.remaining c.in-Ok.input) bytes known (c.answer_whole.ensures.begun reads more) in
    subst (λ (lines : Bool). Begins g.W.Write.contents (IsInputShown (wanted_in_part_by c.args.self.now.answering) lines c.args.name.now bytes c.args.streams.now.total) c.args.streams.now c.answer_whole.new.streams) (sym c.if-self.false)
    (begun_since g.W.Write.contents (IsInputShown (wanted_in_part_by c.args.self.now.answering) false c.args.name.now bytes c.args.streams.now.total) c.args.streams.now (record c.args.streams.now { refused_documents = 0 }) c.answer_whole.new.streams refl refl begun))

pub returns-in-Err-clause-answered : goal.returns-in-Err-clause-answered
returns-in-Err-clause-answered g c = IfOk-weaker c.refuse_input.result _ _ (λ next refused reads more empty.
    some_known (g.I.Inputs.bytes_of c.args.inputs.now c.args.name.now) (λ bytes is.
    let opened = record c.args.streams.now { refused_documents = 0 } in
    let Is = IsInputShown (wanted_by c.args.self.now.answering) c.args.self.now.lines c.args.name.now bytes c.args.streams.now.total in
    let IsPart = IsInputShown (wanted_in_part_by c.args.self.now.answering) c.args.self.now.lines c.args.name.now bytes c.args.streams.now.total in
    let sent = refused_until g.W.Write.contents c.args.self.now.answering.showing.output.form c.args.self.now.answering.showing.most_of_all Is IsPart next opened c.refuse_input.new.streams refused.0 more empty (no_input (wanted_in_part_by c.args.self.now.answering) c.args.self.now.lines c.args.name.now bytes c.args.streams.now.total (λ number bytes. no_answer c.args.self.now.answering c.args.name.now number bytes c.args.streams.now.total)) c.refuse_input.ensures.kept refused.1 in
    (sent.0, (answered_since g.W.Write.contents (IfWhole next Is) IsPart c.args.streams.now opened c.refuse_input.new.streams refl refl refl refl (λ silent. refl) sent.1.0, sent.1.1)))) c.refuse_input.ensures.refused

pub returns-in-Err-clause-begun : goal.returns-in-Err-clause-begun
returns-in-Err-clause-begun g c = λ reads more empty. some_known (g.I.Inputs.bytes_of c.args.inputs.now c.args.name.now) (λ bytes is.
    nothing_begun g.W.Write.contents (IsInputShown (wanted_in_part_by c.args.self.now.answering) c.args.self.now.lines c.args.name.now bytes c.args.streams.now.total) c.args.streams.now c.refuse_input.new.streams
    (no_input (wanted_in_part_by c.args.self.now.answering) c.args.self.now.lines c.args.name.now bytes c.args.streams.now.total (λ number bytes. no_answer c.args.self.now.answering c.args.name.now number bytes c.args.streams.now.total)) (ap (λ (s : Streams g.row.W.Denot g.row.E.Denot). s.out) c.refuse_input.ensures.kept))
