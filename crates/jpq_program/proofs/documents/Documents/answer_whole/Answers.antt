use Rattle.jpq_program.proofs.Words.{◌≡◌, ◌∙◌, ◌++◌, IfOk-weaker, List, ℕ, ap, subst, Begins, IsInputShown, SendsDocument, Streams, false, wanted_by, wanted_in_part_by, without_mark}
use Rattle.jpq_program.proofs.Sending.{known_at, no_answer, no_input, refused_until, some_known}
use Rattle.jpq_program.proofs.Shown.{nothing_begun}
use Rattle.jpq_program.proofs.documents.Documents.answer_whole.Goals as goal

pub returns-in-Ok-clause-answered : goal.returns-in-Ok-clause-answered
returns-in-Ok-clause-answered g c = IfOk-weaker c.answer_bytes.result _ _ (λ next answered reads more empty.
    some_known (g.I.Read.remaining c.args.input) (λ bytes is.
    let whole = known_at _ (g.I.Read.remaining c.args.input) bytes is c.in-Ok.ensures.bytes in
    let same : c.without_mark.result.now ≡ without_mark bytes = c.without_mark.ensures ∙ ap without_mark (c.deref.ensures.value ∙ whole ∙ ap (λ (front : List ℕ). front ++ bytes) c.new-bytes.ensures.items) in
    subst (λ (own : List ℕ). SendsDocument g.W.Write.contents c.args.self.now.answering next c.args.name.now 1 own c.args.streams.now c.answer_bytes.new.streams) same (answered reads more empty))) c.answer_bytes.ensures.answered

pub returns-in-Ok-clause-begun : goal.returns-in-Ok-clause-begun
returns-in-Ok-clause-begun g c = λ reads more.
    some_known (g.I.Read.remaining c.args.input) (λ bytes is.
    let whole = known_at _ (g.I.Read.remaining c.args.input) bytes is c.in-Ok.ensures.bytes in
    let same : c.without_mark.result.now ≡ without_mark bytes = c.without_mark.ensures ∙ ap without_mark (c.deref.ensures.value ∙ whole ∙ ap (λ (front : List ℕ). front ++ bytes) c.new-bytes.ensures.items) in
    subst (λ (own : List ℕ). Begins g.W.Write.contents (wanted_in_part_by c.args.self.now.answering c.args.name.now 1 own c.args.streams.now.total) c.args.streams.now c.answer_bytes.new.streams) same (c.answer_bytes.ensures.begun reads more))

pub returns-clause-answered : goal.returns-clause-answered
returns-clause-answered g c = IfOk-weaker c.refuse_input.result _ _ (λ next refused reads more empty.
    some_known (g.I.Read.remaining c.args.input) (λ bytes is.
    refused_until g.W.Write.contents c.args.self.now.answering.showing.output.form c.args.self.now.answering.showing.most_of_all (IsInputShown (wanted_by c.args.self.now.answering) false c.args.name.now bytes c.args.streams.now.total) (IsInputShown (wanted_in_part_by c.args.self.now.answering) false c.args.name.now bytes c.args.streams.now.total) next c.args.streams.now c.refuse_input.new.streams
    refused.0 more empty (no_input (wanted_in_part_by c.args.self.now.answering) false c.args.name.now bytes c.args.streams.now.total (λ number bytes. no_answer c.args.self.now.answering c.args.name.now number bytes c.args.streams.now.total)) c.refuse_input.ensures.kept refused.1)) c.refuse_input.ensures.refused

pub returns-clause-begun : goal.returns-clause-begun
returns-clause-begun g c = λ reads more.
    some_known (g.I.Read.remaining c.args.input) (λ bytes is.
    nothing_begun g.W.Write.contents (IsInputShown (wanted_in_part_by c.args.self.now.answering) false c.args.name.now bytes c.args.streams.now.total) c.args.streams.now c.refuse_input.new.streams
    (no_input (wanted_in_part_by c.args.self.now.answering) false c.args.name.now bytes c.args.streams.now.total (λ number bytes. no_answer c.args.self.now.answering c.args.name.now number bytes c.args.streams.now.total)) (ap (λ (s : Streams g.row.W.Denot g.row.E.Denot). s.out) c.refuse_input.ensures.kept))
