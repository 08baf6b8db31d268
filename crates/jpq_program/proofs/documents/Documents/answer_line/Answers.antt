use Rattle.jpq_program.proofs.Words.{◌∙◌, IfOk-weaker, List, refl, sym, ℕ, IfWhole, IsLineShown, More, Shown, wanted_by, wanted_in_part_by}
use Rattle.jpq_program.proofs.Sending.{blank_sent, goes_on, line_shown, no_answer, no_line}
use Rattle.jpq_program.proofs.Shown.{answered_as, begun_as, nothing_begun}
use Rattle.jpq_program.proofs.documents.Documents.answer_line.Goals as goal

pub returns-clause-answered : goal.returns-clause-answered
returns-clause-answered g c = IfOk-weaker c.answer_bytes.result _ _ (λ next answered reads more empty.
    let name = c.args.source.name.now in
    let number = c.args.source.line in
    let line = c.args.line.now in
    let bytes = c.document_of.result.now in
    let before = c.args.streams.now.total in
    let sent = answered reads more empty in
    let line_of : (Is : Shown) (text : List ℕ) (count : ℕ) → Is name number bytes before text count → IsLineShown Is name number line before text count = λ Is text count is.
    line_shown Is name number line bytes before text count (sym c.is_blank.ensures ∙ c.if-is_blank.false) c.document_of.ensures is in
    let Is = wanted_by c.args.self.now.answering in
    let IsPart = wanted_in_part_by c.args.self.now.answering in (
      sent.0,
      (
        answered_as g.W.Write.contents (IfWhole next (Is name number bytes before)) (IsPart name number bytes before) (IfWhole next (IsLineShown Is name number line before)) (IsLineShown IsPart name number line before) c.args.streams.now c.answer_bytes.new.streams
            (λ text count is whole. line_of Is text count (is whole)) (line_of IsPart) sent.1.0,
        sent.1.1,
      ),
    )) c.answer_bytes.ensures.answered

pub returns-clause-begun : goal.returns-clause-begun
returns-clause-begun g c = λ reads more.
    let Is = wanted_in_part_by c.args.self.now.answering in
    begun_as g.W.Write.contents (Is c.args.source.name.now c.args.source.line c.document_of.result.now c.args.streams.now.total) (IsLineShown Is c.args.source.name.now c.args.source.line c.args.line.now c.args.streams.now.total) c.args.streams.now c.answer_bytes.new.streams
    (λ text count is. line_shown Is c.args.source.name.now c.args.source.line c.args.line.now c.document_of.result.now c.args.streams.now.total text count (sym c.is_blank.ensures ∙ c.if-is_blank.false) c.document_of.ensures is) (c.answer_bytes.ensures.begun reads more)

pub returns-then-is_blank-clause-answered : goal.returns-then-is_blank-clause-answered
returns-then-is_blank-clause-answered g c = λ reads more empty.
    goes_on g.W.Write.contents c.args.self.now.answering.showing.output.form c.args.self.now.answering.showing.most_of_all (IsLineShown (wanted_by c.args.self.now.answering) c.args.source.name.now c.args.source.line c.args.line.now c.args.streams.now.total) (IsLineShown (wanted_in_part_by c.args.self.now.answering) c.args.source.name.now c.args.source.line c.args.line.now c.args.streams.now.total) More c.args.streams.now c.args.streams.now more
    (blank_sent g.W.Write.contents (wanted_by c.args.self.now.answering) (wanted_in_part_by c.args.self.now.answering) c.args.source.name.now c.args.source.line c.args.line.now c.args.streams.now (sym c.is_blank.ensures ∙ c.if-is_blank.true), empty)

pub returns-then-is_blank-clause-begun : goal.returns-then-is_blank-clause-begun
returns-then-is_blank-clause-begun g c = λ reads more.
    nothing_begun g.W.Write.contents (IsLineShown (wanted_in_part_by c.args.self.now.answering) c.args.source.name.now c.args.source.line c.args.line.now c.args.streams.now.total) c.args.streams.now c.args.streams.now
    (no_line (wanted_in_part_by c.args.self.now.answering) c.args.source.name.now c.args.streams.now.total (λ number bytes. no_answer c.args.self.now.answering c.args.source.name.now number bytes c.args.streams.now.total) c.args.source.line c.args.line.now) refl
