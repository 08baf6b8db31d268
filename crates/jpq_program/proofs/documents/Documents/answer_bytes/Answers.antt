use Rattle.jpq_program.proofs.Words.{IfOk-weaker, ap, map, view, AskedPath, Streams, path_tree, shows_places, wanted_by, wanted_in_part_by}
use Rattle.jpq_program.proofs.Read.{are_shown_as}
use Rattle.jpq_program.proofs.Sending.{no_answer, refused_until}
use Rattle.jpq_program.proofs.Shown.{nothing_begun}
use Rattle.jpq_program.proofs.documents.Documents.answer_bytes.Goals as goal

pub returns-in-Ok-clause-answered : goal.returns-in-Ok-clause-answered
returns-in-Ok-clause-answered g c = IfOk-weaker c.answer-answered.result _ _ (λ _ answered reads more empty.
    let read = (rw c.in-Ok.is at c.document.ensures) (shows_places c.args.self.now.answering.showing.output.form) (map (λ (path : AskedPath). path_tree path.path) c.args.self.now.answering.paths.now) reads.read in
    answered (are_shown_as c.args.self.now c.args.bytes.now (view c.in-Ok.document) reads read) more) c.answer-answered.ensures.answered

pub returns-in-Ok-clause-begun : goal.returns-in-Ok-clause-begun
returns-in-Ok-clause-begun g c = λ reads more.
    let read = (rw c.in-Ok.is at c.document.ensures) (shows_places c.args.self.now.answering.showing.output.form) (map (λ (path : AskedPath). path_tree path.path) c.args.self.now.answering.paths.now) reads.read in
    c.answer-answered.ensures.begun (are_shown_as c.args.self.now c.args.bytes.now (view c.in-Ok.document) reads read) more

pub returns-clause-answered : goal.returns-clause-answered
returns-clause-answered g c = IfOk-weaker c.refuse_document.result _ _ (λ next refused reads more empty.
    refused_until g.W.Write.contents c.args.self.now.answering.showing.output.form c.args.self.now.answering.showing.most_of_all (wanted_by c.args.self.now.answering c.args.source.name.now c.args.source.line c.args.bytes.now c.args.streams.now.total) (wanted_in_part_by c.args.self.now.answering c.args.source.name.now c.args.source.line c.args.bytes.now c.args.streams.now.total) next c.args.streams.now c.refuse_document.new.streams
    refused.0 more empty (no_answer c.args.self.now.answering c.args.source.name.now c.args.source.line c.args.bytes.now c.args.streams.now.total) c.refuse_document.ensures.kept refused.1) c.refuse_document.ensures.refused

pub returns-clause-begun : goal.returns-clause-begun
returns-clause-begun g c = λ reads more.
    nothing_begun g.W.Write.contents (wanted_in_part_by c.args.self.now.answering c.args.source.name.now c.args.source.line c.args.bytes.now c.args.streams.now.total) c.args.streams.now c.refuse_document.new.streams
    (no_answer c.args.self.now.answering c.args.source.name.now c.args.source.line c.args.bytes.now c.args.streams.now.total) (ap (λ (s : Streams g.row.W.Denot g.row.E.Denot). s.out) c.refuse_document.ensures.kept)
