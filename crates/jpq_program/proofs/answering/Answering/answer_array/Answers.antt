use Rattle.jpq_program.proofs.Words.{refl, each_by, each_in_part_by, all_in_part_by}
use Rattle.jpq_program.proofs.Arrays.{array_answered, array_as_all, array_begun, array_begun_as_all, array_left}
use Rattle.jpq_program.proofs.Sending.{no_all_by}
use Rattle.jpq_program.proofs.Shown.{nothing_begun}
use Rattle.jpq_program.proofs.answering.Answering.answer_array.Goals as goal

pub returns-clause-answered : goal.returns-clause-answered
returns-clause-answered g c = λ are has is.
    let name = c.args.document.source.name.now in
    let line = c.args.document.source.line in
    let bytes = c.args.document.bytes.now in
    array_as_all g.W.Write.contents c.args.self.now name line bytes c.args.streams.now (record c.answer_each.new.streams { pending = c.push_array_end.new.to }) is
    (array_answered g.W.Write.contents c.args.self.now.showing.output (each_by c.args.self.now name line bytes c.args.streams.now.total) (each_in_part_by c.args.self.now name line bytes c.args.streams.now.total) c.args.streams.now (record c.args.streams.now { pending = c.push_str.new.self }) c.answer_each.new.streams (record c.answer_each.new.streams { pending = c.push_array_end.new.to }) refl c.in_ok-push_str.ensures.bytes (c.in_ok-answer_each.ensures.answered are has) refl c.in_ok-push_array_end.ensures)

-- ---- of what a beginning is out, however it ends

pub returns-clause-begun : goal.returns-clause-begun
returns-clause-begun g c = λ are has is.
    let name = c.args.document.source.name.now in
    let line = c.args.document.source.line in
    let bytes = c.args.document.bytes.now in
    array_begun_as_all g.W.Write.contents c.args.self.now name line bytes c.args.streams.now (record c.answer_each.new.streams { pending = c.push_array_end.new.to }) is
    (array_left g.W.Write.contents c.args.self.now.showing.output (each_by c.args.self.now name line bytes c.args.streams.now.total) (each_in_part_by c.args.self.now name line bytes c.args.streams.now.total) c.args.streams.now (record c.args.streams.now { pending = c.push_str.new.self }) c.answer_each.new.streams (record c.answer_each.new.streams { pending = c.push_array_end.new.to }) refl c.in_ok-push_str.ensures.bytes (c.in_ok-answer_each.ensures.answered are has) refl)

pub returns-in_err-push_array_end-clause-begun : goal.returns-in_err-push_array_end-clause-begun
returns-in_err-push_array_end-clause-begun g c = λ are has is.
    let name = c.args.document.source.name.now in
    let line = c.args.document.source.line in
    let bytes = c.args.document.bytes.now in
    array_begun_as_all g.W.Write.contents c.args.self.now name line bytes c.args.streams.now (record c.answer_each.new.streams { pending = c.push_array_end.new.to }) is
    (array_left g.W.Write.contents c.args.self.now.showing.output (each_by c.args.self.now name line bytes c.args.streams.now.total) (each_in_part_by c.args.self.now name line bytes c.args.streams.now.total) c.args.streams.now (record c.args.streams.now { pending = c.push_str.new.self }) c.answer_each.new.streams (record c.answer_each.new.streams { pending = c.push_array_end.new.to }) refl c.in_ok-push_str.ensures.bytes (c.in_ok-answer_each.ensures.answered are has) refl)

pub returns-in_err-answer_each-clause-begun : goal.returns-in_err-answer_each-clause-begun
returns-in_err-answer_each-clause-begun g c = λ are has is.
    let name = c.args.document.source.name.now in
    let line = c.args.document.source.line in
    let bytes = c.args.document.bytes.now in
    array_begun_as_all g.W.Write.contents c.args.self.now name line bytes c.args.streams.now c.answer_each.new.streams is
    (array_begun g.W.Write.contents c.args.self.now.showing.output (each_in_part_by c.args.self.now name line bytes c.args.streams.now.total) c.args.streams.now (record c.args.streams.now { pending = c.push_str.new.self }) c.answer_each.new.streams refl c.in_ok-push_str.ensures.bytes (c.answer_each.ensures.begun are has))

pub returns-in_err-push_str-clause-begun : goal.returns-in_err-push_str-clause-begun
returns-in_err-push_str-clause-begun g c = λ are has is.
    let name = c.args.document.source.name.now in
    let line = c.args.document.source.line in
    let bytes = c.args.document.bytes.now in
    nothing_begun g.W.Write.contents (all_in_part_by c.args.self.now name line bytes c.args.streams.now.total) c.args.streams.now (record c.args.streams.now { pending = c.push_str.new.self }) (no_all_by c.args.self.now name line bytes c.args.streams.now.total) refl
