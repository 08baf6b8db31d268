use Rattle.jpq_program.proofs.Words.{◌≡◌, Enough, Found, More, Nothing, arith, common_steps, shown_by, shown_in_part_by, sym, ◌∙◌, wanted_by, wanted_in_part_by}
use Rattle.jpq_program.proofs.Sending.{is_wanted, noted_begun, noted_until}
use Rattle.jpq_program.proofs.Shown.{begun_as}
use Rattle.jpq_program.proofs.answering.Answering.answer.Goals as goal

pub returns-then-streams-clause-answered : goal.returns-then-streams-clause-answered
returns-then-streams-clause-answered g c = λ are more.
    let quiet : c.args.self.now.showing.output.form ≡ Nothing = grind (arith, common_steps, c.eq.ensures, c.if-eq.true) in
    noted_until g.W.Write.contents c.args.self.now.showing.output.form c.args.self.now.showing.most_of_all (shown_by c.args.self.now c.args.document.source.name.now c.args.document.source.line c.args.document.bytes.now c.args.streams.now.total) (shown_in_part_by c.args.self.now c.args.document.source.name.now c.args.document.source.line c.args.document.bytes.now c.args.streams.now.total)
    (wanted_by c.args.self.now c.args.document.source.name.now c.args.document.source.line c.args.document.bytes.now c.args.streams.now.total) (wanted_in_part_by c.args.self.now c.args.document.source.name.now c.args.document.source.line c.args.document.bytes.now c.args.streams.now.total)
    Found c.args.streams.now c.write_answer.new.streams c.tell_notes.new.streams (quiet, c.if-streams.true) c.tell_notes.ensures.kept c.tell_notes.ensures.quiet
    (λ text count. is_wanted c.args.self.now.showing.most_of_all (shown_by c.args.self.now) c.args.document.source.name.now c.args.document.source.line c.args.document.bytes.now c.args.streams.now.total text count more)
    (λ text count. is_wanted c.args.self.now.showing.most_of_all (shown_in_part_by c.args.self.now) c.args.document.source.name.now c.args.document.source.line c.args.document.bytes.now c.args.streams.now.total text count more) (c.in_ok-write_answer.ensures.answered are)

pub returns-then-is_done-clause-answered : goal.returns-then-is_done-clause-answered
returns-then-is_done-clause-answered g c = λ are more.
    noted_until g.W.Write.contents c.args.self.now.showing.output.form c.args.self.now.showing.most_of_all (shown_by c.args.self.now c.args.document.source.name.now c.args.document.source.line c.args.document.bytes.now c.args.streams.now.total) (shown_in_part_by c.args.self.now c.args.document.source.name.now c.args.document.source.line c.args.document.bytes.now c.args.streams.now.total)
    (wanted_by c.args.self.now c.args.document.source.name.now c.args.document.source.line c.args.document.bytes.now c.args.streams.now.total) (wanted_in_part_by c.args.self.now c.args.document.source.name.now c.args.document.source.line c.args.document.bytes.now c.args.streams.now.total)
    Enough c.args.streams.now c.write_answer.new.streams c.tell_notes.new.streams (sym c.is_done.ensures ∙ c.if-is_done.true) c.tell_notes.ensures.kept c.tell_notes.ensures.quiet
    (λ text count. is_wanted c.args.self.now.showing.most_of_all (shown_by c.args.self.now) c.args.document.source.name.now c.args.document.source.line c.args.document.bytes.now c.args.streams.now.total text count more)
    (λ text count. is_wanted c.args.self.now.showing.most_of_all (shown_in_part_by c.args.self.now) c.args.document.source.name.now c.args.document.source.line c.args.document.bytes.now c.args.streams.now.total text count more) (c.in_ok-write_answer.ensures.answered are)

pub returns-clause-answered : goal.returns-clause-answered
returns-clause-answered g c = λ are more.
    noted_until g.W.Write.contents c.args.self.now.showing.output.form c.args.self.now.showing.most_of_all (shown_by c.args.self.now c.args.document.source.name.now c.args.document.source.line c.args.document.bytes.now c.args.streams.now.total) (shown_in_part_by c.args.self.now c.args.document.source.name.now c.args.document.source.line c.args.document.bytes.now c.args.streams.now.total)
    (wanted_by c.args.self.now c.args.document.source.name.now c.args.document.source.line c.args.document.bytes.now c.args.streams.now.total) (wanted_in_part_by c.args.self.now c.args.document.source.name.now c.args.document.source.line c.args.document.bytes.now c.args.streams.now.total)
    More c.args.streams.now c.write_answer.new.streams c.tell_notes.new.streams (sym c.is_done.ensures ∙ c.if-is_done.false) c.tell_notes.ensures.kept c.tell_notes.ensures.quiet
    (λ text count. is_wanted c.args.self.now.showing.most_of_all (shown_by c.args.self.now) c.args.document.source.name.now c.args.document.source.line c.args.document.bytes.now c.args.streams.now.total text count more)
    (λ text count. is_wanted c.args.self.now.showing.most_of_all (shown_in_part_by c.args.self.now) c.args.document.source.name.now c.args.document.source.line c.args.document.bytes.now c.args.streams.now.total text count more) (c.in_ok-write_answer.ensures.answered are)

-- ---- of what a beginning is out, however it ends

pub returns-then-streams-clause-begun : goal.returns-then-streams-clause-begun
returns-then-streams-clause-begun g c = λ are more. noted_begun g.W.Write.contents (shown_by c.args.self.now c.args.document.source.name.now c.args.document.source.line c.args.document.bytes.now c.args.streams.now.total) (shown_in_part_by c.args.self.now c.args.document.source.name.now c.args.document.source.line c.args.document.bytes.now c.args.streams.now.total)
    (wanted_in_part_by c.args.self.now c.args.document.source.name.now c.args.document.source.line c.args.document.bytes.now c.args.streams.now.total) c.args.streams.now c.write_answer.new.streams c.tell_notes.new.streams c.tell_notes.ensures.kept
    (λ text count. is_wanted c.args.self.now.showing.most_of_all (shown_in_part_by c.args.self.now) c.args.document.source.name.now c.args.document.source.line c.args.document.bytes.now c.args.streams.now.total text count more) (c.in_ok-write_answer.ensures.answered are)

pub returns-then-is_done-clause-begun : goal.returns-then-is_done-clause-begun
returns-then-is_done-clause-begun g c = λ are more. noted_begun g.W.Write.contents (shown_by c.args.self.now c.args.document.source.name.now c.args.document.source.line c.args.document.bytes.now c.args.streams.now.total) (shown_in_part_by c.args.self.now c.args.document.source.name.now c.args.document.source.line c.args.document.bytes.now c.args.streams.now.total)
    (wanted_in_part_by c.args.self.now c.args.document.source.name.now c.args.document.source.line c.args.document.bytes.now c.args.streams.now.total) c.args.streams.now c.write_answer.new.streams c.tell_notes.new.streams c.tell_notes.ensures.kept
    (λ text count. is_wanted c.args.self.now.showing.most_of_all (shown_in_part_by c.args.self.now) c.args.document.source.name.now c.args.document.source.line c.args.document.bytes.now c.args.streams.now.total text count more) (c.in_ok-write_answer.ensures.answered are)

pub returns-clause-begun : goal.returns-clause-begun
returns-clause-begun g c = λ are more. noted_begun g.W.Write.contents (shown_by c.args.self.now c.args.document.source.name.now c.args.document.source.line c.args.document.bytes.now c.args.streams.now.total) (shown_in_part_by c.args.self.now c.args.document.source.name.now c.args.document.source.line c.args.document.bytes.now c.args.streams.now.total)
    (wanted_in_part_by c.args.self.now c.args.document.source.name.now c.args.document.source.line c.args.document.bytes.now c.args.streams.now.total) c.args.streams.now c.write_answer.new.streams c.tell_notes.new.streams c.tell_notes.ensures.kept
    (λ text count. is_wanted c.args.self.now.showing.most_of_all (shown_in_part_by c.args.self.now) c.args.document.source.name.now c.args.document.source.line c.args.document.bytes.now c.args.streams.now.total text count more) (c.in_ok-write_answer.ensures.answered are)

pub returns-in_err-tell_notes-clause-begun : goal.returns-in_err-tell_notes-clause-begun
returns-in_err-tell_notes-clause-begun g c = λ are more. noted_begun g.W.Write.contents (shown_by c.args.self.now c.args.document.source.name.now c.args.document.source.line c.args.document.bytes.now c.args.streams.now.total) (shown_in_part_by c.args.self.now c.args.document.source.name.now c.args.document.source.line c.args.document.bytes.now c.args.streams.now.total)
    (wanted_in_part_by c.args.self.now c.args.document.source.name.now c.args.document.source.line c.args.document.bytes.now c.args.streams.now.total) c.args.streams.now c.write_answer.new.streams c.tell_notes.new.streams c.tell_notes.ensures.kept
    (λ text count. is_wanted c.args.self.now.showing.most_of_all (shown_in_part_by c.args.self.now) c.args.document.source.name.now c.args.document.source.line c.args.document.bytes.now c.args.streams.now.total text count more) (c.in_ok-write_answer.ensures.answered are)

pub returns-in_err-write_answer-clause-begun : goal.returns-in_err-write_answer-clause-begun
returns-in_err-write_answer-clause-begun g c = λ are more. begun_as g.W.Write.contents (shown_in_part_by c.args.self.now c.args.document.source.name.now c.args.document.source.line c.args.document.bytes.now c.args.streams.now.total) (wanted_in_part_by c.args.self.now c.args.document.source.name.now c.args.document.source.line c.args.document.bytes.now c.args.streams.now.total) c.args.streams.now c.write_answer.new.streams
    (λ text count. is_wanted c.args.self.now.showing.most_of_all (shown_in_part_by c.args.self.now) c.args.document.source.name.now c.args.document.source.line c.args.document.bytes.now c.args.streams.now.total text count more) (c.write_answer.ensures.begun are)
