use Rattle.jpq_program.proofs.Words.{◌≡◌, has_counts, is_array, IfOk-weaker, false, rules, sym, true, view, shown_in_part_by}
use Rattle.jpq_program.proofs.Cells.{as_all, as_row, begun_as_all, looked_at, shows_none, shows_rows}
use Rattle.jpq_program.proofs.Arrays.{each_as_all, each_begun_as_all}
use Rattle.jpq_program.proofs.Sending.{no_shown_by}
use Rattle.jpq_program.proofs.Shown.{nothing_begun}
use Rattle.jpq_program.proofs.answering.Answering.make_answer.Goals as goal

pub returns-in-Some-default : goal.returns-in-Some-default
returns-in-Some-default g c =
    let is = sym c.in-Some-default.ensures in
    let table = shows_rows c.args.self.now.shown c.in-Some-default.separator is in record {
      answered = IfOk-weaker c.answer_row.result _ _ (λ _ answered are.
          as_row g.W.Write.contents c.args.self.now c.args.document.source.name.now c.args.document.source.line c.args.document.bytes.now c.args.streams.now c.answer_row.new.streams table
          (answered is (looked_at c.args.self.now c.args.document.bytes.now (view c.args.document.value.now) true table are))) c.answer_row.ensures.answered;
      begun = λ are. nothing_begun g.W.Write.contents (shown_in_part_by c.args.self.now c.args.document.source.name.now c.args.document.source.line c.args.document.bytes.now c.args.streams.now.total) c.args.streams.now c.answer_row.new.streams
          (no_shown_by c.args.self.now c.args.document.source.name.now c.args.document.source.line c.args.document.bytes.now c.args.streams.now.total) c.answer_row.ensures.unwritten;
    }

pub returns-in-None-Count : goal.returns-in-None-Count
returns-in-None-Count g c =
    let table = shows_none c.args.self.now.shown (sym c.in-None-Count.ensures) in
    let counts : has_counts c.args.self.now.showing.output.form ≡ true = search rules in record {
      answered = IfOk-weaker c.answer_counts.result _ _ (λ _ answered are.
          as_all g.W.Write.contents c.args.self.now c.args.document.source.name.now c.args.document.source.line c.args.document.bytes.now c.args.streams.now c.answer_counts.new.streams table
          (each_as_all g.W.Write.contents c.args.self.now c.args.document.source.name.now c.args.document.source.line c.args.document.bytes.now c.args.streams.now c.answer_counts.new.streams (search rules)
          (answered (looked_at c.args.self.now c.args.document.bytes.now (view c.args.document.value.now) false table are) counts))) c.answer_counts.ensures.answered;
      begun = λ are. nothing_begun g.W.Write.contents (shown_in_part_by c.args.self.now c.args.document.source.name.now c.args.document.source.line c.args.document.bytes.now c.args.streams.now.total) c.args.streams.now c.answer_counts.new.streams
          (no_shown_by c.args.self.now c.args.document.source.name.now c.args.document.source.line c.args.document.bytes.now c.args.streams.now.total) c.answer_counts.ensures.unwritten;
    }

pub returns-in-None-Json : goal.returns-in-None-Json
returns-in-None-Json g c =
    let table = shows_none c.args.self.now.shown (sym c.in-None-Json.ensures) in
    let array : is_array c.args.self.now.showing.output.form ≡ true = search rules in record {
      answered = IfOk-weaker c.answer_array.result _ _ (λ _ answered are.
          as_all g.W.Write.contents c.args.self.now c.args.document.source.name.now c.args.document.source.line c.args.document.bytes.now c.args.streams.now c.answer_array.new.streams table
          (answered (looked_at c.args.self.now c.args.document.bytes.now (view c.args.document.value.now) false table are) (search rules) array)) c.answer_array.ensures.answered;
      begun = λ are. begun_as_all g.W.Write.contents c.args.self.now c.args.document.source.name.now c.args.document.source.line c.args.document.bytes.now c.args.streams.now c.answer_array.new.streams table
          (c.answer_array.ensures.begun (looked_at c.args.self.now c.args.document.bytes.now (view c.args.document.value.now) false table are) (search rules) array);
    }

pub returns-in-None-default : goal.returns-in-None-default
returns-in-None-default g c =
    let table = shows_none c.args.self.now.shown (sym c.in-None-default.ensures) in record {
      answered = IfOk-weaker c.answer_each.result _ _ (λ _ answered are.
          as_all g.W.Write.contents c.args.self.now c.args.document.source.name.now c.args.document.source.line c.args.document.bytes.now c.args.streams.now c.answer_each.new.streams table
          (each_as_all g.W.Write.contents c.args.self.now c.args.document.source.name.now c.args.document.source.line c.args.document.bytes.now c.args.streams.now c.answer_each.new.streams (search rules)
          (answered (looked_at c.args.self.now c.args.document.bytes.now (view c.args.document.value.now) false table are) (search rules)))) c.answer_each.ensures.answered;
      begun = λ are. begun_as_all g.W.Write.contents c.args.self.now c.args.document.source.name.now c.args.document.source.line c.args.document.bytes.now c.args.streams.now c.answer_each.new.streams table
          (each_begun_as_all g.W.Write.contents c.args.self.now c.args.document.source.name.now c.args.document.source.line c.args.document.bytes.now c.args.streams.now c.answer_each.new.streams (search rules)
          (c.answer_each.ensures.begun (looked_at c.args.self.now c.args.document.bytes.now (view c.args.document.value.now) false table are) (search rules)));
    }
