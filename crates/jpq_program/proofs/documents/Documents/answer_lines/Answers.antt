use Rattle.jpq_program.proofs.Words.{◌≡◌, ◌∙◌, ◌+◌, ◌++◌, ◌<◌, ℕ, IfOk-weaker, List, [], Some, refl, ap, subst, true, arith, common_steps, has_enough, is_whole, length, Begins, Ends, IfWhole, IsInputShown, IsLineShown, More, Next, Sends, Streams, drop_through, take_through, wanted_by, wanted_in_part_by}
use Rattle.jpq_program.proofs.Sending.{enough_answer, enough_at, goes_on, known_at, line_taken, lines_begun, lines_refused, lines_until, no_answer, no_input, refused_ends, sent_all, sent_begun, sent_further, sent_none, some_known, starts_whole}
use Rattle.jpq_program.proofs.Shown.{answered_begun, nothing_begun, of_whole}
use Rattle.jpq_program.proofs.documents.Documents.answer_lines.Goals as goal
use Rattle.std.specs.Io.Buffered.{reader_remaining}
use Rattle.std.specs.Io.KnownBytes.{IsAtEnd}

pub loop-number-init : goal.loop-number-init
loop-number-init g c = λ reads more empty. some_known (g.I.Read.remaining c.args.input) (λ bytes is. (
  bytes,
  0,
  starts_whole g.I.Read.remaining c.in-Ok.reader c.args.input bytes c.in-Ok.ensures.inner c.in-Ok.ensures.empty c.in-Ok.ensures.capacity is,
  refl,
  sent_none g.W.Write.contents (wanted_by c.args.self.now.answering) (wanted_in_part_by c.args.self.now.answering) c.args.name.now bytes c.args.streams.now empty,
  more,
))

pub returns-in-Ok-eq0-clause-answered : goal.returns-in-Ok-eq0-clause-answered
returns-in-Ok-eq0-clause-answered g c = λ reads more empty.
    some_known (g.I.Read.remaining c.args.input) (λ bytes is.
    let state = known_at _ (g.I.Read.remaining c.args.input) bytes is (c.loop-number.invariant reads more empty) in
    let none : state.0 ≡ [] = subst IsAtEnd state.2 (c.in-Ok-eq0.ensures.end c.in-Ok-eq0.field-0-test) in
    goes_on g.W.Write.contents c.args.self.now.answering.showing.output.form c.args.self.now.answering.showing.most_of_all _ _ More c.args.streams.now c.tell_more_lines.new.streams (ap (λ (s : Streams g.row.W.Denot g.row.E.Denot). has_enough c.args.self.now.answering.showing.most_of_all s.total) c.tell_more_lines.ensures.kept ∙ state.5)
    (sent_all g.W.Write.contents (wanted_by c.args.self.now.answering) (wanted_in_part_by c.args.self.now.answering) c.args.name.now bytes state.0 state.1 c.args.streams.now c.loop-number.streams c.tell_more_lines.new.streams state.4 none c.tell_more_lines.ensures.kept (λ right. ap (λ (s : Streams g.row.W.Denot g.row.E.Denot). s.err) (c.tell_more_lines.ensures.quiet right))))

pub loop-number-preserved : goal.loop-number-preserved
loop-number-preserved g c = λ reads more empty. some_known (g.I.Read.remaining c.args.input) (λ bytes is.
    let state = known_at _ (g.I.Read.remaining c.args.input) bytes is (c.loop-number.invariant reads more empty) in
    let sent = c.in_ok-ended-in-Ok-2.ensures.answered reads state.5 state.4.sent.1 in
    let line = c.deref-in-Ok-2.result.now in
    let reader = reader_remaining g.I.Read.remaining c.loop-number.reader in
    let read : line ≡ take_through 10 state.0 = c.deref-in-Ok-2.ensures.value ∙ known_at _ reader state.0 state.2 c.in-Ok-2.ensures.bytes ∙ ap (λ (l : List ℕ). l ++ take_through 10 state.0) c.clear.ensures.items in
    let some : 0 < length line = grind (arith, common_steps, c.in-Ok-read_until.field-0-test, c.in-Ok-read_until.ensures.ok, c.in-Ok-2.ensures.ok, c.deref-in-Ok-2.ensures.len, c.clear.ensures.len) in
    let reader_now : reader_remaining g.I.Read.remaining c.read_until.new.self ≡ Some (drop_through 10 state.0) = known_at _ reader state.0 state.2 c.in-Ok-2.ensures.rest in
    let Is = λ (number : ℕ). IsLineShown (wanted_by c.args.self.now.answering) c.args.name.now number line c.loop-number.streams.total in
    let IsPart = λ (number : ℕ). IsLineShown (wanted_in_part_by c.args.self.now.answering) c.args.name.now number line c.loop-number.streams.total in
    let own = subst (λ (number : ℕ). Sends c.args.self.now.answering.silent g.W.Write.contents (Is number) (IsPart number) c.loop-number.streams c.answer_line.new.streams) state.3
    (of_whole g.W.Write.contents (Is c.loop-number.number) (IsPart c.loop-number.number) _ c.loop-number.streams c.answer_line.new.streams (ap is_whole c.in-More.is) sent.1.0, sent.1.1) in
    let number : c.loop-number.number + 1 ≡ 1 + (state.1 + 1) = grind (arith, common_steps, state.3) in (
      drop_through 10 state.0,
      state.1 + 1,
      reader_now,
      number,
      sent_further g.W.Write.contents (wanted_by c.args.self.now.answering) (wanted_in_part_by c.args.self.now.answering) c.args.name.now bytes state.0 line (drop_through 10 state.0) state.1 c.args.streams.now c.loop-number.streams c.answer_line.new.streams state.4 (line_taken state.0 line (drop_through 10 state.0) read refl some) own,
      subst (λ (next : Next). Ends c.args.self.now.answering.showing.output.form c.args.self.now.answering.showing.most_of_all next c.answer_line.new.streams) c.in-More.is sent.0,
    ))

pub returns-in-Ok-read_until-clause-answered : goal.returns-in-Ok-read_until-clause-answered
returns-in-Ok-read_until-clause-answered g c = IfOk-weaker c.refuse_lines.result _ _ (λ next refused reads more empty. some_known (g.I.Read.remaining c.args.input) (λ bytes is.
    let state = known_at _ (g.I.Read.remaining c.args.input) bytes is (c.loop-number.invariant reads more empty) in
    goes_on g.W.Write.contents c.args.self.now.answering.showing.output.form c.args.self.now.answering.showing.most_of_all _ _ next c.args.streams.now c.refuse_lines.new.streams (refused_ends c.args.self.now.answering.showing.output.form c.args.self.now.answering.showing.most_of_all next c.loop-number.streams c.refuse_lines.new.streams refused.0 state.5 c.refuse_lines.ensures.kept)
    (lines_refused g.W.Write.contents (wanted_by c.args.self.now.answering) (wanted_in_part_by c.args.self.now.answering) c.args.name.now bytes state.0 state.1 c.args.streams.now c.loop-number.streams c.refuse_lines.new.streams (no_answer c.args.self.now.answering c.args.name.now) state.4 c.refuse_lines.ensures.kept refused.1))) c.refuse_lines.ensures.refused

pub returns-in-Err-clause-answered : goal.returns-in-Err-clause-answered
returns-in-Err-clause-answered g c = IfOk-weaker c.refuse_input.result _ _ (λ next refused reads more empty. some_known (g.I.Read.remaining c.args.input) (λ bytes is.
    let state = known_at _ (g.I.Read.remaining c.args.input) bytes is (c.loop-number.invariant reads more empty) in
    goes_on g.W.Write.contents c.args.self.now.answering.showing.output.form c.args.self.now.answering.showing.most_of_all _ _ next c.args.streams.now c.refuse_input.new.streams (refused_ends c.args.self.now.answering.showing.output.form c.args.self.now.answering.showing.most_of_all next c.loop-number.streams c.refuse_input.new.streams refused.0 state.5 c.refuse_input.ensures.kept)
    (lines_refused g.W.Write.contents (wanted_by c.args.self.now.answering) (wanted_in_part_by c.args.self.now.answering) c.args.name.now bytes state.0 state.1 c.args.streams.now c.loop-number.streams c.refuse_input.new.streams (no_answer c.args.self.now.answering c.args.name.now) state.4 c.refuse_input.ensures.kept refused.1))) c.refuse_input.ensures.refused

pub returns-clause-answered : goal.returns-clause-answered
returns-clause-answered g c = IfOk-weaker c.refuse_input-2.result _ _ (λ next refused reads more empty. some_known (g.I.Read.remaining c.args.input) (λ bytes is.
    let state = known_at _ (g.I.Read.remaining c.args.input) bytes is (c.loop-number.invariant reads more empty) in
    goes_on g.W.Write.contents c.args.self.now.answering.showing.output.form c.args.self.now.answering.showing.most_of_all _ _ next c.args.streams.now c.refuse_input-2.new.streams (refused_ends c.args.self.now.answering.showing.output.form c.args.self.now.answering.showing.most_of_all next c.loop-number.streams c.refuse_input-2.new.streams refused.0 state.5 c.refuse_input-2.ensures.kept)
    (lines_refused g.W.Write.contents (wanted_by c.args.self.now.answering) (wanted_in_part_by c.args.self.now.answering) c.args.name.now bytes state.0 state.1 c.args.streams.now c.loop-number.streams c.refuse_input-2.new.streams (no_answer c.args.self.now.answering c.args.name.now) state.4 c.refuse_input-2.ensures.kept refused.1))) c.refuse_input-2.ensures.refused

pub returns-in_default-2-clause-answered : goal.returns-in_default-2-clause-answered
returns-in_default-2-clause-answered g c = λ reads more empty. some_known (g.I.Read.remaining c.args.input) (λ bytes is.
    let state = known_at _ (g.I.Read.remaining c.args.input) bytes is (c.loop-number.invariant reads more empty) in
    let next = c.in_ok-ended-in-Ok-2.ended in
    let sent = c.in_ok-ended-in-Ok-2.ensures.answered reads state.5 state.4.sent.1 in
    let line = c.deref-in-Ok-2.result.now in
    let reader = reader_remaining g.I.Read.remaining c.loop-number.reader in
    let read : line ≡ take_through 10 state.0 = c.deref-in-Ok-2.ensures.value ∙ known_at _ reader state.0 state.2 c.in-Ok-2.ensures.bytes ∙ ap (λ (l : List ℕ). l ++ take_through 10 state.0) c.clear.ensures.items in
    let some : 0 < length line = grind (arith, common_steps, c.in-Ok-read_until.field-0-test, c.in-Ok-read_until.ensures.ok, c.in-Ok-2.ensures.ok, c.deref-in-Ok-2.ensures.len, c.clear.ensures.len) in
    let Own = λ (number : ℕ). IfWhole next (IsLineShown (wanted_by c.args.self.now.answering) c.args.name.now number line c.loop-number.streams.total) in
    let own = subst (λ (number : ℕ). Sends c.args.self.now.answering.silent g.W.Write.contents (Own number) (IsLineShown (wanted_in_part_by c.args.self.now.answering) c.args.name.now number line c.loop-number.streams.total) c.loop-number.streams c.answer_line.new.streams) state.3 sent.1 in (
      sent.0,
      lines_until g.W.Write.contents (wanted_by c.args.self.now.answering) (wanted_in_part_by c.args.self.now.answering) next c.args.name.now bytes state.0 line (drop_through 10 state.0) state.1 c.args.streams.now c.loop-number.streams c.answer_line.new.streams
          (λ whole. enough_answer c.args.self.now.answering c.answer_line.new.streams.total (enough_at c.args.self.now.answering.showing.output.form c.args.self.now.answering.showing.most_of_all next c.answer_line.new.streams sent.0 c.in_default-2.not-More whole) c.args.name.now)
          (no_answer c.args.self.now.answering c.args.name.now) state.4 (line_taken state.0 line (drop_through 10 state.0) read refl some) own,
    ))

-- ---- of what a beginning is out, however it ends

pub returns-in_default-2-clause-begun : goal.returns-in_default-2-clause-begun
returns-in_default-2-clause-begun g c = λ reads more empty. some_known (g.I.Read.remaining c.args.input) (λ bytes is.
    let sent = known_at _ (g.I.Read.remaining c.args.input) bytes is (returns-in_default-2-clause-answered g c reads more empty) in
    answered_begun g.W.Write.contents _ _ c.args.streams.now c.answer_line.new.streams sent.1.0)

pub returns-in-Ok-eq0-clause-begun : goal.returns-in-Ok-eq0-clause-begun
returns-in-Ok-eq0-clause-begun g c = λ reads more empty. some_known (g.I.Read.remaining c.args.input) (λ bytes is.
    let state = known_at _ (g.I.Read.remaining c.args.input) bytes is (c.loop-number.invariant reads more empty) in
    lines_begun g.W.Write.contents (wanted_by c.args.self.now.answering) (wanted_in_part_by c.args.self.now.answering) c.args.name.now bytes state.0 state.1 c.args.streams.now c.loop-number.streams c.tell_more_lines.new.streams (no_answer c.args.self.now.answering c.args.name.now) state.4 (ap (λ (s : Streams g.row.W.Denot g.row.E.Denot). s.out) c.tell_more_lines.ensures.kept))

pub returns-in_err-tell_more_lines-in-Ok-eq0-clause-begun : goal.returns-in_err-tell_more_lines-in-Ok-eq0-clause-begun
returns-in_err-tell_more_lines-in-Ok-eq0-clause-begun g c = λ reads more empty. some_known (g.I.Read.remaining c.args.input) (λ bytes is.
    let state = known_at _ (g.I.Read.remaining c.args.input) bytes is (c.loop-number.invariant reads more empty) in
    lines_begun g.W.Write.contents (wanted_by c.args.self.now.answering) (wanted_in_part_by c.args.self.now.answering) c.args.name.now bytes state.0 state.1 c.args.streams.now c.loop-number.streams c.tell_more_lines.new.streams (no_answer c.args.self.now.answering c.args.name.now) state.4 (ap (λ (s : Streams g.row.W.Denot g.row.E.Denot). s.out) c.tell_more_lines.ensures.kept))

pub returns-in-Ok-read_until-clause-begun : goal.returns-in-Ok-read_until-clause-begun
returns-in-Ok-read_until-clause-begun g c = λ reads more empty. some_known (g.I.Read.remaining c.args.input) (λ bytes is.
    let state = known_at _ (g.I.Read.remaining c.args.input) bytes is (c.loop-number.invariant reads more empty) in
    lines_begun g.W.Write.contents (wanted_by c.args.self.now.answering) (wanted_in_part_by c.args.self.now.answering) c.args.name.now bytes state.0 state.1 c.args.streams.now c.loop-number.streams c.refuse_lines.new.streams (no_answer c.args.self.now.answering c.args.name.now) state.4 (ap (λ (s : Streams g.row.W.Denot g.row.E.Denot). s.out) c.refuse_lines.ensures.kept))

pub returns-in-Err-clause-begun : goal.returns-in-Err-clause-begun
returns-in-Err-clause-begun g c = λ reads more empty. some_known (g.I.Read.remaining c.args.input) (λ bytes is.
    let state = known_at _ (g.I.Read.remaining c.args.input) bytes is (c.loop-number.invariant reads more empty) in
    lines_begun g.W.Write.contents (wanted_by c.args.self.now.answering) (wanted_in_part_by c.args.self.now.answering) c.args.name.now bytes state.0 state.1 c.args.streams.now c.loop-number.streams c.refuse_input.new.streams (no_answer c.args.self.now.answering c.args.name.now) state.4 (ap (λ (s : Streams g.row.W.Denot g.row.E.Denot). s.out) c.refuse_input.ensures.kept))

pub returns-clause-begun : goal.returns-clause-begun
returns-clause-begun g c = λ reads more empty. some_known (g.I.Read.remaining c.args.input) (λ bytes is.
    let state = known_at _ (g.I.Read.remaining c.args.input) bytes is (c.loop-number.invariant reads more empty) in
    lines_begun g.W.Write.contents (wanted_by c.args.self.now.answering) (wanted_in_part_by c.args.self.now.answering) c.args.name.now bytes state.0 state.1 c.args.streams.now c.loop-number.streams c.refuse_input-2.new.streams (no_answer c.args.self.now.answering c.args.name.now) state.4 (ap (λ (s : Streams g.row.W.Denot g.row.E.Denot). s.out) c.refuse_input-2.ensures.kept))

pub returns-in_err-ended-in-Ok-2-clause-begun : goal.returns-in_err-ended-in-Ok-2-clause-begun
returns-in_err-ended-in-Ok-2-clause-begun g c = λ reads more empty. some_known (g.I.Read.remaining c.args.input) (λ bytes is.
    let state = known_at _ (g.I.Read.remaining c.args.input) bytes is (c.loop-number.invariant reads more empty) in
    let line = c.deref-in-Ok-2.result.now in
    let reader = reader_remaining g.I.Read.remaining c.loop-number.reader in
    let read : line ≡ take_through 10 state.0 = c.deref-in-Ok-2.ensures.value ∙ known_at _ reader state.0 state.2 c.in-Ok-2.ensures.bytes ∙ ap (λ (l : List ℕ). l ++ take_through 10 state.0) c.clear.ensures.items in
    let some : 0 < length line = grind (arith, common_steps, c.in-Ok-read_until.field-0-test, c.in-Ok-read_until.ensures.ok, c.in-Ok-2.ensures.ok, c.deref-in-Ok-2.ensures.len, c.clear.ensures.len) in
    sent_begun g.W.Write.contents (wanted_by c.args.self.now.answering) (wanted_in_part_by c.args.self.now.answering) c.args.name.now bytes state.0 line (drop_through 10 state.0) state.1 c.args.streams.now c.loop-number.streams c.answer_line.new.streams (no_answer c.args.self.now.answering c.args.name.now) state.4 (line_taken state.0 line (drop_through 10 state.0) read refl some)
    (subst (λ (number : ℕ). Begins g.W.Write.contents (IsLineShown (wanted_in_part_by c.args.self.now.answering) c.args.name.now number line c.loop-number.streams.total) c.loop-number.streams c.answer_line.new.streams) state.3 (c.answer_line.ensures.begun reads state.5)))

pub returns-in_default-clause-begun : goal.returns-in_default-clause-begun
returns-in_default-clause-begun g c = λ reads more empty. some_known (g.I.Read.remaining c.args.input) (λ bytes is.
    nothing_begun g.W.Write.contents (IsInputShown (wanted_in_part_by c.args.self.now.answering) true c.args.name.now bytes c.args.streams.now.total) c.args.streams.now c.args.streams.now
    (no_input (wanted_in_part_by c.args.self.now.answering) true c.args.name.now bytes c.args.streams.now.total (λ number bytes. no_answer c.args.self.now.answering c.args.name.now number bytes c.args.streams.now.total)) refl)
