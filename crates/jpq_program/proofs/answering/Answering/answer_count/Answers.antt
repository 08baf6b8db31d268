use Rattle.jpq_program.proofs.Words.{◌∙◌, [], List, ap, append-nil, arith, common_steps, false, inl, refl, string_bytes, subst, sym, true, view, ℕ, AnswersPath, builtin_functions, look_after, look_of, IsAnswerInPart, IsAnswerOn, Look, Streams}
use Rattle.jpq_program.proofs.Shown.{nothing_answered, on_ok_then, path_counted, shows_count, sums_up}
use Rattle.jpq_program.proofs.answering.Answering.answer_count.Goals as goal
use Rattle.jpq_program.proofs.answering.Answering.answer_count.Goals.{then-not-self+in_ok-push_str-in-Ok, else-not-self}

pub returns-in-Ok-clause-answered : goal.returns-in-Ok-clause-answered
returns-in-Ok-clause-answered g c = λ shows counts later.
    let counted = rw c.in-Ok.is at c.count_path.ensures in
    let kept = c.in_ok-keep_count-in-Ok.ensures.kept in
    let look = look_of c.args.self.now.showing in
    let bytes = c.args.document.bytes.now in
    let now = c.if-not-self.streams in
    let path = λ (text : List ℕ). path_counted {silent = c.args.self.now.silent} g.W.Write.contents c.args.path.now.path look c.limit-limit.result later c.args.head.now bytes (view c.args.document.value.now) counted.0
    (string_bytes c.new-text.result) (string_bytes c.count_path.new.text) text c.in-Ok.count c.args.streams.now now c.new-text.ensures.bytes counted.1 counted.2 shows counts in
    subst (λ (l : Look). AnswersPath c.args.self.now.silent g.W.Write.contents c.args.path.now.path l later c.args.head.now bytes c.args.streams.now now) c.limit-limit.ensures
    (elim c.if-not-self.branch [
      | then-not-self+in_ok-push_str-in-Ok w ↦
          path (string_bytes c.count_path.new.text) (shows_count c.args.self.now.showing.summed (string_bytes c.count_path.new.text) (string_bytes c.count_path.new.text) w.if-not-self.true refl)
          (ap (λ (s : Streams g.row.W.Denot g.row.E.Denot). s.out) w.streams-is ∙ ap (λ (s : Streams g.row.W.Denot g.row.E.Denot). s.out) kept)
          (ap (λ (s : Streams g.row.W.Denot g.row.E.Denot). string_bytes s.pending) w.streams-is ∙ grind (arith, common_steps, kept, w.push_str.ensures, w.as_str.ensures))
          (ap (λ (s : Streams g.row.W.Denot g.row.E.Denot). s.outcome) w.streams-is ∙ ap (λ (s : Streams g.row.W.Denot g.row.E.Denot). s.outcome) kept)
          (ap (λ (s : Streams g.row.W.Denot g.row.E.Denot). s.err) w.streams-is ∙ ap (λ (s : Streams g.row.W.Denot g.row.E.Denot). s.err) kept)
          (ap (λ (s : Streams g.row.W.Denot g.row.E.Denot). s.total) w.streams-is ∙ ap (λ (s : Streams g.row.W.Denot g.row.E.Denot). s.total) kept)
      | else-not-self w ↦
          path [] (sums_up c.args.self.now.showing.summed [] (string_bytes c.count_path.new.text) w.if-not-self.false refl)
          (ap (λ (s : Streams g.row.W.Denot g.row.E.Denot). s.out) w.streams-is ∙ ap (λ (s : Streams g.row.W.Denot g.row.E.Denot). s.out) kept)
          (ap (λ (s : Streams g.row.W.Denot g.row.E.Denot). string_bytes s.pending) w.streams-is ∙ ap (λ (s : Streams g.row.W.Denot g.row.E.Denot). string_bytes s.pending) kept ∙ sym (append-nil (string_bytes c.args.streams.now.pending)))
          (ap (λ (s : Streams g.row.W.Denot g.row.E.Denot). s.outcome) w.streams-is ∙ ap (λ (s : Streams g.row.W.Denot g.row.E.Denot). s.outcome) kept)
          (ap (λ (s : Streams g.row.W.Denot g.row.E.Denot). s.err) w.streams-is ∙ ap (λ (s : Streams g.row.W.Denot g.row.E.Denot). s.err) kept)
          (ap (λ (s : Streams g.row.W.Denot g.row.E.Denot). s.total) w.streams-is ∙ ap (λ (s : Streams g.row.W.Denot g.row.E.Denot). s.total) kept)
    ])

pub returns-clause-answered : goal.returns-clause-answered
returns-clause-answered g c = on_ok_then c.refuse_query.result _ _ c.refuse_query.ensures.refused (λ refused _ shows counts later.
    let look = look_after (look_of c.args.self.now.showing) c.args.streams.now.total in
    nothing_answered g.W.Write.contents (IsAnswerOn builtin_functions c.args.path.now.path look later c.args.head.now c.args.document.bytes.now)
    (IsAnswerInPart builtin_functions c.args.path.now.path look later c.args.head.now c.args.document.bytes.now) c.args.streams.now c.refuse_query.new.streams (inl (refl, refl)) c.refuse_query.ensures.kept refused)
