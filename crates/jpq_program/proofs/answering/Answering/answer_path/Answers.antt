use Rattle.jpq_program.proofs.Words.{◌≡◌, ◌∙◌, ◌+◌, ◌||◌, ap, arith, common_steps, nat_lt, refl, rules, string_bytes, subst, sym, view, AnswersPath, Begins, IsAnswerInPart, Look, Streams, builtin_functions}
use Rattle.serde_json_path_core.specs.Inside.Words.{Pattern}
use Rattle.jpq_program.proofs.Shown.{path_answered, path_begun, path_refused}
use Rattle.jpq_program.proofs.answering.Answering.answer_path.Goals as goal

pub returns-in_default-answered-clause-answered : goal.returns-in_default-answered-clause-answered
returns-in_default-answered-clause-answered g c = λ shows has.
    let written = rw c.in_default-answered.is at c.write_path-answered.ensures.filled in
    let ghost = sym written.4.rest.same in
    let kept : c.keep_count.new.streams ≡ record c.write_path-answered.new.written.streams.now {
      outcome = record c.write_path-answered.new.written.streams.now.outcome { selected = c.write_path-answered.new.written.streams.now.outcome.selected || nat_lt 0 c.write_path-answered.new.written.count };
      total = c.write_path-answered.new.written.streams.now.total + c.write_path-answered.new.written.count;
    } = search (rules, ghost) in
    subst (λ (look : Look). AnswersPath c.args.self.now.silent g.W.Write.contents c.args.path.now.path look c.args.is_later c.args.head.now c.args.document.bytes.now c.args.streams.now c.keep_count.new.streams) c.limit-limit.ensures
    (path_answered g.W.Write.contents c.args.path.now.path c.args.document.bytes.now (view c.args.document.value.now) written.0 _ c.write_path-answered.new.written c.keep_count.new.streams written.1
    refl c.in_default.is shows written.2 written.3 written.4 has kept)

pub returns-else-eq-clause-answered : goal.returns-else-eq-clause-answered
returns-else-eq-clause-answered g c = λ shows has.
    let pattern : c.in-Err.e ≡ Pattern = grind (arith, common_steps, c.eq.ensures, c.if-eq.false) in
    let written = (rw c.in-Err.is at c.write_path-answered.ensures.before) pattern in
    let ghost = sym written.4.took.rest.same in
    let kept : c.keep_count.new.streams ≡ record c.write_path-answered.new.written.streams.now {
      outcome = record c.write_path-answered.new.written.streams.now.outcome { selected = c.write_path-answered.new.written.streams.now.outcome.selected || nat_lt 0 c.write_path-answered.new.written.count };
      total = c.write_path-answered.new.written.streams.now.total + c.write_path-answered.new.written.count;
    } = search (rules, ghost) in
    let told = c.refuse_query.ensures.kept in
    subst (λ (look : Look). AnswersPath c.args.self.now.silent g.W.Write.contents c.args.path.now.path look c.args.is_later c.args.head.now c.args.document.bytes.now c.args.streams.now c.refuse_query.new.streams) c.limit-limit.ensures
    (path_refused g.W.Write.contents c.args.path.now.path c.args.document.bytes.now (view c.args.document.value.now) written.0 _ c.write_path-answered.new.written c.refuse_query.new.streams written.1
    refl shows written.2 written.3 written.4 has (ap (λ (s : Streams g.row.W.Denot g.row.E.Denot). s.out) told ∙ ap (λ (s : Streams g.row.W.Denot g.row.E.Denot). s.out) kept)
    (ap (λ (s : Streams g.row.W.Denot g.row.E.Denot). string_bytes s.pending) told ∙ ap (λ (s : Streams g.row.W.Denot g.row.E.Denot). string_bytes s.pending) kept) (ap (λ (s : Streams g.row.W.Denot g.row.E.Denot). s.outcome.selected) told ∙ ap (λ (s : Streams g.row.W.Denot g.row.E.Denot). s.outcome.selected) kept)
    c.in_ok-refuse_query.ensures.refused (ap (λ (s : Streams g.row.W.Denot g.row.E.Denot). s.total) told ∙ ap (λ (s : Streams g.row.W.Denot g.row.E.Denot). s.total) kept))

-- ---- of what a beginning is out, however it ends

pub returns-in-Some-clause-begun : goal.returns-in-Some-clause-begun
returns-in-Some-clause-begun g c = λ shows has.
    let written = c.write_path-answered.ensures.begun in
    let ghost = sym written.4.begins.rest.same in
    let out : c.keep_count.new.streams.out ≡ c.write_path-answered.new.written.streams.now.out = search (rules, ghost) in
    subst (λ (look : Look). Begins g.W.Write.contents (IsAnswerInPart builtin_functions c.args.path.now.path look c.args.is_later c.args.head.now c.args.document.bytes.now) c.args.streams.now c.keep_count.new.streams) c.limit-limit.ensures
    (path_begun g.W.Write.contents c.args.path.now.path c.args.document.bytes.now (view c.args.document.value.now) written.0 _ c.write_path-answered.new.written c.keep_count.new.streams written.1
    refl shows written.2 written.3 written.4 has out)

pub returns-in_err-keep_count-clause-begun : goal.returns-in_err-keep_count-clause-begun
returns-in_err-keep_count-clause-begun g c = λ shows has.
    let written = c.write_path-answered.ensures.begun in
    let ghost = sym written.4.begins.rest.same in
    let out : c.keep_count.new.streams.out ≡ c.write_path-answered.new.written.streams.now.out = search (rules, ghost) in
    subst (λ (look : Look). Begins g.W.Write.contents (IsAnswerInPart builtin_functions c.args.path.now.path look c.args.is_later c.args.head.now c.args.document.bytes.now) c.args.streams.now c.keep_count.new.streams) c.limit-limit.ensures
    (path_begun g.W.Write.contents c.args.path.now.path c.args.document.bytes.now (view c.args.document.value.now) written.0 _ c.write_path-answered.new.written c.keep_count.new.streams written.1
    refl shows written.2 written.3 written.4 has out)

pub returns-in_default-answered-clause-begun : goal.returns-in_default-answered-clause-begun
returns-in_default-answered-clause-begun g c = λ shows has.
    let written = c.write_path-answered.ensures.begun in
    let ghost = sym written.4.begins.rest.same in
    let out : c.keep_count.new.streams.out ≡ c.write_path-answered.new.written.streams.now.out = search (rules, ghost) in
    subst (λ (look : Look). Begins g.W.Write.contents (IsAnswerInPart builtin_functions c.args.path.now.path look c.args.is_later c.args.head.now c.args.document.bytes.now) c.args.streams.now c.keep_count.new.streams) c.limit-limit.ensures
    (path_begun g.W.Write.contents c.args.path.now.path c.args.document.bytes.now (view c.args.document.value.now) written.0 _ c.write_path-answered.new.written c.keep_count.new.streams written.1
    refl shows written.2 written.3 written.4 has out)

pub returns-in_err-refuse_query-clause-begun : goal.returns-in_err-refuse_query-clause-begun
returns-in_err-refuse_query-clause-begun g c = λ shows has.
    let written = c.write_path-answered.ensures.begun in
    let ghost = sym written.4.begins.rest.same in
    let out : c.keep_count.new.streams.out ≡ c.write_path-answered.new.written.streams.now.out = search (rules, ghost) in
    subst (λ (look : Look). Begins g.W.Write.contents (IsAnswerInPart builtin_functions c.args.path.now.path look c.args.is_later c.args.head.now c.args.document.bytes.now) c.args.streams.now c.refuse_query.new.streams) c.limit-limit.ensures
    (path_begun g.W.Write.contents c.args.path.now.path c.args.document.bytes.now (view c.args.document.value.now) written.0 _ c.write_path-answered.new.written c.refuse_query.new.streams written.1
    refl shows written.2 written.3 written.4 has (ap (λ (s : Streams g.row.W.Denot g.row.E.Denot). s.out) c.refuse_query.ensures.kept ∙ out))

pub returns-then-eq-clause-begun : goal.returns-then-eq-clause-begun
returns-then-eq-clause-begun g c = λ shows has.
    let written = c.write_path-answered.ensures.begun in
    let ghost = sym written.4.begins.rest.same in
    let out : c.keep_count.new.streams.out ≡ c.write_path-answered.new.written.streams.now.out = search (rules, ghost) in
    subst (λ (look : Look). Begins g.W.Write.contents (IsAnswerInPart builtin_functions c.args.path.now.path look c.args.is_later c.args.head.now c.args.document.bytes.now) c.args.streams.now c.refuse_query.new.streams) c.limit-limit.ensures
    (path_begun g.W.Write.contents c.args.path.now.path c.args.document.bytes.now (view c.args.document.value.now) written.0 _ c.write_path-answered.new.written c.refuse_query.new.streams written.1
    refl shows written.2 written.3 written.4 has (ap (λ (s : Streams g.row.W.Denot g.row.E.Denot). s.out) c.refuse_query.ensures.kept ∙ out))

pub returns-else-eq-clause-begun : goal.returns-else-eq-clause-begun
returns-else-eq-clause-begun g c = λ shows has.
    let written = c.write_path-answered.ensures.begun in
    let ghost = sym written.4.begins.rest.same in
    let out : c.keep_count.new.streams.out ≡ c.write_path-answered.new.written.streams.now.out = search (rules, ghost) in
    subst (λ (look : Look). Begins g.W.Write.contents (IsAnswerInPart builtin_functions c.args.path.now.path look c.args.is_later c.args.head.now c.args.document.bytes.now) c.args.streams.now c.refuse_query.new.streams) c.limit-limit.ensures
    (path_begun g.W.Write.contents c.args.path.now.path c.args.document.bytes.now (view c.args.document.value.now) written.0 _ c.write_path-answered.new.written c.refuse_query.new.streams written.1
    refl shows written.2 written.3 written.4 has (ap (λ (s : Streams g.row.W.Denot g.row.E.Denot). s.out) c.refuse_query.ensures.kept ∙ out))
