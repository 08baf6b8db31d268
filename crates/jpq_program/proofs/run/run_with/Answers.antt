use Rattle.jpq_program.proofs.Words.{[], ◌≡◌, ◌∙◌, List, ℕ, Option, ap, inl, map, refl, string_bytes, subst, sym, AreAllInPart, AreKnown, ArePaths, AskedPath, Begins, SendsFor, Streams, names_in, path_texts, reading_in, texts_asked}
use Rattle.jpq_program.proofs.Asked.{run_answered, run_begun}
use Rattle.jpq_program.proofs.Opened.{opens_all_inputs, opens_inputs}
use Rattle.jpq_program.proofs.Wanted.{opened_after}
use Rattle.jpq_program.specs.Inputs.{OpensWanted}
use Rattle.jpq_program.specs.Inside.{named_for}
use Rattle.jpq_program.proofs.run.run_with.Goals as goal

pub returns-clause-answered : goal.returns-clause-answered
returns-clause-answered g c = λ run outcome fresh empty files known.
    let asked = c.in_ok-paths.ensures.right in
    let hinted = c.hint_at_patterns.ensures.told in
    let ended = c.hint_at_nothing.ensures.told in
    let same : g.I.Inputs.bytes_of c.asked_paths.new.inputs ≡ g.I.Inputs.bytes_of c.args.inputs.now = λ i name. c.in_ok-paths.ensures.same name i in
    let nothing = ap (λ (s : Streams g.row.W.Denot g.row.E.Denot). string_bytes s.pending) hinted ∙ ap (λ (s : Streams g.row.W.Denot g.row.E.Denot). string_bytes s.pending) asked ∙ empty in
    let are = c.in_ok-paths.ensures.read files in
    run_answered g.W.Write.contents (g.I.Inputs.bytes_of c.args.inputs.now) c.args.options.now c.args.colours c.in_ok-next.next c.deref-2.result.now (g.I.Inputs.opened c.args.inputs.now) (g.I.Inputs.opened c.answer_paths.new.inputs) c.args.streams.now c.hint_at_patterns.new.streams c.answer_paths.new.streams c.hint_at_nothing.new.streams
    (subst (λ (paths : List AskedPath). ArePaths (reading_in c.args.options.now) (path_texts (g.I.Inputs.bytes_of c.args.inputs.now) c.args.options.now) (map (λ (path : AskedPath). path.path) paths)) (sym c.deref-2.ensures.value) are)
    outcome (ap (λ (s : Streams g.row.W.Denot g.row.E.Denot). s.out) hinted ∙ ap (λ (s : Streams g.row.W.Denot g.row.E.Denot). s.out) asked)
    (ap (λ (s : Streams g.row.W.Denot g.row.E.Denot). s.outcome) hinted ∙ ap (λ (s : Streams g.row.W.Denot g.row.E.Denot). s.outcome) asked) nothing
    (ap (λ (s : Streams g.row.W.Denot g.row.E.Denot). s.out) ended) (ap (λ (s : Streams g.row.W.Denot g.row.E.Denot). s.outcome) ended) (ap (λ (s : Streams g.row.W.Denot g.row.E.Denot). s.total) ended)
    (λ silent. (ap (λ (s : Streams g.row.W.Denot g.row.E.Denot). s.err) (c.hint_at_patterns.ensures.quiet silent ∙ asked), ap (λ (s : Streams g.row.W.Denot g.row.E.Denot). s.err) (c.hint_at_nothing.ensures.quiet silent)))
    (subst (λ (bytes_of : List ℕ → Option (List ℕ)). SendsFor g.W.Write.contents c.args.options.now c.args.colours c.in_ok-next.next (map (λ (path : AskedPath). path.path) c.deref-2.result.now) bytes_of c.hint_at_patterns.new.streams c.answer_paths.new.streams) same
    (c.in_ok-next.ensures.answered (ap texts_asked c.deref-2.ensures.value ∙ c.in_ok-paths.ensures.texts files ∙ ap (λ (known : List ℕ → Option (List ℕ)). path_texts known c.args.options.now) (sym same)) (ap (λ (s : Streams g.row.W.Denot g.row.E.Denot). s.total) hinted ∙ ap (λ (s : Streams g.row.W.Denot g.row.E.Denot). s.total) asked ∙ fresh) nothing (subst (λ (bytes_of : List ℕ → Option (List ℕ)). AreKnown bytes_of (names_in c.args.options.now)) (sym same) known)))
    (λ whole right. opened_after c.args.options.now c.args.colours (map (λ (path : AskedPath). path.path) c.deref-2.result.now) (g.I.Inputs.bytes_of c.args.inputs.now) (g.I.Inputs.opened c.args.inputs.now) (g.I.Inputs.opened c.asked_paths.new.inputs) (g.I.Inputs.opened c.answer_paths.new.inputs) c.in_ok-paths.ensures.opens
    (subst (λ (bytes_of : List ℕ → Option (List ℕ)). OpensWanted c.args.options.now.most_of_all (named_for c.args.options.now c.args.colours (map (λ (path : AskedPath). path.path) c.deref-2.result.now) bytes_of) 0 (names_in c.args.options.now) [] (g.I.Inputs.opened c.asked_paths.new.inputs) (g.I.Inputs.opened c.answer_paths.new.inputs)) same
    (c.in_ok-next.ensures.wanted whole right (ap (λ (s : Streams g.row.W.Denot g.row.E.Denot). s.total) hinted ∙ ap (λ (s : Streams g.row.W.Denot g.row.E.Denot). s.total) asked ∙ fresh) nothing (subst (λ (bytes_of : List ℕ → Option (List ℕ)). AreKnown bytes_of (names_in c.args.options.now)) (sym same) known))))

pub returns-clause-all : goal.returns-clause-all
returns-clause-all g c = λ check more.
    opens_all_inputs c.args.options.now (g.I.Inputs.opened c.args.inputs.now) (g.I.Inputs.opened c.asked_paths.new.inputs) (g.I.Inputs.opened c.answer_paths.new.inputs) c.if-options.false c.in_ok-paths.ensures.opens (c.in_ok-next.ensures.all more)

-- ---- of what a beginning is out, however it ends

pub returns-clause-in_part : goal.returns-clause-in_part
returns-clause-in_part g c = λ run fresh empty files known.
    let asked = c.asked_paths.ensures.tells in
    let hinted = c.hint_at_patterns.ensures.told in
    let same : g.I.Inputs.bytes_of c.asked_paths.new.inputs ≡ g.I.Inputs.bytes_of c.args.inputs.now = λ i name. c.in_ok-paths.ensures.same name i in
    let nothing = ap (λ (s : Streams g.row.W.Denot g.row.E.Denot). string_bytes s.pending) hinted ∙ ap (λ (s : Streams g.row.W.Denot g.row.E.Denot). string_bytes s.pending) asked ∙ empty in
    run_begun g.W.Write.contents (g.I.Inputs.bytes_of c.args.inputs.now) c.args.options.now c.args.colours c.deref-2.result.now c.args.streams.now c.hint_at_patterns.new.streams c.answer_paths.new.streams c.hint_at_nothing.new.streams
    (subst (λ (paths : List AskedPath). ArePaths (reading_in c.args.options.now) (path_texts (g.I.Inputs.bytes_of c.args.inputs.now) c.args.options.now) (map (λ (path : AskedPath). path.path) paths)) (sym c.deref-2.ensures.value) (c.in_ok-paths.ensures.read files))
    (ap (λ (s : Streams g.row.W.Denot g.row.E.Denot). s.out) hinted ∙ ap (λ (s : Streams g.row.W.Denot g.row.E.Denot). s.out) asked) nothing (ap (λ (s : Streams g.row.W.Denot g.row.E.Denot). s.out) c.hint_at_nothing.ensures.told)
    (subst (λ (bytes_of : List ℕ → Option (List ℕ)). Begins g.W.Write.contents (AreAllInPart c.args.options.now c.args.colours (map (λ (path : AskedPath). path.path) c.deref-2.result.now) bytes_of) c.hint_at_patterns.new.streams c.answer_paths.new.streams) same
    (c.answer_paths.ensures.begun (ap texts_asked c.deref-2.ensures.value ∙ c.in_ok-paths.ensures.texts files ∙ ap (λ (known : List ℕ → Option (List ℕ)). path_texts known c.args.options.now) (sym same)) (ap (λ (s : Streams g.row.W.Denot g.row.E.Denot). s.total) hinted ∙ ap (λ (s : Streams g.row.W.Denot g.row.E.Denot). s.total) asked ∙ fresh) nothing (subst (λ (bytes_of : List ℕ → Option (List ℕ)). AreKnown bytes_of (names_in c.args.options.now)) (sym same) known)))

pub returns-in_err-hint_at_nothing-clause-in_part : goal.returns-in_err-hint_at_nothing-clause-in_part
returns-in_err-hint_at_nothing-clause-in_part g c = λ run fresh empty files known.
    let asked = c.asked_paths.ensures.tells in
    let hinted = c.hint_at_patterns.ensures.told in
    let same : g.I.Inputs.bytes_of c.asked_paths.new.inputs ≡ g.I.Inputs.bytes_of c.args.inputs.now = λ i name. c.in_ok-paths.ensures.same name i in
    let nothing = ap (λ (s : Streams g.row.W.Denot g.row.E.Denot). string_bytes s.pending) hinted ∙ ap (λ (s : Streams g.row.W.Denot g.row.E.Denot). string_bytes s.pending) asked ∙ empty in
    run_begun g.W.Write.contents (g.I.Inputs.bytes_of c.args.inputs.now) c.args.options.now c.args.colours c.deref-2.result.now c.args.streams.now c.hint_at_patterns.new.streams c.answer_paths.new.streams c.hint_at_nothing.new.streams
    (subst (λ (paths : List AskedPath). ArePaths (reading_in c.args.options.now) (path_texts (g.I.Inputs.bytes_of c.args.inputs.now) c.args.options.now) (map (λ (path : AskedPath). path.path) paths)) (sym c.deref-2.ensures.value) (c.in_ok-paths.ensures.read files))
    (ap (λ (s : Streams g.row.W.Denot g.row.E.Denot). s.out) hinted ∙ ap (λ (s : Streams g.row.W.Denot g.row.E.Denot). s.out) asked) nothing (ap (λ (s : Streams g.row.W.Denot g.row.E.Denot). s.out) c.hint_at_nothing.ensures.told)
    (subst (λ (bytes_of : List ℕ → Option (List ℕ)). Begins g.W.Write.contents (AreAllInPart c.args.options.now c.args.colours (map (λ (path : AskedPath). path.path) c.deref-2.result.now) bytes_of) c.hint_at_patterns.new.streams c.answer_paths.new.streams) same
    (c.answer_paths.ensures.begun (ap texts_asked c.deref-2.ensures.value ∙ c.in_ok-paths.ensures.texts files ∙ ap (λ (known : List ℕ → Option (List ℕ)). path_texts known c.args.options.now) (sym same)) (ap (λ (s : Streams g.row.W.Denot g.row.E.Denot). s.total) hinted ∙ ap (λ (s : Streams g.row.W.Denot g.row.E.Denot). s.total) asked ∙ fresh) nothing (subst (λ (bytes_of : List ℕ → Option (List ℕ)). AreKnown bytes_of (names_in c.args.options.now)) (sym same) known)))

pub returns-in_err-next-clause-in_part : goal.returns-in_err-next-clause-in_part
returns-in_err-next-clause-in_part g c = λ run fresh empty files known.
    let asked = c.asked_paths.ensures.tells in
    let hinted = c.hint_at_patterns.ensures.told in
    let same : g.I.Inputs.bytes_of c.asked_paths.new.inputs ≡ g.I.Inputs.bytes_of c.args.inputs.now = λ i name. c.in_ok-paths.ensures.same name i in
    let nothing = ap (λ (s : Streams g.row.W.Denot g.row.E.Denot). string_bytes s.pending) hinted ∙ ap (λ (s : Streams g.row.W.Denot g.row.E.Denot). string_bytes s.pending) asked ∙ empty in
    run_begun g.W.Write.contents (g.I.Inputs.bytes_of c.args.inputs.now) c.args.options.now c.args.colours c.deref-2.result.now c.args.streams.now c.hint_at_patterns.new.streams c.answer_paths.new.streams c.answer_paths.new.streams
    (subst (λ (paths : List AskedPath). ArePaths (reading_in c.args.options.now) (path_texts (g.I.Inputs.bytes_of c.args.inputs.now) c.args.options.now) (map (λ (path : AskedPath). path.path) paths)) (sym c.deref-2.ensures.value) (c.in_ok-paths.ensures.read files))
    (ap (λ (s : Streams g.row.W.Denot g.row.E.Denot). s.out) hinted ∙ ap (λ (s : Streams g.row.W.Denot g.row.E.Denot). s.out) asked) nothing refl
    (subst (λ (bytes_of : List ℕ → Option (List ℕ)). Begins g.W.Write.contents (AreAllInPart c.args.options.now c.args.colours (map (λ (path : AskedPath). path.path) c.deref-2.result.now) bytes_of) c.hint_at_patterns.new.streams c.answer_paths.new.streams) same
    (c.answer_paths.ensures.begun (ap texts_asked c.deref-2.ensures.value ∙ c.in_ok-paths.ensures.texts files ∙ ap (λ (known : List ℕ → Option (List ℕ)). path_texts known c.args.options.now) (sym same)) (ap (λ (s : Streams g.row.W.Denot g.row.E.Denot). s.total) hinted ∙ ap (λ (s : Streams g.row.W.Denot g.row.E.Denot). s.total) asked ∙ fresh) nothing (subst (λ (bytes_of : List ℕ → Option (List ℕ)). AreKnown bytes_of (names_in c.args.options.now)) (sym same) known)))

pub returns-in_err-paths-clause-in_part : goal.returns-in_err-paths-clause-in_part
returns-in_err-paths-clause-in_part g c = λ run fresh empty files known. inl (ap (λ (s : Streams g.row.W.Denot g.row.E.Denot). s.out) c.asked_paths.ensures.tells)

pub returns-in_err-hint_at_patterns-clause-in_part : goal.returns-in_err-hint_at_patterns-clause-in_part
returns-in_err-hint_at_patterns-clause-in_part g c = λ run fresh empty files known.
    inl (ap (λ (s : Streams g.row.W.Denot g.row.E.Denot). s.out) c.hint_at_patterns.ensures.told ∙ ap (λ (s : Streams g.row.W.Denot g.row.E.Denot). s.out) c.asked_paths.ensures.tells)

pub returns-in_err-paths-clause-checked_in_part : goal.returns-in_err-paths-clause-checked_in_part
returns-in_err-paths-clause-checked_in_part g c = λ run empty files. inl (ap (λ (s : Streams g.row.W.Denot g.row.E.Denot). s.out) c.asked_paths.ensures.tells)

pub returns-in_err-hint_at_patterns-clause-checked_in_part : goal.returns-in_err-hint_at_patterns-clause-checked_in_part
returns-in_err-hint_at_patterns-clause-checked_in_part g c = λ run empty files.
    inl (ap (λ (s : Streams g.row.W.Denot g.row.E.Denot). s.out) c.hint_at_patterns.ensures.told ∙ ap (λ (s : Streams g.row.W.Denot g.row.E.Denot). s.out) c.asked_paths.ensures.tells)

pub returns-in_err-next-clause-in_order : goal.returns-in_err-next-clause-in_order
returns-in_err-next-clause-in_order g c =
    inl (opens_inputs c.args.options.now (g.I.Inputs.opened c.args.inputs.now) (g.I.Inputs.opened c.asked_paths.new.inputs) (g.I.Inputs.opened c.answer_paths.new.inputs) c.if-options.false c.in_ok-paths.ensures.opens c.answer_paths.ensures.opens)

pub returns-in_err-hint_at_nothing-clause-in_order : goal.returns-in_err-hint_at_nothing-clause-in_order
returns-in_err-hint_at_nothing-clause-in_order g c =
    inl (opens_inputs c.args.options.now (g.I.Inputs.opened c.args.inputs.now) (g.I.Inputs.opened c.asked_paths.new.inputs) (g.I.Inputs.opened c.answer_paths.new.inputs) c.if-options.false c.in_ok-paths.ensures.opens c.answer_paths.ensures.opens)

pub returns-clause-opens : goal.returns-clause-opens
returns-clause-opens g c =
    opens_inputs c.args.options.now (g.I.Inputs.opened c.args.inputs.now) (g.I.Inputs.opened c.asked_paths.new.inputs) (g.I.Inputs.opened c.answer_paths.new.inputs) c.if-options.false c.in_ok-paths.ensures.opens c.answer_paths.ensures.opens

pub returns-clause-in_order : goal.returns-clause-in_order
returns-clause-in_order g c =
    inl (opens_inputs c.args.options.now (g.I.Inputs.opened c.args.inputs.now) (g.I.Inputs.opened c.asked_paths.new.inputs) (g.I.Inputs.opened c.answer_paths.new.inputs) c.if-options.false c.in_ok-paths.ensures.opens c.answer_paths.ensures.opens)
