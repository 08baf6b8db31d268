use Rattle.jpq_program.proofs.Words.{◌≡◌, ◌∙◌, ◌++◌, ◌+◌, ◌<◌, ◌≤◌, ◌∷◌, Option, get_or, [], AreKnown, AreAskedBy, Bor, List, OpensFirst, PathReading, Reading, ReadsFurther, Streams, Opens, ap, append-nil, arith, has_text, known_bytes, length, looked_at_in, map, numbers_view, path_files_in, path_lines, reading_by, reading_in, refl, string_bytes, subst, sym, take, texts_in_file, without_mark, ℕ}
use Rattle.jpq_program.proofs.Opened.{opens_all, opens_alone, opens_further, opens_none, opens_nothing, opens_some, opens_then, opens_within}
use Rattle.jpq_program.proofs.Bound.{reading_is}
use Rattle.jpq_program.proofs.Parsed.{are_paths, are_texts, file_read, files_read}
use Rattle.serde_json_path_syntax.specs.Bindings.{pairs_of}
use Rattle.std.specs.List.{filter}
use Rattle.jpq_program.proofs.paths.asked_paths.Goals as goal

abbrev names_of : List (Bor (List ℕ)) → List (List ℕ)
names_of names = map (λ (name : Bor (List ℕ)). name.now) names

pub loop-file-init : goal.loop-file-init
loop-file-init g c =
    let kept = c.parse_words.ensures.kept in
    let words = names_of c.args.options.now.paths.items in
    let read = c.parse_words.new.paths.items in
    record {
      same = λ name. refl;
      opens = opens_none (g.I.Inputs.opened c.args.inputs.now);
      reads = refl;
      tells = refl;
      right = λ right. refl;
      unopened = λ none. refl;
      are = λ known right. subst (λ (reading : Reading). AreAskedBy reading (words ++ []) read) (sym (ap reading_by kept))
          (subst (λ (texts : List (List ℕ)). AreAskedBy (record { numbers = numbers_view c.numbers_of.result; bindings = pairs_of c.in_ok-bindings_of.field-0.items }) texts read) (ap names_of c.deref-4.ensures.value ∙ sym (append-nil words))
          (c.in_ok-parse_words.ensures.read c.new-paths.ensures.items right));
    }

pub loop-file-preserved : goal.loop-file-preserved
loop-file-preserved g c =
    let before = c.loop-file.invariant in
    let files = c.deref-file-items.result.now in
    let text = c.in_ok-text.ensures in
    let parsed = c.in_ok-parse_file.ensures in
    record {
      same = λ name. c.paths_text.ensures.same name ∙ before.same name;
      opens = opens_further files c.loop-file.file-index _ (g.I.Inputs.opened c.args.inputs.now) (g.I.Inputs.opened c.loop-file.inputs) (g.I.Inputs.opened c.paths_text.new.inputs) c.loop-file-test.true before.opens c.paths_text.ensures.opens;
      reads = c.parse_file.ensures.kept ∙ ap (λ (r : PathReading). record r { used = c.parse_file.new.self.used }) before.reads;
      tells = parsed.told ∙ ap (λ (s : Streams g.row.W.Denot g.row.E.Denot). record s { err = c.parse_file.new.streams.err; outcome = record s.outcome { refused = c.parse_file.new.streams.outcome.refused } }) (text.told ∙ before.tells);
      right = λ right.
          let same = parsed.right right ∙ text.told in
          same ∙ before.right (sym (ap (λ (s : Streams g.row.W.Denot g.row.E.Denot). s.outcome.refused) same) ∙ right);
      unopened = λ none.
          let empty : length files ≡ 0 = ap (λ (l : List (Bor (List ℕ))). length l) (c.deref-file-items.ensures.value ∙ none) in
          absurd (omega arith);
      are = λ known right.
          let same = parsed.right right ∙ text.told in
          let reading = ap reading_by before.reads in
          let read = parsed.read right in
          file_read (reading_by c.parse_words.new.self) (g.I.Inputs.bytes_of c.args.inputs.now) (g.I.Inputs.bytes_of c.loop-file.inputs) (names_of c.args.options.now.paths.items) files c.loop-file.file-index _
          c.loop-file.paths.items c.parse_file.new.paths.items (string_bytes c.in_ok-text.text) c.without_mark.result.now c.loop-file-test.true before.same known text.read
          (c.without_mark.ensures ∙ ap without_mark c.as_str-in-loop-file.ensures.value)
          (before.are known (sym (ap (λ (s : Streams g.row.W.Denot g.row.E.Denot). s.outcome.refused) same) ∙ right))
          (subst (λ (reading : Reading). ReadsFurther reading (filter has_text (path_lines c.without_mark.result.now)) c.loop-file.paths.items c.parse_file.new.paths.items) reading read);
    }

pub returns-then-not-streams-clause-read : goal.returns-then-not-streams-clause-read
returns-then-not-streams-clause-read g c = λ known.
    let kept = c.parse_words.ensures.kept in
    let reading = ap reading_by kept ∙ reading_is c.args.options.now (numbers_view c.numbers_of.result) (pairs_of c.in_ok-bindings_of.field-0.items) c.in-Ok.values.items c.deref-3.result.now c.deref.result.now
    c.numbers_of.ensures c.in_ok-bindings_of.ensures c.deref-3.ensures.value (rw c.in-Ok.is at c.in_ok-values.ensures) c.deref.ensures.value in
    let here = subst (AreKnown (g.I.Inputs.bytes_of c.args.inputs.now)) (sym (ap names_of c.deref-file-items.ensures.value)) known in
    are_paths (reading_in c.args.options.now) _ c.loop-file.paths.items (files_read (reading_in c.args.options.now) _ (λ (name : List ℕ). texts_in_file (known_bytes (g.I.Inputs.bytes_of c.args.inputs.now) name)) (names_of c.args.options.now.paths.items) c.deref-file-items.result.now _
    c.loop-file.file-index c.loop-file.paths.items c.loop-file-test.false c.deref-file-items.ensures.value reading (c.loop-file.invariant.are here c.if-not-streams.true))

pub returns-then-not-streams-clause-texts : goal.returns-then-not-streams-clause-texts
returns-then-not-streams-clause-texts g c = λ known.
    let kept = c.parse_words.ensures.kept in
    let reading = ap reading_by kept ∙ reading_is c.args.options.now (numbers_view c.numbers_of.result) (pairs_of c.in_ok-bindings_of.field-0.items) c.in-Ok.values.items c.deref-3.result.now c.deref.result.now
    c.numbers_of.ensures c.in_ok-bindings_of.ensures c.deref-3.ensures.value (rw c.in-Ok.is at c.in_ok-values.ensures) c.deref.ensures.value in
    let here = subst (AreKnown (g.I.Inputs.bytes_of c.args.inputs.now)) (sym (ap names_of c.deref-file-items.ensures.value)) known in
    are_texts (reading_in c.args.options.now) _ c.loop-file.paths.items (files_read (reading_in c.args.options.now) _ (λ (name : List ℕ). texts_in_file (known_bytes (g.I.Inputs.bytes_of c.args.inputs.now) name)) (names_of c.args.options.now.paths.items) c.deref-file-items.result.now _
    c.loop-file.file-index c.loop-file.paths.items c.loop-file-test.false c.deref-file-items.ensures.value reading (c.loop-file.invariant.are here c.if-not-streams.true))

all_opened : {I : Type 0} (opened : I → Option (List (List ℕ))) (inputs later : I) (files listed : List (Bor (List ℕ))) (index : ℕ) → files ≡ listed → length files ≤ index
    → Opens (opened inputs) (opened later) (names_of (take index files)) → Opens (opened inputs) (opened later) (names_of listed)
all_opened opened inputs later files listed index is done opens = subst (Opens (opened inputs) (opened later)) (ap names_of is) (opens_all files index (opened inputs) (opened later) done opens)

pub returns-then-not-streams-clause-opens : goal.returns-then-not-streams-clause-opens
returns-then-not-streams-clause-opens g c = all_opened g.I.Inputs.opened c.args.inputs.now c.loop-file.inputs c.deref-file-items.result.now _ c.loop-file.file-index c.deref-file-items.ensures.value c.loop-file-test.false c.loop-file.invariant.opens

pub returns-then-not-streams-clause-looks : goal.returns-then-not-streams-clause-looks
returns-then-not-streams-clause-looks g c = opens_alone (g.I.Inputs.opened c.args.inputs.now) (g.I.Inputs.opened c.loop-file.inputs) (path_files_in c.args.options.now) _
    (all_opened g.I.Inputs.opened c.args.inputs.now c.loop-file.inputs c.deref-file-items.result.now _ c.loop-file.file-index c.deref-file-items.ensures.value c.loop-file-test.false c.loop-file.invariant.opens)

pub returns-in_err-tell_unused-clause-looks : goal.returns-in_err-tell_unused-clause-looks
returns-in_err-tell_unused-clause-looks g c = opens_alone (g.I.Inputs.opened c.args.inputs.now) (g.I.Inputs.opened c.loop-file.inputs) (path_files_in c.args.options.now) _
    (all_opened g.I.Inputs.opened c.args.inputs.now c.loop-file.inputs c.deref-file-items.result.now _ c.loop-file.file-index c.deref-file-items.ensures.value c.loop-file-test.false c.loop-file.invariant.opens)

pub returns-in_err-tell_order-clause-looks : goal.returns-in_err-tell_order-clause-looks
returns-in_err-tell_order-clause-looks g c = opens_then (g.I.Inputs.opened c.args.inputs.now) (g.I.Inputs.opened c.loop-file.inputs) (g.I.Inputs.opened c.tell_order.new.inputs) (path_files_in c.args.options.now) _
    (all_opened g.I.Inputs.opened c.args.inputs.now c.loop-file.inputs c.deref-file-items.result.now _ c.loop-file.file-index c.deref-file-items.ensures.value c.loop-file-test.false c.loop-file.invariant.opens)
    (subst (λ (texts : List (Bor (List ℕ))). OpensFirst (g.I.Inputs.opened c.loop-file.inputs) (g.I.Inputs.opened c.tell_order.new.inputs) (take 1 (names_of texts))) c.deref-5.ensures.value c.tell_order.ensures.opens)

pub returns-clause-looks : goal.returns-clause-looks
returns-clause-looks g c = opens_then (g.I.Inputs.opened c.args.inputs.now) (g.I.Inputs.opened c.loop-file.inputs) (g.I.Inputs.opened c.tell_order.new.inputs) (path_files_in c.args.options.now) _
    (all_opened g.I.Inputs.opened c.args.inputs.now c.loop-file.inputs c.deref-file-items.result.now _ c.loop-file.file-index c.deref-file-items.ensures.value c.loop-file-test.false c.loop-file.invariant.opens)
    (subst (λ (texts : List (Bor (List ℕ))). OpensFirst (g.I.Inputs.opened c.loop-file.inputs) (g.I.Inputs.opened c.tell_order.new.inputs) (take 1 (names_of texts))) c.deref-5.ensures.value c.tell_order.ensures.opens)

pub returns-in_err-message-in-Err-clause-looks : goal.returns-in_err-message-in-Err-clause-looks
returns-in_err-message-in-Err-clause-looks g c = opens_nothing (g.I.Inputs.opened c.args.inputs.now) (looked_at_in c.args.options.now)

pub returns-in_err-parse_words-clause-looks : goal.returns-in_err-parse_words-clause-looks
returns-in_err-parse_words-clause-looks g c = opens_nothing (g.I.Inputs.opened c.args.inputs.now) (looked_at_in c.args.options.now)

some_opened : {I : Type 0} (opened : I → Option (List (List ℕ))) (inputs later last : I) (files listed : List (Bor (List ℕ))) (index : ℕ) (none : Bor (List ℕ)) (more : List (List ℕ)) → files ≡ listed → index < length files
    → Opens (opened inputs) (opened later) (names_of (take index files)) → Opens (opened later) (opened last) ((get_or files index none).now ∷ []) → OpensFirst (opened inputs) (opened last) (names_of listed ++ more)
some_opened opened inputs later last files listed index none more is within first second =
    opens_within (opened inputs) (opened last) (names_of listed) more (subst (λ (l : List (Bor (List ℕ))). OpensFirst (opened inputs) (opened last) (names_of l)) is
    (opens_some files (index + 1) (opened inputs) (opened last) (opens_further files index none (opened inputs) (opened later) (opened last) within first second)))

pub returns-in_err-text-clause-looks : goal.returns-in_err-text-clause-looks
returns-in_err-text-clause-looks g c = some_opened g.I.Inputs.opened c.args.inputs.now c.loop-file.inputs c.paths_text.new.inputs c.deref-file-items.result.now c.args.options.now.paths_files.items c.loop-file.file-index _ _ c.deref-file-items.ensures.value c.loop-file-test.true c.loop-file.invariant.opens c.paths_text.ensures.opens

pub returns-in_err-parse_file-clause-looks : goal.returns-in_err-parse_file-clause-looks
returns-in_err-parse_file-clause-looks g c = some_opened g.I.Inputs.opened c.args.inputs.now c.loop-file.inputs c.paths_text.new.inputs c.deref-file-items.result.now c.args.options.now.paths_files.items c.loop-file.file-index _ _ c.deref-file-items.ensures.value c.loop-file-test.true c.loop-file.invariant.opens c.paths_text.ensures.opens
