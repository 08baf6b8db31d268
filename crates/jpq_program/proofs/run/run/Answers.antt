use Rattle.jpq_program.proofs.Words.{true, ◌≡◌, ◌≤◌, ◌∙◌, Bool, inl, inr, refl, sym, ap, subst, arith, common_steps, List, ℕ, string_bytes, AppendsBeginning, Streams, AreKnown, IsAnswered, IsAnsweredInPart, IsCheckedInPart, IsChecked, IsFound, IsPlainRun, IsQuietRun, TellsNothing, told_after, IsStatusOf, Next, None, Ok, Opens, Appends, [], is_quiet, names_in, not, opened_in, path_files_in, status_after}
use Rattle.jpq_program.proofs.Asked.{all_wanted, each_shown, out_since, plain_answered, plain_whole, run_ended}
use Rattle.jpq_program.proofs.Checked.{check_ended}
use Rattle.jpq_program.proofs.Ended.{ended_checked, ended_well, one_of_few, printed_since}
use Rattle.jpq_program.proofs.Opened.{opens_ended}
use Rattle.jpq_program.proofs.Quiet.{ended_quietly, quiet_found, quiet_out, quiet_whole}
use Rattle.jpq_program.proofs.Shown.{of_ok}
use Rattle.jpq_program.proofs.run.run.Goals as goal

pub returns-in-Ok-Run-clause-comes : goal.returns-in-Ok-Run-clause-comes
returns-in-Ok-Run-clause-comes g c =
    let options = c.in-Ok-Run.options in
    let ended = c.run_with-ended.result in
    let outcome = c.run_with-ended.new.streams.outcome in
    let few = one_of_few ended _ _ outcome c.exit_status.result c.exit_status.ensures.status in
    let status : IsStatusOf options c.exit_status.result = elim few [
      | inl few ↦ inl few
      | inr wrong ↦ inr (wrong.0, λ none. absurd (grind (arith, common_steps, none, wrong.1, c.is_empty.ensures)))
    ] in
    let untold = λ (next : Next) (is : ended ≡ Ok next). c.exit_status.ensures.quiet (ap told_after is) in
    let answered : IsPlainRun options → AreKnown (g.I.Inputs.bytes_of c.args.inputs.now) (path_files_in options) → AreKnown (g.I.Inputs.bytes_of c.args.inputs.now) (names_in options) → c.exit_status.result ≤ 1
    → IsAnswered g.W.Write.contents (g.I.Inputs.bytes_of c.args.inputs.now) options c.args.colours (g.I.Inputs.opened c.args.inputs.now) (g.I.Inputs.opened c.run_with-ended.new.inputs) c.args.streams.now.out c.exit_status.new.streams.out c.exit_status.result
    × (options.most_of_all ≡ None → Opens (g.I.Inputs.opened c.args.inputs.now) (g.I.Inputs.opened c.run_with-ended.new.inputs) (opened_in options)) × TellsNothing options c.args.streams.now c.exit_status.new.streams = λ run files known few.
    let well = ended_well ended (not c.is_empty.result) outcome c.exit_status.result (subst (λ (quiet : Bool). c.exit_status.result ≡ status_after ended (not c.is_empty.result) quiet outcome) (c.is_quiet-quiet.ensures ∙ each_shown options.shown run.each) c.exit_status.ensures.status) few in
    let done = of_ok _ ended well.0 well.1 c.run_with-ended.ensures.answered run.check c.restart.ensures.outcome c.restart.ensures.total c.restart.ensures.pending files known in (
      run_ended g.W.Write.contents (g.I.Inputs.bytes_of c.args.inputs.now) options c.args.colours (g.I.Inputs.opened c.args.inputs.now) (g.I.Inputs.opened c.run_with-ended.new.inputs) c.args.streams.now.out c.restart.new.self.out c.run_with-ended.new.streams.out c.exit_status.new.streams.out outcome c.exit_status.result
          c.restart.ensures.out c.exit_status.ensures.out well.3
          (plain_answered g.W.Write.contents (g.I.Inputs.bytes_of c.args.inputs.now) options c.args.colours well.0 (g.I.Inputs.opened c.args.inputs.now) (g.I.Inputs.opened c.run_with-ended.new.inputs) c.restart.new.self c.run_with-ended.new.streams run.each well.2 done),
      λ all. of_ok _ ended well.0 well.1 c.run_with-ended.ensures.all run.check (all_wanted _ _ well.0 c.run_with-ended.new.streams (plain_whole options well.0 c.run_with-ended.new.streams run.each done.ends) all done.ends),
      λ silent. untold well.0 well.1 ∙ done.told silent well.2 ∙ c.restart.ensures.err,
    ) in
    let found : IsQuietRun options → AreKnown (g.I.Inputs.bytes_of c.args.inputs.now) (path_files_in options) → AreKnown (g.I.Inputs.bytes_of c.args.inputs.now) (names_in options)
    → Appends (g.W.Write.contents c.args.streams.now.out) (g.W.Write.contents c.exit_status.new.streams.out) [] × (c.exit_status.result ≤ 1 → IsFound (g.I.Inputs.bytes_of c.args.inputs.now) options c.args.colours c.exit_status.result)
    × (c.exit_status.result ≡ 1 → (options.most_of_all ≡ None → Opens (g.I.Inputs.opened c.args.inputs.now) (g.I.Inputs.opened c.run_with-ended.new.inputs) (opened_in options)) × TellsNothing options c.args.streams.now c.exit_status.new.streams) = λ run files known.
    let status_is = subst (λ (quiet : Bool). c.exit_status.result ≡ status_after ended (not c.is_empty.result) quiet outcome) (c.is_quiet-quiet.ensures ∙ ap is_quiet run.shown) c.exit_status.ensures.status in
    let done = λ (next : Next) (is : ended ≡ Ok next). of_ok _ ended next is c.run_with-ended.ensures.answered run.check c.restart.ensures.outcome c.restart.ensures.total c.restart.ensures.pending files known in (
      quiet_out g.W.Write.contents (g.I.Inputs.bytes_of c.args.inputs.now) options c.args.colours c.args.streams.now.out c.exit_status.new.streams.out run
          (out_since (IsAnsweredInPart g.W.Write.contents (g.I.Inputs.bytes_of c.args.inputs.now) options c.args.colours) c.args.streams.now.out c.restart.new.self.out c.run_with-ended.new.streams.out c.exit_status.new.streams.out
          c.restart.ensures.out c.exit_status.ensures.out (c.run_with-ended.ensures.in_part run.check c.restart.ensures.total c.restart.ensures.pending files known)),
      (λ few.
          let well = ended_quietly ended (not c.is_empty.result) outcome c.exit_status.result status_is few in
          quiet_found g.W.Write.contents (g.I.Inputs.bytes_of c.args.inputs.now) options c.args.colours well.0 (g.I.Inputs.opened c.args.inputs.now) (g.I.Inputs.opened c.run_with-ended.new.inputs) c.restart.new.self c.run_with-ended.new.streams c.exit_status.result run well.2 well.3 (done well.0 well.1)),
      (λ one.
          let well = ended_quietly ended (not c.is_empty.result) outcome c.exit_status.result status_is (omega (arith, one)) in
          let came = done well.0 well.1 in (
            λ all. of_ok _ ended well.0 well.1 c.run_with-ended.ensures.all run.check (all_wanted _ _ well.0 c.run_with-ended.new.streams (quiet_whole _ _ well.0 c.run_with-ended.new.streams (well.3 one).0 came.ends) all came.ends),
            λ silent. untold well.0 well.1 ∙ came.told silent (well.3 one).1 ∙ c.restart.ensures.err,
          )),
    ) in
    let checked : options.check ≡ true → AreKnown (g.I.Inputs.bytes_of c.args.inputs.now) (path_files_in options) → c.exit_status.result ≤ 1 → IsChecked g.W.Write.contents (g.I.Inputs.bytes_of c.args.inputs.now) options c.args.inputs.now c.run_with-ended.new.inputs c.args.streams.now.out c.exit_status.new.streams.out c.exit_status.result
    × TellsNothing options c.args.streams.now c.exit_status.new.streams = λ run known few.
    let well = ended_checked ended _ _ outcome c.exit_status.result c.exit_status.ensures.status few in
    let done = of_ok _ ended well.0 well.1 c.run_with-ended.ensures.checked run c.restart.ensures.outcome c.restart.ensures.pending known in (
      check_ended g.W.Write.contents (g.I.Inputs.bytes_of c.args.inputs.now) options c.args.inputs.now c.run_with-ended.new.inputs c.args.streams.now.out c.restart.new.self.out c.run_with-ended.new.streams.out c.exit_status.new.streams.out outcome c.exit_status.result
          c.restart.ensures.out c.exit_status.ensures.out (well.2 done.ends ∙ sym done.ends) done,
      λ silent. untold well.0 well.1 ∙ of_ok _ ended well.0 well.1 c.run_with-ended.ensures.check_told run silent ∙ c.restart.ensures.err,
    ) in
    let in_part : IsPlainRun options → AreKnown (g.I.Inputs.bytes_of c.args.inputs.now) (path_files_in options) → AreKnown (g.I.Inputs.bytes_of c.args.inputs.now) (names_in options)
    → IsAnsweredInPart g.W.Write.contents (g.I.Inputs.bytes_of c.args.inputs.now) options c.args.colours c.args.streams.now.out c.exit_status.new.streams.out = λ run files known.
    out_since (IsAnsweredInPart g.W.Write.contents (g.I.Inputs.bytes_of c.args.inputs.now) options c.args.colours) c.args.streams.now.out c.restart.new.self.out c.run_with-ended.new.streams.out c.exit_status.new.streams.out
    c.restart.ensures.out c.exit_status.ensures.out (c.run_with-ended.ensures.in_part run.check c.restart.ensures.total c.restart.ensures.pending files known) in
    let checked_in_part : options.check ≡ true → AreKnown (g.I.Inputs.bytes_of c.args.inputs.now) (path_files_in options) → IsCheckedInPart g.W.Write.contents (g.I.Inputs.bytes_of c.args.inputs.now) options c.args.streams.now.out c.exit_status.new.streams.out = λ run known.
    out_since (IsCheckedInPart g.W.Write.contents (g.I.Inputs.bytes_of c.args.inputs.now) options) c.args.streams.now.out c.restart.new.self.out c.run_with-ended.new.streams.out c.exit_status.new.streams.out
    c.restart.ensures.out c.exit_status.ensures.out (c.run_with-ended.ensures.checked_in_part run c.restart.ensures.pending known) in
    let opens = opens_ended ended _ _ outcome c.exit_status.result options (g.I.Inputs.opened c.args.inputs.now) (g.I.Inputs.opened c.run_with-ended.new.inputs) c.exit_status.ensures.status c.run_with-ended.ensures.opens c.run_with-ended.ensures.in_order in
    inl (c.in-Ok-Run.field-0, rw c.in-Ok-Run.is at c.read.ensures, rw c.in-Ok-Run.field-0-is (status, (λ run files known. (answered run files known, in_part run files known)), found, (λ run known. (checked run known, checked_in_part run known)), opens))

pub returns-in-Ok-Print-clause-comes : goal.returns-in-Ok-Print-clause-comes
returns-in-Ok-Print-clause-comes g c =
    let printed = printed_since g.W.Write.contents g.E.Write.contents _ c.args.streams.now c.restart.new.self c.print.new.streams c.print.result c.restart.ensures.out c.restart.ensures.err c.print.ensures in
    inl (c.in-Ok-Print.field-0, rw c.in-Ok-Print.is at c.read.ensures, rw c.in-Ok-Print.field-0-is (refl, printed))

pub returns-in-Ok-WrongUse-clause-comes : goal.returns-in-Ok-WrongUse-clause-comes
returns-in-Ok-WrongUse-clause-comes g c =
    let out = ap (λ (s : Streams g.row.W.Denot g.row.E.Denot). s.out) c.tell.ensures.kept ∙ c.restart.ensures.out in
    let told = subst (λ (e : g.row.E.Denot). AppendsBeginning (g.E.Write.contents e) (g.E.Write.contents c.tell.new.self.err) (string_bytes c.in-Ok-WrongUse.text)) c.restart.ensures.err
    (subst (λ (t : List ℕ). AppendsBeginning (g.E.Write.contents c.restart.new.self.err) (g.E.Write.contents c.tell.new.self.err) t) c.as_str.ensures.value c.tell.ensures.told) in
    inl (c.in-Ok-WrongUse.field-0, rw c.in-Ok-WrongUse.is at c.read.ensures, rw c.in-Ok-WrongUse.field-0-is (refl, refl, out, told))

pub returns-in-Ok-Run-clause-one_of : goal.returns-in-Ok-Run-clause-one_of
returns-in-Ok-Run-clause-one_of g c =
    let few = one_of_few c.run_with-ended.result _ _ c.run_with-ended.new.streams.outcome c.exit_status.result c.exit_status.ensures.status in
    elim few [
      | inl few ↦ inl few
      | inr wrong ↦ inr wrong.0
    ]
