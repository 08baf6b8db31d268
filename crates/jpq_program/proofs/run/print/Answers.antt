use Rattle.jpq_program.proofs.Words.{ap, refl, Bool, Streams, string_bytes, true, ◌∙◌}
use Rattle.jpq_program.proofs.Ended.{printed_part, printed_whole}
use Rattle.jpq_program.proofs.run.print.Goals as goal

pub returns-in-Ok : goal.returns-in-Ok
returns-in-Ok g c =
    let kept = c.write.ensures.kept in
    printed_whole g.W.Write.contents g.E.Write.contents (string_bytes c.args.text) c.args.streams.now c.write.new.self c.exit_status.new.streams c.exit_status.result c.in-Ok.ensures.whole c.in-Ok.ensures.all
    (ap (λ (s : Streams g.row.W.Denot g.row.E.Denot). s.outcome) kept ∙ ap (λ (refused : Bool). record { selected = true; refused = refused }) c.requires)
    (ap (λ (s : Streams g.row.W.Denot g.row.E.Denot). s.err) kept) c.exit_status.ensures.status c.exit_status.ensures.out (c.exit_status.ensures.quiet refl)

pub returns-in-Err : goal.returns-in-Err
returns-in-Err g c =
    printed_part g.W.Write.contents g.E.Write.contents (string_bytes c.args.text) c.args.streams.now c.write.new.self c.exit_status-in-Err.new.streams c.in-Err.stop c.exit_status-in-Err.result c.write.ensures.beginning c.in-Err.ensures.failed
    (ap (λ (s : Streams g.row.W.Denot g.row.E.Denot). s.err) c.write.ensures.kept) c.exit_status-in-Err.ensures.status c.exit_status-in-Err.ensures.out c.exit_status-in-Err.ensures.told
