use Rattle.jpq_program.proofs.Words.{◌∙◌, ap, sym, AskedPath, Global, PathReading, Streams, Vec, reading_by, true≢false}
use Rattle.jpq_program.proofs.Parsed.{paths_further}
use Rattle.jpq_program.proofs.paths.PathReading.parse_words.Goals as goal
use Rattle.jpq_program.proofs.paths.PathReading.parse_words.Goals.{in-Some+in_ok-push, in_default}

pub loop-index-preserved : goal.loop-index-preserved
loop-index-preserved g c =
    let reads = c.parse.ensures.kept ∙ ap (λ (r : PathReading). record r { used = c.parse.new.self.used }) c.loop-index.invariant.0 in
    let told = c.parse.ensures.told ∙ ap (λ (s : Streams g.row.W.Denot g.row.E.Denot). record s { err = c.parse.new.streams.err; outcome = record s.outcome { refused = c.parse.new.streams.outcome.refused } }) c.loop-index.invariant.1 in (
      reads,
      told,
      λ right. elim c.match-branch-3.branch [
        | in-Some+in_ok-push w ↦
            let read = rw w.in-Some.is at c.in_ok-path.ensures.read in
            read.0 ∙ c.loop-index.invariant.2 (sym (ap (λ (s : Streams g.row.W.Denot g.row.E.Denot). s.outcome.refused) read.0) ∙ right)
        | in_default w ↦
            let wrong = rw w.in_default.is at c.in_ok-path.ensures.read in
            absurd (true≢false (sym wrong ∙ right))
      ],
      λ start refused. elim c.match-branch-3.branch [
        | in-Some+in_ok-push w ↦
            let read = rw w.in-Some.is at c.in_ok-path.ensures.read in
            let before = sym (ap (λ (s : Streams g.row.W.Denot g.row.E.Denot). s.outcome.refused) read.0) ∙ refused in
            let are = c.loop-index.invariant.3 start before in
            paths_further (reading_by c.args.self.now) (reading_by c.loop-index.self) c.args.texts.now c.loop-index.index _ c.loop-index.paths.items c.match-branch-3.paths.items w.in-Some.path c.loop-index-test.true
            (ap reading_by c.loop-index.invariant.0) (ap (λ (v : Vec AskedPath Global). v.items) w.paths-is ∙ w.in_ok-push.ensures.items) are read.1
        | in_default w ↦
            let wrong = rw w.in_default.is at c.in_ok-path.ensures.read in
            absurd (true≢false (sym wrong ∙ refused))
      ],
    )
