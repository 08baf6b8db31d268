use Rattle.jpq_program.proofs.Words.{[], Bool, Bor, length, not, ◌==◌, List, ReadsFurther, map, path_lines, subst, take, take_all, ℕ, ◌∙◌, AskedPath, Global, PathReading, Streams, Vec, ap, append-nil, arith, common_steps, has_text, nat_tests, reading_by, refl, sym, true≢false, ◌≡◌}
use Rattle.jpq_program.proofs.Parsed.{line_passed, line_read}
use Rattle.std.specs.List.{filter}
use Rattle.jpq_program.proofs.paths.PathReading.parse_file.Goals as goal
use Rattle.jpq_program.proofs.paths.PathReading.parse_file.Goals.{in-Some+in_ok-push, in_default}

has_unless : (text : List ℕ) (empty : Bool) → empty ≡ (length text == 0) → has_text text ≡ not empty
has_unless text empty is = grind (arith, nat_tests, common_steps)

pub loop-index-init : goal.loop-index-init
loop-index-init g c = (refl, refl, λ right. refl, λ right. ([], sym (append-nil c.args.paths.now.items), tt))

pub loop-index-preserved-then-is_empty : goal.loop-index-preserved-then-is_empty
loop-index-preserved-then-is_empty g c =
    let before = c.loop-index.invariant in (
      before.0,
      before.1,
      before.2,
      λ right. line_passed (reading_by c.args.self.now) c.deref-line-items.result.now c.loop-index.index _ c.args.paths.now.items c.loop-index.paths.items c.loop-index-test.true
          (has_unless _ c.is_empty.result c.is_empty.ensures ∙ ap not c.if-is_empty.true) (before.3 right),
    )

pub loop-index-preserved : goal.loop-index-preserved
loop-index-preserved g c =
    let before = c.loop-index.invariant in
    let reads = c.parse.ensures.kept ∙ ap (λ (r : PathReading). record r { used = c.parse.new.self.used }) before.0 in
    let told = c.parse.ensures.told ∙ ap (λ (s : Streams g.row.W.Denot g.row.E.Denot). record s { err = c.parse.new.streams.err; outcome = record s.outcome { refused = c.parse.new.streams.outcome.refused } }) before.1 in (
      reads,
      told,
      λ right. elim c.match-branch-4.branch [
        | in-Some+in_ok-push w ↦
            let read = rw w.in-Some.is at c.in_ok-path.ensures.read in
            read.0 ∙ before.2 (sym (ap (λ (s : Streams g.row.W.Denot g.row.E.Denot). s.outcome.refused) read.0) ∙ right)
        | in_default w ↦
            let wrong = rw w.in_default.is at c.in_ok-path.ensures.read in
            absurd (true≢false (sym wrong ∙ right))
      ],
      λ right. elim c.match-branch-4.branch [
        | in-Some+in_ok-push w ↦
            let read = rw w.in-Some.is at c.in_ok-path.ensures.read in
            let done = before.3 (sym (ap (λ (s : Streams g.row.W.Denot g.row.E.Denot). s.outcome.refused) read.0) ∙ right) in
            line_read (reading_by c.args.self.now) (reading_by c.loop-index.self) c.deref-line-items.result.now c.loop-index.index _ c.args.paths.now.items c.loop-index.paths.items c.match-branch-4.paths.items w.in-Some.path c.loop-index-test.true
            (has_unless _ c.is_empty.result c.is_empty.ensures ∙ ap not c.if-is_empty.false) (ap reading_by before.0) (ap (λ (v : Vec AskedPath Global). v.items) w.paths-is ∙ w.in_ok-push.ensures.items) done read.1
        | in_default w ↦
            let wrong = rw w.in_default.is at c.in_ok-path.ensures.read in
            absurd (true≢false (sym wrong ∙ right))
      ],
    )

pub returns-clause-read : goal.returns-clause-read
returns-clause-read g c = λ right.
    let lines = c.deref-line-items.result.now in
    let all : map (λ (line : Bor (List ℕ)). line.now) (take c.loop-index.index lines) ≡ path_lines c.args.text.now =
    ap (map (λ (line : Bor (List ℕ)). line.now)) (take_all c.loop-index.index lines c.loop-index-test.false ∙ c.deref-line-items.ensures.value) ∙ c.in_ok-lines.ensures in
    subst (λ (texts : List (List ℕ)). ReadsFurther (reading_by c.args.self.now) (filter has_text texts) c.args.paths.now.items c.loop-index.paths.items) all (c.loop-index.invariant.3 right)
