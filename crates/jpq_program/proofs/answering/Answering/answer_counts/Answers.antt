use Rattle.jpq_program.proofs.Words.{◌≡◌, ◌∙◌, ◌+◌, List, ℕ, ap, refl, subst, arith, common_steps, nat_lt, builtin_functions, look_after, look_of, AnswersPath, AskedPath, IsAnswerInPart, IsAnswerOn, head_by}
use Rattle.jpq_program.proofs.Shown.{all_answered, mapped_further, none_answered}
use Rattle.jpq_program.proofs.answering.Answering.answer_counts.Goals as goal

pub loop-index-init : goal.loop-index-init
loop-index-init g c =
    let head = head_by c.args.self.now.showing.output c.args.self.now.heads c.args.document.source.name.now c.args.document.source.line in (
      refl,
      λ are counts. none_answered g.W.Write.contents (λ number so_far path. IsAnswerOn builtin_functions path (look_after (look_of c.args.self.now.showing) so_far) (nat_lt c.args.streams.now.total so_far) (head number) c.args.document.bytes.now)
          (λ number so_far path. IsAnswerInPart builtin_functions path (look_after (look_of c.args.self.now.showing) so_far) (nat_lt c.args.streams.now.total so_far) (head number) c.args.document.bytes.now) 1 c.args.streams.now.total c.args.streams.now,
    )

pub loop-index-preserved : goal.loop-index-preserved
loop-index-preserved g c =
    let head = head_by c.args.self.now.showing.output c.args.self.now.heads c.args.document.source.name.now c.args.document.source.line in
    let path = c.path-item.result in
    let number : c.saturating_add.result ≡ c.loop-index.index + 1 = grind (arith, common_steps, c.saturating_add.ensures) in (
      c.answer_count.ensures.unwritten ∙ c.loop-index.invariant.0,
      λ are counts.
          let here = are c.loop-index.index path c.loop-index-test.true c.path-item.is in
          let first = c.loop-index.invariant.1 are counts in
          let second = c.in_ok-answer_count.ensures.answered here counts (nat_lt c.args.streams.now.total c.loop-index.streams.total) in
          let head_is = c.as_str.ensures.value ∙ c.in_ok-head.ensures ∙ ap head number in
          mapped_further g.W.Write.contents (λ number so_far path. IsAnswerOn builtin_functions path (look_after (look_of c.args.self.now.showing) so_far) (nat_lt c.args.streams.now.total so_far) (head number) c.args.document.bytes.now)
          (λ number so_far path. IsAnswerInPart builtin_functions path (look_after (look_of c.args.self.now.showing) so_far) (nat_lt c.args.streams.now.total so_far) (head number) c.args.document.bytes.now) (λ (path : AskedPath). path.path)
          c.args.self.now.paths.now c.loop-index.index path c.args.streams.now c.loop-index.streams c.answer_count.new.streams c.loop-index-test.true c.path-item.is first
          (subst (λ (h : List ℕ). AnswersPath c.args.self.now.silent g.W.Write.contents path.path (look_after (look_of c.args.self.now.showing) c.loop-index.streams.total) (nat_lt c.args.streams.now.total c.loop-index.streams.total) h c.args.document.bytes.now c.loop-index.streams c.answer_count.new.streams) head_is second),
    )

pub returns-clause-answered : goal.returns-clause-answered
returns-clause-answered g c = λ are counts.
    let head = head_by c.args.self.now.showing.output c.args.self.now.heads c.args.document.source.name.now c.args.document.source.line in
    all_answered g.W.Write.contents (λ number so_far path. IsAnswerOn builtin_functions path (look_after (look_of c.args.self.now.showing) so_far) (nat_lt c.args.streams.now.total so_far) (head number) c.args.document.bytes.now)
    (λ number so_far path. IsAnswerInPart builtin_functions path (look_after (look_of c.args.self.now.showing) so_far) (nat_lt c.args.streams.now.total so_far) (head number) c.args.document.bytes.now) (λ (path : AskedPath). path.path)
    c.args.self.now.paths.now c.loop-index.index c.args.streams.now c.loop-index.streams c.loop-index-test.false (c.loop-index.invariant.1 are counts)
