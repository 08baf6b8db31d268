use Rattle.jpq_program.proofs.Words.{◌≡◌, ◌∙◌, ◌+◌, List, ℕ, JsonPath, ap, inl, refl, subst, arith, common_steps, nat_lt, builtin_functions, look_after, look_of, AnswersPath, AskedPath, Begins, IsAnswerInPart, IsAnswerOn, drop, head_by, map, suc}
use Rattle.jpq_program.proofs.Shown.{all_answered, each_nothing, mapped_begun, mapped_further, none_answered, rest_begun}
use Rattle.jpq_program.proofs.answering.Answering.answer_each.Goals as goal

pub loop-index-init : goal.loop-index-init
loop-index-init g c = λ are has.
    let head = head_by c.args.self.now.showing.output c.args.self.now.heads c.args.document.source.name.now c.args.document.source.line in
    none_answered g.W.Write.contents (λ number so_far path. IsAnswerOn builtin_functions path (look_after (look_of c.args.self.now.showing) so_far) (nat_lt c.args.streams.now.total so_far) (head number) c.args.document.bytes.now)
    (λ number so_far path. IsAnswerInPart builtin_functions path (look_after (look_of c.args.self.now.showing) so_far) (nat_lt c.args.streams.now.total so_far) (head number) c.args.document.bytes.now) 1 c.args.streams.now.total c.args.streams.now

pub loop-index-preserved : goal.loop-index-preserved
loop-index-preserved g c = λ are has.
    let head = head_by c.args.self.now.showing.output c.args.self.now.heads c.args.document.source.name.now c.args.document.source.line in
    let path = c.path-item.result in
    let number : c.saturating_add.result ≡ c.loop-index.index + 1 = grind (arith, common_steps, c.saturating_add.ensures) in
    let here = are c.loop-index.index path c.loop-index-test.true c.path-item.is in
    let head_is = c.as_str.ensures.value ∙ c.in_ok-head.ensures ∙ ap head number in
    mapped_further g.W.Write.contents (λ number so_far path. IsAnswerOn builtin_functions path (look_after (look_of c.args.self.now.showing) so_far) (nat_lt c.args.streams.now.total so_far) (head number) c.args.document.bytes.now)
    (λ number so_far path. IsAnswerInPart builtin_functions path (look_after (look_of c.args.self.now.showing) so_far) (nat_lt c.args.streams.now.total so_far) (head number) c.args.document.bytes.now) (λ (path : AskedPath). path.path)
    c.args.self.now.paths.now c.loop-index.index path c.args.streams.now c.loop-index.streams c.answer_path.new.streams c.loop-index-test.true c.path-item.is (c.loop-index.invariant are has)
    (subst (λ (h : List ℕ). AnswersPath c.args.self.now.silent g.W.Write.contents path.path (look_after (look_of c.args.self.now.showing) c.loop-index.streams.total) (nat_lt c.args.streams.now.total c.loop-index.streams.total) h c.args.document.bytes.now c.loop-index.streams c.answer_path.new.streams) head_is
    (c.in_ok-answer_path.ensures.answered here has))

pub returns-clause-answered : goal.returns-clause-answered
returns-clause-answered g c = λ are has.
    let head = head_by c.args.self.now.showing.output c.args.self.now.heads c.args.document.source.name.now c.args.document.source.line in
    all_answered g.W.Write.contents (λ number so_far path. IsAnswerOn builtin_functions path (look_after (look_of c.args.self.now.showing) so_far) (nat_lt c.args.streams.now.total so_far) (head number) c.args.document.bytes.now)
    (λ number so_far path. IsAnswerInPart builtin_functions path (look_after (look_of c.args.self.now.showing) so_far) (nat_lt c.args.streams.now.total so_far) (head number) c.args.document.bytes.now) (λ (path : AskedPath). path.path)
    c.args.self.now.paths.now c.loop-index.index c.args.streams.now c.loop-index.streams c.loop-index-test.false (c.loop-index.invariant are has)

-- of the paths that are left nothing is shown
pub returns-clause-begun : goal.returns-clause-begun
returns-clause-begun g c = λ are has.
    let head = head_by c.args.self.now.showing.output c.args.self.now.heads c.args.document.source.name.now c.args.document.source.line in
    rest_begun g.W.Write.contents (λ number so_far path. IsAnswerOn builtin_functions path (look_after (look_of c.args.self.now.showing) so_far) (nat_lt c.args.streams.now.total so_far) (head number) c.args.document.bytes.now)
    (λ number so_far path. IsAnswerInPart builtin_functions path (look_after (look_of c.args.self.now.showing) so_far) (nat_lt c.args.streams.now.total so_far) (head number) c.args.document.bytes.now) (λ (path : AskedPath). path.path)
    c.args.self.now.paths.now c.loop-index.index c.args.streams.now c.loop-index.streams (λ number so_far path. inl (refl, refl)) (c.loop-index.invariant are has)

pub returns-in_err-head-clause-begun : goal.returns-in_err-head-clause-begun
returns-in_err-head-clause-begun g c = λ are has.
    let head = head_by c.args.self.now.showing.output c.args.self.now.heads c.args.document.source.name.now c.args.document.source.line in
    rest_begun g.W.Write.contents (λ number so_far path. IsAnswerOn builtin_functions path (look_after (look_of c.args.self.now.showing) so_far) (nat_lt c.args.streams.now.total so_far) (head number) c.args.document.bytes.now)
    (λ number so_far path. IsAnswerInPart builtin_functions path (look_after (look_of c.args.self.now.showing) so_far) (nat_lt c.args.streams.now.total so_far) (head number) c.args.document.bytes.now) (λ (path : AskedPath). path.path)
    c.args.self.now.paths.now c.loop-index.index c.args.streams.now c.loop-index.streams (λ number so_far path. inl (refl, refl)) (c.loop-index.invariant are has)

pub returns-in_err-answer_path-clause-begun : goal.returns-in_err-answer_path-clause-begun
returns-in_err-answer_path-clause-begun g c = λ are has.
    let head = head_by c.args.self.now.showing.output c.args.self.now.heads c.args.document.source.name.now c.args.document.source.line in
    let path = c.path-item.result in
    let number : c.saturating_add.result ≡ c.loop-index.index + 1 = grind (arith, common_steps, c.saturating_add.ensures) in
    let head_is = c.as_str.ensures.value ∙ c.in_ok-head.ensures ∙ ap head number in
    let InPart : ℕ → ℕ → JsonPath → List ℕ → ℕ → Type 0 = (λ number so_far path. IsAnswerInPart builtin_functions path (look_after (look_of c.args.self.now.showing) so_far) (nat_lt c.args.streams.now.total so_far) (head number) c.args.document.bytes.now) in
    mapped_begun g.W.Write.contents (λ number so_far path. IsAnswerOn builtin_functions path (look_after (look_of c.args.self.now.showing) so_far) (nat_lt c.args.streams.now.total so_far) (head number) c.args.document.bytes.now) InPart (λ (path : AskedPath). path.path)
    c.args.self.now.paths.now c.loop-index.index path c.args.streams.now c.loop-index.streams c.answer_path.new.streams (λ number so_far. each_nothing InPart so_far (map (λ (path : AskedPath). path.path) (drop (suc c.loop-index.index) c.args.self.now.paths.now)) (λ number path. inl (refl, refl)) number)
    c.loop-index-test.true c.path-item.is (c.loop-index.invariant are has)
    (subst (λ (h : List ℕ). Begins g.W.Write.contents (IsAnswerInPart builtin_functions path.path (look_after (look_of c.args.self.now.showing) c.loop-index.streams.total) (nat_lt c.args.streams.now.total c.loop-index.streams.total) h c.args.document.bytes.now) c.loop-index.streams c.answer_path.new.streams) head_is
    (c.answer_path.ensures.begun (are c.loop-index.index path c.loop-index-test.true c.path-item.is) has))
