use Rattle.jpq_program.proofs.Words.{◌∙◌, ◌+◌, [], ℕ, ap, drop, is_whole, map-append, take, take-append-drop, take_all, AreInputsShown, Bor, Ends, Enough, IsNamedShown, List, More, Next, map, refl, subst, sym, wanted_by, wanted_in_part_by}
use Rattle.jpq_program.proofs.Opened.{opens_all, opens_further, opens_none, opens_some}
use Rattle.jpq_program.proofs.Sending.{enough_answer, enough_at, goes_on, input_begun, input_sent, input_until, no_answer, no_named}
use Rattle.jpq_program.proofs.Shown.{all_answered, answered_begun, none_answered, nothing_begun, nothing_shown}
use Rattle.jpq_program.proofs.Wanted.{all_wanted_of, enough_opened, some_wanted, wanted_further}
use Rattle.jpq_program.specs.Inputs.{AreWanted}
use Rattle.jpq_program.proofs.documents.Documents.answer_all.Goals as goal

abbrev names_of : List (Bor (List ℕ)) → List (List ℕ)
names_of names = map (λ (name : Bor (List ℕ)). name.now) names

-- there are enough before the first input
pub returns-then-is_done-clause-opens : goal.returns-then-is_done-clause-opens
returns-then-is_done-clause-opens g c = opens_some c.args.names.now 0 (g.I.Inputs.opened c.args.inputs.now) (g.I.Inputs.opened c.args.inputs.now) (opens_none (g.I.Inputs.opened c.args.inputs.now))

pub returns-then-is_done-clause-answered : goal.returns-then-is_done-clause-answered
returns-then-is_done-clause-answered g c = λ reads empty known.
    let enough = sym c.is_done.ensures ∙ c.if-is_done.true in
    let Is = AreInputsShown (wanted_by c.args.self.now.answering) c.args.self.now.lines (g.I.Inputs.bytes_of c.args.inputs.now) (map (λ (name : Bor (List ℕ)). name.now) c.args.names.now) c.args.streams.now.total in
    let IsPart = AreInputsShown (wanted_in_part_by c.args.self.now.answering) c.args.self.now.lines (g.I.Inputs.bytes_of c.args.inputs.now) (map (λ (name : Bor (List ℕ)). name.now) c.args.names.now) c.args.streams.now.total in
    goes_on g.W.Write.contents c.args.self.now.answering.showing.output.form c.args.self.now.answering.showing.most_of_all Is IsPart Enough c.args.streams.now c.args.streams.now enough (
      nothing_shown g.W.Write.contents Is IsPart c.args.streams.now (no_named (wanted_by c.args.self.now.answering) c.args.self.now.lines (g.I.Inputs.bytes_of c.args.inputs.now) (map (λ (name : Bor (List ℕ)). name.now) c.args.names.now) c.args.streams.now.total (enough_answer c.args.self.now.answering c.args.streams.now.total enough) known 1)
          (no_named (wanted_in_part_by c.args.self.now.answering) c.args.self.now.lines (g.I.Inputs.bytes_of c.args.inputs.now) (map (λ (name : Bor (List ℕ)). name.now) c.args.names.now) c.args.streams.now.total (λ name number bytes. no_answer c.args.self.now.answering name number bytes c.args.streams.now.total) known 1),
      empty,
    )

pub returns-then-is_done-clause-begun : goal.returns-then-is_done-clause-begun
returns-then-is_done-clause-begun g c = λ reads empty known.
    nothing_begun g.W.Write.contents (AreInputsShown (wanted_in_part_by c.args.self.now.answering) c.args.self.now.lines (g.I.Inputs.bytes_of c.args.inputs.now) (map (λ (name : Bor (List ℕ)). name.now) c.args.names.now) c.args.streams.now.total) c.args.streams.now c.args.streams.now
    (no_named (wanted_in_part_by c.args.self.now.answering) c.args.self.now.lines (g.I.Inputs.bytes_of c.args.inputs.now) (map (λ (name : Bor (List ℕ)). name.now) c.args.names.now) c.args.streams.now.total (λ name number bytes. no_answer c.args.self.now.answering name number bytes c.args.streams.now.total) known 1) refl

-- ---- one input after the other

pub loop-name-init : goal.loop-name-init
loop-name-init g c = (
  λ name. refl,
  opens_none (g.I.Inputs.opened c.args.inputs.now),
  λ reads empty known. (
    (none_answered g.W.Write.contents (λ number so_far name. IsNamedShown (wanted_by c.args.self.now.answering) c.args.self.now.lines (g.I.Inputs.bytes_of c.args.inputs.now) name so_far) (λ number so_far name. IsNamedShown (wanted_in_part_by c.args.self.now.answering) c.args.self.now.lines (g.I.Inputs.bytes_of c.args.inputs.now) name so_far) 1 c.args.streams.now.total c.args.streams.now, empty),
    sym c.is_done.ensures ∙ c.if-is_done.false,
  ),
  λ reads empty known right. (λ names opened are. are),
)

pub loop-name-preserved : goal.loop-name-preserved
loop-name-preserved g c =
    let same = c.loop-name.invariant.0 in
    let ensures = c.in_ok-ended.ensures in (
      λ name. ensures.same name ∙ same name,
      opens_further c.args.names.now c.loop-name.name-index _ (g.I.Inputs.opened c.args.inputs.now) (g.I.Inputs.opened c.loop-name.inputs) (g.I.Inputs.opened c.answer_input.new.inputs) c.loop-name-test.true c.loop-name.invariant.1 ensures.opens,
      λ reads empty known.
          let before = c.loop-name.invariant.2 reads empty known in
          let sent = input_sent g.W.Write.contents c.args.self.now.answering.showing.output.form c.args.self.now.answering.showing.most_of_all (wanted_by c.args.self.now.answering) (wanted_in_part_by c.args.self.now.answering) c.args.self.now.lines (g.I.Inputs.bytes_of c.args.inputs.now) (g.I.Inputs.bytes_of c.loop-name.inputs) c.args.names.now c.loop-name.name-index
          _ c.in_ok-ended.ended c.args.streams.now c.loop-name.streams c.answer_input.new.streams (ap is_whole c.in-More.is) c.loop-name-test.true same known (ensures.answered reads before.1 before.0.1) before.0.0 in
          (sent.1, subst (λ (next : Next). Ends c.args.self.now.answering.showing.output.form c.args.self.now.answering.showing.most_of_all next c.answer_input.new.streams) c.in-More.is sent.0),
      λ reads empty known right.
          let before = c.loop-name.invariant.2 reads empty known in
          wanted_further c.args.self.now.answering.silent g.W.Write.contents c.args.self.now.answering.showing.output.form c.args.self.now.answering.showing.most_of_all (wanted_by c.args.self.now.answering) (wanted_in_part_by c.args.self.now.answering) c.args.self.now.lines (g.I.Inputs.bytes_of c.args.inputs.now) (g.I.Inputs.bytes_of c.loop-name.inputs) c.args.names.now c.loop-name.name-index
          _ c.in_ok-ended.ended c.args.streams.now.total c.loop-name.streams c.answer_input.new.streams (ap is_whole c.in-More.is) c.loop-name-test.true same known (ensures.answered reads before.1 before.0.1) before.1 right (c.loop-name.invariant.3 reads empty known),
    )

pub returns-clause-opens : goal.returns-clause-opens
returns-clause-opens g c = opens_some c.args.names.now c.loop-name.name-index (g.I.Inputs.opened c.args.inputs.now) (g.I.Inputs.opened c.loop-name.inputs) c.loop-name.invariant.1

pub returns-clause-all : goal.returns-clause-all
returns-clause-all g c = λ more. opens_all c.args.names.now c.loop-name.name-index (g.I.Inputs.opened c.args.inputs.now) (g.I.Inputs.opened c.loop-name.inputs) c.loop-name-test.false c.loop-name.invariant.1

pub returns-clause-answered : goal.returns-clause-answered
returns-clause-answered g c = λ reads empty known.
    let sent = c.loop-name.invariant.2 reads empty known in
    goes_on g.W.Write.contents c.args.self.now.answering.showing.output.form c.args.self.now.answering.showing.most_of_all _ _ More c.args.streams.now c.loop-name.streams sent.1 (
      all_answered g.W.Write.contents (λ number so_far name. IsNamedShown (wanted_by c.args.self.now.answering) c.args.self.now.lines (g.I.Inputs.bytes_of c.args.inputs.now) name so_far) (λ number so_far name. IsNamedShown (wanted_in_part_by c.args.self.now.answering) c.args.self.now.lines (g.I.Inputs.bytes_of c.args.inputs.now) name so_far) (λ (name : Bor (List ℕ)). name.now)
          c.args.names.now c.loop-name.name-index c.args.streams.now c.loop-name.streams c.loop-name-test.false sent.0.0,
      sent.0.1,
    )

pub returns-in_default-clause-opens : goal.returns-in_default-clause-opens
returns-in_default-clause-opens g c = opens_some c.args.names.now (c.loop-name.name-index + 1) (g.I.Inputs.opened c.args.inputs.now) (g.I.Inputs.opened c.answer_input.new.inputs)
    (opens_further c.args.names.now c.loop-name.name-index _ (g.I.Inputs.opened c.args.inputs.now) (g.I.Inputs.opened c.loop-name.inputs) (g.I.Inputs.opened c.answer_input.new.inputs) c.loop-name-test.true c.loop-name.invariant.1 c.answer_input.ensures.opens)

pub returns-in_err-ended-clause-opens : goal.returns-in_err-ended-clause-opens
returns-in_err-ended-clause-opens g c = opens_some c.args.names.now (c.loop-name.name-index + 1) (g.I.Inputs.opened c.args.inputs.now) (g.I.Inputs.opened c.answer_input.new.inputs)
    (opens_further c.args.names.now c.loop-name.name-index _ (g.I.Inputs.opened c.args.inputs.now) (g.I.Inputs.opened c.loop-name.inputs) (g.I.Inputs.opened c.answer_input.new.inputs) c.loop-name-test.true c.loop-name.invariant.1 c.answer_input.ensures.opens)

pub returns-in_default-clause-all : goal.returns-in_default-clause-all
returns-in_default-clause-all g c = λ more. absurd (c.in_default.not-More more)

pub returns-in_default-clause-answered : goal.returns-in_default-clause-answered
returns-in_default-clause-answered g c = λ reads empty known.
    let before = c.loop-name.invariant.2 reads empty known in
    input_until g.W.Write.contents c.args.self.now.answering.showing.output.form c.args.self.now.answering.showing.most_of_all (wanted_by c.args.self.now.answering) (wanted_in_part_by c.args.self.now.answering) c.args.self.now.lines (g.I.Inputs.bytes_of c.args.inputs.now) (g.I.Inputs.bytes_of c.loop-name.inputs) c.args.names.now c.loop-name.name-index
    _ c.in_ok-ended.ended c.args.streams.now c.loop-name.streams c.answer_input.new.streams (λ whole enough. enough_answer c.args.self.now.answering c.answer_input.new.streams.total enough) (no_answer c.args.self.now.answering) c.in_default.not-More
    c.loop-name-test.true c.loop-name.invariant.0 known (c.in_ok-ended.ensures.answered reads before.1 before.0.1) before.0.0

-- ---- of what a beginning is out, however it ends

pub returns-in_default-clause-begun : goal.returns-in_default-clause-begun
returns-in_default-clause-begun g c = λ reads empty known.
    let before = c.loop-name.invariant.2 reads empty known in
    input_begun g.W.Write.contents (wanted_by c.args.self.now.answering) (wanted_in_part_by c.args.self.now.answering) c.args.self.now.lines (g.I.Inputs.bytes_of c.args.inputs.now) (g.I.Inputs.bytes_of c.loop-name.inputs) c.args.names.now c.loop-name.name-index
    _ c.args.streams.now c.loop-name.streams c.answer_input.new.streams (no_answer c.args.self.now.answering) c.loop-name-test.true c.loop-name.invariant.0 known (c.answer_input.ensures.begun reads before.1 before.0.1) before.0.0

pub returns-in_err-ended-clause-begun : goal.returns-in_err-ended-clause-begun
returns-in_err-ended-clause-begun g c = λ reads empty known.
    let before = c.loop-name.invariant.2 reads empty known in
    input_begun g.W.Write.contents (wanted_by c.args.self.now.answering) (wanted_in_part_by c.args.self.now.answering) c.args.self.now.lines (g.I.Inputs.bytes_of c.args.inputs.now) (g.I.Inputs.bytes_of c.loop-name.inputs) c.args.names.now c.loop-name.name-index
    _ c.args.streams.now c.loop-name.streams c.answer_input.new.streams (no_answer c.args.self.now.answering) c.loop-name-test.true c.loop-name.invariant.0 known (c.answer_input.ensures.begun reads before.1 before.0.1) before.0.0

pub returns-clause-begun : goal.returns-clause-begun
returns-clause-begun g c = λ reads empty known.
    let sent = returns-clause-answered g c reads empty known in
    answered_begun g.W.Write.contents _ _ c.args.streams.now c.loop-name.streams sent.1.0

-- ---- which were opened

pub returns-then-is_done-clause-wanted : goal.returns-then-is_done-clause-wanted
returns-then-is_done-clause-wanted g c = λ whole right reads empty known. (
  [],
  enough_opened c.args.self.now.answering.showing.most_of_all (IsNamedShown (wanted_by c.args.self.now.answering) c.args.self.now.lines (g.I.Inputs.bytes_of c.args.inputs.now)) c.args.streams.now.total _ (sym c.is_done.ensures ∙ c.if-is_done.true),
  opens_none (g.I.Inputs.opened c.args.inputs.now),
)

pub returns-clause-wanted : goal.returns-clause-wanted
returns-clause-wanted g c = λ whole right reads empty known.
    let all = ap names_of (take_all c.loop-name.name-index c.args.names.now c.loop-name-test.false) in (
      names_of c.args.names.now,
      subst (λ (names : List (List ℕ)). AreWanted c.args.self.now.answering.showing.most_of_all (IsNamedShown (wanted_by c.args.self.now.answering) c.args.self.now.lines (g.I.Inputs.bytes_of c.args.inputs.now)) c.args.streams.now.total names names) all
          (all_wanted_of c.args.self.now.answering.showing.most_of_all (IsNamedShown (wanted_by c.args.self.now.answering) c.args.self.now.lines (g.I.Inputs.bytes_of c.args.inputs.now)) c.args.streams.now.total c.loop-name.streams.total _ (c.loop-name.invariant.3 reads empty known right)),
      opens_all c.args.names.now c.loop-name.name-index (g.I.Inputs.opened c.args.inputs.now) (g.I.Inputs.opened c.loop-name.inputs) c.loop-name-test.false c.loop-name.invariant.1,
    )

pub returns-in_default-clause-wanted : goal.returns-in_default-clause-wanted
returns-in_default-clause-wanted g c = λ whole right reads empty known.
    let before = c.loop-name.invariant.2 reads empty known in
    let next = c.in_ok-ended.ended in
    let further = wanted_further c.args.self.now.answering.silent g.W.Write.contents c.args.self.now.answering.showing.output.form c.args.self.now.answering.showing.most_of_all (wanted_by c.args.self.now.answering) (wanted_in_part_by c.args.self.now.answering) c.args.self.now.lines (g.I.Inputs.bytes_of c.args.inputs.now) (g.I.Inputs.bytes_of c.loop-name.inputs) c.args.names.now c.loop-name.name-index
    _ next c.args.streams.now.total c.loop-name.streams c.answer_input.new.streams whole c.loop-name-test.true c.loop-name.invariant.0 known (c.in_ok-ended.ensures.answered reads before.1 before.0.1) before.1 right (c.loop-name.invariant.3 reads empty known) in
    let sent = input_sent g.W.Write.contents c.args.self.now.answering.showing.output.form c.args.self.now.answering.showing.most_of_all (wanted_by c.args.self.now.answering) (wanted_in_part_by c.args.self.now.answering) c.args.self.now.lines (g.I.Inputs.bytes_of c.args.inputs.now) (g.I.Inputs.bytes_of c.loop-name.inputs) c.args.names.now c.loop-name.name-index
    _ next c.args.streams.now c.loop-name.streams c.answer_input.new.streams whole c.loop-name-test.true c.loop-name.invariant.0 known (c.in_ok-ended.ensures.answered reads before.1 before.0.1) before.0.0 in
    let enough = enough_at c.args.self.now.answering.showing.output.form c.args.self.now.answering.showing.most_of_all next c.answer_input.new.streams sent.0 c.in_default.not-More whole in (
      names_of (take (c.loop-name.name-index + 1) c.args.names.now),
      some_wanted c.args.self.now.answering.showing.most_of_all (IsNamedShown (wanted_by c.args.self.now.answering) c.args.self.now.lines (g.I.Inputs.bytes_of c.args.inputs.now)) c.args.streams.now.total c.answer_input.new.streams.total _
          (names_of (drop (c.loop-name.name-index + 1) c.args.names.now)) (names_of c.args.names.now) further enough
          (ap names_of (sym (take-append-drop (c.loop-name.name-index + 1) c.args.names.now)) ∙ map-append (λ (name : Bor (List ℕ)). name.now) (take (c.loop-name.name-index + 1) c.args.names.now) (drop (c.loop-name.name-index + 1) c.args.names.now)),
      opens_further c.args.names.now c.loop-name.name-index _ (g.I.Inputs.opened c.args.inputs.now) (g.I.Inputs.opened c.loop-name.inputs) (g.I.Inputs.opened c.answer_input.new.inputs) c.loop-name-test.true c.loop-name.invariant.1 c.answer_input.ensures.opens,
    )
