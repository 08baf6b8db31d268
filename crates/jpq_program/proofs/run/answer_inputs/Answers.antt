use Rattle.jpq_program.proofs.Words.{◌≡◌, ◌∙◌, Bor, IfOk-weaker, List, ℕ, arith, ap, common_steps, false, length, map, nat_eq, nat_tests, subst, sym, true, AreInputsShown, AreKnown, Begins, Opens, OpensFirst, SendsInputs, wanted_in_part_by}
use Rattle.jpq_program.specs.Inside.{OpensBy}
use Rattle.jpq_program.proofs.Parsed.{none_named, some_named}
use Rattle.jpq_program.proofs.run.answer_inputs.Goals as goal

pub returns-then-is_empty-clause-opens : goal.returns-then-is_empty-clause-opens
returns-then-is_empty-clause-opens g c =
    let none : nat_eq (length c.args.options.now.files.items) 0 ≡ true = grind (arith, nat_tests, common_steps, c.is_empty.ensures, c.if-is_empty.true) in
    subst (OpensFirst (g.I.Inputs.opened c.args.inputs.now) (g.I.Inputs.opened c.answer_all.new.inputs)) (sym (none_named c.args.options.now none)) c.answer_all.ensures.opens

pub returns-else-is_empty-clause-opens : goal.returns-else-is_empty-clause-opens
returns-else-is_empty-clause-opens g c =
    let some : nat_eq (length c.args.options.now.files.items) 0 ≡ false = grind (arith, nat_tests, common_steps, c.is_empty.ensures, c.if-is_empty.false) in
    let names = some_named c.args.options.now some ∙ ap (map (λ (file : Bor (List ℕ)). file.now)) (sym c.deref.ensures.value) in
    subst (OpensFirst (g.I.Inputs.opened c.args.inputs.now) (g.I.Inputs.opened c.answer_all-else-is_empty.new.inputs)) (sym names) c.answer_all-else-is_empty.ensures.opens

pub returns-then-is_empty-clause-all : goal.returns-then-is_empty-clause-all
returns-then-is_empty-clause-all g c = IfOk-weaker c.answer_all.result _ _ (λ next all more.
    let none : nat_eq (length c.args.options.now.files.items) 0 ≡ true = grind (arith, nat_tests, common_steps, c.is_empty.ensures, c.if-is_empty.true) in
    subst (Opens (g.I.Inputs.opened c.args.inputs.now) (g.I.Inputs.opened c.answer_all.new.inputs)) (sym (none_named c.args.options.now none)) (all more)) c.answer_all.ensures.all

pub returns-else-is_empty-clause-all : goal.returns-else-is_empty-clause-all
returns-else-is_empty-clause-all g c = IfOk-weaker c.answer_all-else-is_empty.result _ _ (λ next all more.
    let some : nat_eq (length c.args.options.now.files.items) 0 ≡ false = grind (arith, nat_tests, common_steps, c.is_empty.ensures, c.if-is_empty.false) in
    let names = some_named c.args.options.now some ∙ ap (map (λ (file : Bor (List ℕ)). file.now)) (sym c.deref.ensures.value) in
    subst (Opens (g.I.Inputs.opened c.args.inputs.now) (g.I.Inputs.opened c.answer_all-else-is_empty.new.inputs)) (sym names) (all more)) c.answer_all-else-is_empty.ensures.all

pub returns-then-is_empty-clause-answered : goal.returns-then-is_empty-clause-answered
returns-then-is_empty-clause-answered g c = IfOk-weaker c.answer_all.result _ _ (λ next answered reads empty known.
    let none : nat_eq (length c.args.options.now.files.items) 0 ≡ true = grind (arith, nat_tests, common_steps, c.is_empty.ensures, c.if-is_empty.true) in
    let names = none_named c.args.options.now none in
    subst (λ (names : List (List ℕ)). SendsInputs g.W.Write.contents c.args.documents.now.answering next c.args.documents.now.lines (g.I.Inputs.bytes_of c.args.inputs.now) names c.args.streams.now c.answer_all.new.streams) (sym names)
    (answered reads empty (subst (AreKnown (g.I.Inputs.bytes_of c.args.inputs.now)) names known))) c.answer_all.ensures.answered

pub returns-then-is_empty-clause-begun : goal.returns-then-is_empty-clause-begun
returns-then-is_empty-clause-begun g c = λ reads empty known.
    let none : nat_eq (length c.args.options.now.files.items) 0 ≡ true = grind (arith, nat_tests, common_steps, c.is_empty.ensures, c.if-is_empty.true) in
    let names = none_named c.args.options.now none in
    subst (λ (names : List (List ℕ)). Begins g.W.Write.contents (AreInputsShown (wanted_in_part_by c.args.documents.now.answering) c.args.documents.now.lines (g.I.Inputs.bytes_of c.args.inputs.now) names c.args.streams.now.total) c.args.streams.now c.answer_all.new.streams) (sym names)
    (c.answer_all.ensures.begun reads empty (subst (AreKnown (g.I.Inputs.bytes_of c.args.inputs.now)) names known))

pub returns-else-is_empty-clause-answered : goal.returns-else-is_empty-clause-answered
returns-else-is_empty-clause-answered g c = IfOk-weaker c.answer_all-else-is_empty.result _ _ (λ next answered reads empty known.
    let some : nat_eq (length c.args.options.now.files.items) 0 ≡ false = grind (arith, nat_tests, common_steps, c.is_empty.ensures, c.if-is_empty.false) in
    let names = some_named c.args.options.now some ∙ ap (map (λ (file : Bor (List ℕ)). file.now)) (sym c.deref.ensures.value) in
    subst (λ (names : List (List ℕ)). SendsInputs g.W.Write.contents c.args.documents.now.answering next c.args.documents.now.lines (g.I.Inputs.bytes_of c.args.inputs.now) names c.args.streams.now c.answer_all-else-is_empty.new.streams) (sym names)
    (answered reads empty (subst (AreKnown (g.I.Inputs.bytes_of c.args.inputs.now)) names known))) c.answer_all-else-is_empty.ensures.answered

pub returns-else-is_empty-clause-begun : goal.returns-else-is_empty-clause-begun
returns-else-is_empty-clause-begun g c = λ reads empty known.
    let some : nat_eq (length c.args.options.now.files.items) 0 ≡ false = grind (arith, nat_tests, common_steps, c.is_empty.ensures, c.if-is_empty.false) in
    let names = some_named c.args.options.now some ∙ ap (map (λ (file : Bor (List ℕ)). file.now)) (sym c.deref.ensures.value) in
    subst (λ (names : List (List ℕ)). Begins g.W.Write.contents (AreInputsShown (wanted_in_part_by c.args.documents.now.answering) c.args.documents.now.lines (g.I.Inputs.bytes_of c.args.inputs.now) names c.args.streams.now.total) c.args.streams.now c.answer_all-else-is_empty.new.streams) (sym names)
    (c.answer_all-else-is_empty.ensures.begun reads empty (subst (AreKnown (g.I.Inputs.bytes_of c.args.inputs.now)) names known))

pub returns-then-is_empty-clause-wanted : goal.returns-then-is_empty-clause-wanted
returns-then-is_empty-clause-wanted g c = IfOk-weaker c.answer_all.result _ _ (λ next wanted whole right reads empty known.
    let none : nat_eq (length c.args.options.now.files.items) 0 ≡ true = grind (arith, nat_tests, common_steps, c.is_empty.ensures, c.if-is_empty.true) in
    let names = none_named c.args.options.now none in
    subst (λ (names : List (List ℕ)). OpensBy c.args.documents.now (g.I.Inputs.bytes_of c.args.inputs.now) c.args.streams.now.total names (g.I.Inputs.opened c.args.inputs.now) (g.I.Inputs.opened c.answer_all.new.inputs)) (sym names)
    (wanted whole right reads empty (subst (AreKnown (g.I.Inputs.bytes_of c.args.inputs.now)) names known))) c.answer_all.ensures.wanted

pub returns-else-is_empty-clause-wanted : goal.returns-else-is_empty-clause-wanted
returns-else-is_empty-clause-wanted g c = IfOk-weaker c.answer_all-else-is_empty.result _ _ (λ next wanted whole right reads empty known.
    let some : nat_eq (length c.args.options.now.files.items) 0 ≡ false = grind (arith, nat_tests, common_steps, c.is_empty.ensures, c.if-is_empty.false) in
    let names = some_named c.args.options.now some ∙ ap (map (λ (file : Bor (List ℕ)). file.now)) (sym c.deref.ensures.value) in
    subst (λ (names : List (List ℕ)). OpensBy c.args.documents.now (g.I.Inputs.bytes_of c.args.inputs.now) c.args.streams.now.total names (g.I.Inputs.opened c.args.inputs.now) (g.I.Inputs.opened c.answer_all-else-is_empty.new.inputs)) (sym names)
    (wanted whole right reads empty (subst (AreKnown (g.I.Inputs.bytes_of c.args.inputs.now)) names known))) c.answer_all-else-is_empty.ensures.wanted
