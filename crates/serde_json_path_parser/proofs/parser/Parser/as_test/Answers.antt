use Rattle.serde_json_path_parser.proofs.Words.{numbers_view, ◌∙◌, Some, refl, sym, ap, subst, kind_view, operand, signatures, deeper, left, IsTested, test}
use Rattle.serde_json_path_parser.proofs.Steps.{grows_kept, kept_result, operand_of, plain_test, value_kind}
use Rattle.serde_json_path_parser.proofs.parser.Parser.as_test.Goals as goal

pub returns-in-Literal-clause-gives : goal.returns-in-Literal-clause-gives
returns-in-Literal-clause-gives g c = λ x is.
    let l = rw c.in-Literal.is at (c.argument.ensures (operand x) is.0) in
    rw (c.refusal.ensures.value, ap operand_of l) refl

pub returns-then-eq-clause-gives : goal.returns-then-eq-clause-gives
returns-then-eq-clause-gives g c = λ x is.
    let f = rw c.in-Call.is at (c.argument.ensures (operand x) is.0) in
    let kind = kept_result (numbers_view c.args.self.now.numbers) (signatures g.F.Functions.set c.args.self.now) c.args.builder.now c.args.operand (operand x) f.0 (Some (kind_view c.in-Call.result)) is f.1 f.2 in
    rw (c.in_long_hand.ensures, ap operand_of f.1, kind, value_kind c.in-Call.result ∙ sym c.eq.ensures ∙ c.if-eq.true) refl

pub test-requires : goal.test-requires
test-requires g c =
    let (x, is) = c.requires in
    let f = rw c.in-Call.is at (c.argument.ensures (operand x) is.0) in
    (x, is.0, subst (λ o. IsTested o) (sym (ap operand_of f.1)) tt)

pub returns-in_ok-test-in-Call-clause-gives : goal.returns-in_ok-test-in-Call-clause-gives
returns-in_ok-test-in-Call-clause-gives g c = λ x is.
    let f = rw c.in-Call.is at (c.argument.ensures (operand x) is.0) in
    let kind = kept_result (numbers_view c.args.self.now.numbers) (signatures g.F.Functions.set c.args.self.now) c.args.builder.now c.args.operand (operand x) f.0 (Some (kind_view c.in-Call.result)) is f.1 f.2 in (
      test c.args.negated x,
      c.in_ok-test-in-Call.ensures.made x is.0,
      rw (ap operand_of f.1, kind, value_kind c.in-Call.result ∙ sym c.eq.ensures ∙ c.if-eq.false) refl,
      λ before grown. grows_kept grown c.test.ensures.keeps,
    )

pub test-requires-in_default : goal.test-requires-in_default
test-requires-in_default g c =
    let (x, is) = c.requires in
    let may = plain_test (numbers_view c.args.self.now.numbers) (signatures g.F.Functions.set c.args.self.now) c.args.builder.now c.args.operand (deeper g.F.Functions.set c.args.self.now) c.args.place x (left c.args.reader.now) c.args.negated c.argument.result c.in_default.not-Literal c.in_default.not-Call (c.argument.ensures (operand x) is.0) in
    (x, is.0, may.0)

pub returns-in_ok-test-in_default-clause-gives : goal.returns-in_ok-test-in_default-clause-gives
returns-in_ok-test-in_default-clause-gives g c = λ x is.
    let may = plain_test (numbers_view c.args.self.now.numbers) (signatures g.F.Functions.set c.args.self.now) c.args.builder.now c.args.operand (deeper g.F.Functions.set c.args.self.now) c.args.place x (left c.args.reader.now) c.args.negated c.argument.result c.in_default.not-Literal c.in_default.not-Call (c.argument.ensures (operand x) is.0) in
    (test c.args.negated x, c.in_ok-test-in_default.ensures.made x is.0, may.1, λ before grown. grows_kept grown c.test-in_default.ensures.keeps)
