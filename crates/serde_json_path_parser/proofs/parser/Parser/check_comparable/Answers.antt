use Rattle.serde_json_path_parser.proofs.Words.{numbers_view, Some, refl, ap, arith, common_steps, kind_view, operand, signatures, deeper, left}
use Rattle.serde_json_path_parser.proofs.Steps.{kept_result, operand_of, plain_read, singular_by, value_kind}
use Rattle.serde_json_path_parser.proofs.parser.Parser.check_comparable.Goals as goal

pub is_singular-requires : goal.is_singular-requires
is_singular-requires g c =
    let q = rw c.in-Query.is at (c.argument.ensures (operand c.requires.0) c.requires.1.0) in
    (q.0, q.2)

pub returns-then-not-is_singular-clause-gives : goal.returns-then-not-is_singular-clause-gives
returns-then-not-is_singular-clause-gives g c = λ x is.
    let q = rw c.in-Query.is at (c.argument.ensures (operand x) is.0) in
    rw (c.in_long_hand.ensures, ap operand_of q.1, singular_by c.is_singular.result q.0 (c.is_singular.ensures q.0 q.2), c.if-not-is_singular.true) refl

pub returns-else-not-is_singular-clause-gives : goal.returns-else-not-is_singular-clause-gives
returns-else-not-is_singular-clause-gives g c = λ x is.
    let q = rw c.in-Query.is at (c.argument.ensures (operand x) is.0) in
    rw (ap operand_of q.1, singular_by c.is_singular.result q.0 (c.is_singular.ensures q.0 q.2), c.if-not-is_singular.false) refl

pub returns-then-ne-clause-gives : goal.returns-then-ne-clause-gives
returns-then-ne-clause-gives g c = λ x is.
    let f = rw c.in-Call.is at (c.argument.ensures (operand x) is.0) in
    let kind = kept_result (numbers_view c.args.self.now.numbers) (signatures g.F.Functions.set c.args.self.now) c.args.builder.now c.args.operand (operand x) f.0 (Some (kind_view c.in-Call.result)) is f.1 f.2 in
    rw (c.in_long_hand-then-ne.ensures, ap operand_of f.1, kind, value_kind c.in-Call.result) (grind (arith, common_steps))

pub returns-else-ne-clause-gives : goal.returns-else-ne-clause-gives
returns-else-ne-clause-gives g c = λ x is.
    let f = rw c.in-Call.is at (c.argument.ensures (operand x) is.0) in
    let kind = kept_result (numbers_view c.args.self.now.numbers) (signatures g.F.Functions.set c.args.self.now) c.args.builder.now c.args.operand (operand x) f.0 (Some (kind_view c.in-Call.result)) is f.1 f.2 in
    rw (ap operand_of f.1, kind, value_kind c.in-Call.result) (grind (arith, common_steps))

pub returns-in_default-clause-gives : goal.returns-in_default-clause-gives
returns-in_default-clause-gives g c = λ x is.
    plain_read (numbers_view c.args.self.now.numbers) (signatures g.F.Functions.set c.args.self.now) c.args.builder.now c.args.operand (deeper g.F.Functions.set c.args.self.now) c.args.place x (left c.args.reader.now) c.argument.result c.in_default.not-Query c.in_default.not-Call (c.argument.ensures (operand x) is.0)
