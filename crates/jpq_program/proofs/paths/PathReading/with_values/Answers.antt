use Rattle.jpq_program.proofs.Words.{◌≡◌, ap, arith, common_steps, length, nat_tests}
use Rattle.jpq_program.proofs.Bound.{unbound}
use Rattle.serde_json_path_syntax.specs.Bindings.{pairs_of}
use Rattle.std.proofs.lemmas.List.{nil_from_length}
use Rattle.jpq_program.proofs.paths.PathReading.with_values.Goals as goal

pub returns-then-is_empty-clause-bound : goal.returns-then-is_empty-clause-bound
returns-then-is_empty-clause-bound c =
    let none : length c.args.self.now.bindings.items ≡ 0 = grind (arith, nat_tests, common_steps, c.is_empty.ensures, c.if-is_empty.true) in
    unbound (pairs_of c.args.self.now.bindings.items) c.args.path (ap pairs_of (nil_from_length c.args.self.now.bindings.items none))
