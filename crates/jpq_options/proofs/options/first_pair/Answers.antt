use Rattle.jpq_options.proofs.Words.{arith, common_steps, ◌≡◌, [], true, sym, Bor, Text, found_of, rows_of, is_given_so, pair_of_row}
use Rattle.jpq_options.proofs.Pairs.{some_at}
use Rattle.jpq_options.proofs.options.first_pair.Goals as goal

pub returns-then-is_given-both : goal.returns-then-is_given-both
returns-then-is_given-both c =
    let none : Bor Text = record { ref_ptr = (0, 0); now = [] } in
    sym (some_at (is_given_so c.args.both (rows_of (found_of c.args.matches.now))) pair_of_row c.args.pairs.now c.loop-pair.pair-index (none, none) c.loop-pair-test.true
    (grind (arith, common_steps, c.is_given.ensures, c.is_given-then-is_given.ensures, c.if-is_given.true, c.if-is_given-both.true)))
