use Rattle.jpq_options.proofs.Words.{◌≡◌, false, map, take, found_of, rows_of, is_given_so, list_any, pair_of_row}
use Rattle.jpq_options.proofs.options.first_pair.Given as goal

abbrev pub invariant-loop-pair : goal.invariant-loop-pair
invariant-loop-pair l = list_any (is_given_so l.both (rows_of (found_of l.matches))) (map pair_of_row (take l.pair-index l.pairs)) ≡ false
