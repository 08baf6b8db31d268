use Rattle.serde_json_path_numbers.proofs.numeral.+fewest.Given as goal

abbrev pub decreases-fewest : goal.decreases-fewest
decreases-fewest l = l.digits
