use Rattle.serde_json_path_numbers.proofs.decimal.+write_places.Given as goal

abbrev pub decreases-write_places : goal.decreases-write_places
decreases-write_places g l = l.places
