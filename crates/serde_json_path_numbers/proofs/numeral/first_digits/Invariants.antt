use Rattle.serde_json_path_numbers.proofs.Words.{◌≡◌, ◌^◌, ◌<◌, ◌++◌, take, digits_value}
use Rattle.serde_json_path_numbers.proofs.numeral.first_digits.Given as goal

-- so many digits are taken
abbrev pub invariant-loop-at : goal.invariant-loop-at
invariant-loop-at l = (l.first ≡ digits_value 10 (take l.at (l.fn.whole ++ l.fn.fraction))) × (l.first < 10 ^ 19)
