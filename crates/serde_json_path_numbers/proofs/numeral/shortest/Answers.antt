use Rattle.serde_json_path_numbers.proofs.Words.{◌≡◌, ℕ, ◌∙◌, sym, ap, Some, arith, nat_tests, ℤ, FitsSigned, w128, to_z-of_z, fewest, if_read, exponent_of}
use Rattle.serde_json_path_numbers.proofs.numeral.shortest.Goals as goal

pub returns-clause-value : goal.returns-clause-value
returns-clause-value c =
    let wide = c.first_digits-digits.ensures.range in
    let fits : FitsSigned w128 c.first_digits-digits.result.1 = grind (arith, nat_tests, wide) in
    let narrow = c.in_ok-exponent.ensures.range in
    let within : FitsSigned w128 c.in_ok-exponent.exponent = grind (arith, nat_tests, narrow) in
    let power : exponent_of c.args.numeral.now ≡ Some c.in_ok-exponent.exponent = sym c.exponent_of.ensures.value ∙ c.in_ok-exponent.was in
    let first = rw (to_z-of_z within, c.whole.ensures.value, c.fraction.ensures.value) at c.first_digits-digits.ensures.value in
    rw power (rw (to_z-of_z fits) at c.fewest.ensures.value ∙ ap (λ (d : ℕ × ℤ). if_read c.args.negative c.args.size (fewest c.args.negative c.args.size d.0 d)) first)
