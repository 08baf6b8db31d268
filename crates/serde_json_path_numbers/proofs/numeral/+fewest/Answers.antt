use Rattle.serde_json_path_numbers.proofs.Words.{◌∙◌, refl, sym, ap, arith, nat_tests, FitsSigned, w64, w128, to_z-of_z, if_read}
use Rattle.serde_json_path_numbers.proofs.Fewest.{goes_on, stays}
use Rattle.serde_json_path_numbers.proofs.numeral.+fewest.Goals as goal

pub returns-in-Some-clause-value : goal.returns-in-Some-clause-value
returns-in-Some-clause-value t c =
    let low = c.in-Some.ensures.range in
    let fits : FitsSigned w128 c.in-Some.exponent = grind (arith, nat_tests, low) in
    let start = rw (to_z-of_z c.ranges.exponent) at c.one_less.ensures.value in
    let next = goes_on c.args.negative c.args.size c.args.digits c.args.exponent c.in-Some.digits c.in-Some.exponent (sym start ∙ c.in-Some.is) in
    rw (to_z-of_z fits) at c.fewest.ensures.value ∙ ap (if_read c.args.negative c.args.size) (sym next)

pub returns-then-reads_as-clause-value : goal.returns-then-reads_as-clause-value
returns-then-reads_as-clause-value t c =
    let is = rw (to_z-of_z c.ranges.exponent) at c.reads_as.ensures.value in
    let low = rw (to_z-of_z c.ranges.exponent) at c.reads_as.ensures.range c.if-reads_as.true in
    let fits : FitsSigned w64 c.args.exponent = grind (arith, nat_tests, low) in
    let start = rw (to_z-of_z c.ranges.exponent) at c.one_less.ensures.value in
    let none = stays c.args.negative c.args.size c.args.digits (c.args.digits, c.args.exponent) (sym start ∙ c.in_default.is) in
    rw (to_z-of_z c.ranges.exponent, to_z-of_z fits, none, ← is, c.if-reads_as.true) refl
