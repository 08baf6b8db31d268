use Rattle.serde_json_path_numbers.proofs.Words.{◌<◌, ◌++◌, length, arith, nat_tests, length-append}
use Rattle.serde_json_path_numbers.proofs.Numerals.{one_below, one_taken, some_taken}
use Rattle.serde_json_path_numbers.proofs.numeral.first_digits.Goals as goal

pub returns-then-first-ge-MANY-clause-value : goal.returns-then-first-ge-MANY-clause-value
returns-then-first-ge-MANY-clause-value c =
    let ds = c.args.whole.now ++ c.args.fraction.now in
    let count = length-append c.args.whole.now c.args.fraction.now in
    let (value, few) = c.loop-at.invariant in
    let taken = some_taken ds c.requires.digits c.args.exponent c.loop-at.at c.loop-at.first (omega (arith, count, c.loop-at-test.true)) value c.if-first-ge-MANY.true few in
    grind (arith, nat_tests, taken, count)

pub loop-at-preserved : goal.loop-at-preserved
loop-at-preserved c =
    let ds = c.args.whole.now ++ c.args.fraction.now in
    let count = length-append c.args.whole.now c.args.fraction.now in
    let (value, few) = c.loop-at.invariant in
    let within : c.loop-at.at < length ds = omega (arith, count, c.loop-at-test.true) in
    let next = one_taken ds c.requires.digits c.loop-at.at c.loop-at.first c.digit_at.result within value c.digit_at.ensures in
    let digit = one_below ds c.requires.digits c.loop-at.at c.loop-at.first c.digit_at.result within value c.digit_at.ensures in
    let below = c.if-first-ge-MANY.false in
    (next, omega (arith, below, digit))
