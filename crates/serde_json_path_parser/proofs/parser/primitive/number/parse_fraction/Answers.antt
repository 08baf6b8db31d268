use Rattle.serde_json_path_parser.proofs.Words.{nat_le, is_digit, front, left, ◌≡◌, ◌-◌, true, false, length, refl, sym, ◌∙◌, arith}
use Rattle.serde_json_path_parser.proofs.Grammar.Numbers.{counted, fraction_below, fraction_is}
use Rattle.serde_json_path_parser.proofs.Grammar.Numerals.{fraction_read}
use Rattle.serde_json_path_parser.proofs.Reading.{front_each}
use Rattle.serde_json_path_parser.proofs.parser.primitive.number.parse_fraction.Goals as goal

pub overflow_sub-count : goal.overflow_sub-count
overflow_sub-count g c =
    let read = counted _ _ _ _ c.parse_decimal-value.ensures.rest c.bytes_left-before.ensures.value c.bytes_left.ensures.value in
    omega (arith, read)

pub returns-then-count-gt-FRACTION_DIGITS-clause-gives : goal.returns-then-count-gt-FRACTION_DIGITS-clause-gives
returns-then-count-gt-FRACTION_DIGITS-clause-gives g c =
    let counts = counted _ _ _ _ c.parse_decimal-value.ensures.rest c.bytes_left-before.ensures.value c.bytes_left.ensures.value in
    let read = fraction_read c.args.place c.take_char.ensures.value (sym c.sees.ensures ∙ c.if-not-sees.false) (sym c.sees_digit.ensures ∙ c.if-not-sees_digit.false) c.parse_decimal-value.ensures.rest (sym c.sees_exponent-2.ensures ∙ c.if-sees_exponent-2.false) in
    let many : nat_le (length (front is_digit (left c.take_char.new.self))) 9 ≡ false = grind (arith, counts, c.if-count-gt-FRACTION_DIGITS.true) in
    rw (c.in_long_hand-then-count-gt-FRACTION_DIGITS.ensures, read, many) refl

pub overflow_mul-result : goal.overflow_mul-result
overflow_mul-result g c =
    let cs = left c.take_char.new.self in
    let counts = counted _ _ _ _ c.parse_decimal-value.ensures.rest c.bytes_left-before.ensures.value c.bytes_left.ensures.value in
    let is = fraction_is (front is_digit cs) c.parse_decimal-value.result c.pow.result (c.bytes_left-before.result - c.bytes_left.result) (front_each is_digit cs) (omega (arith, counts)) c.if-count-gt-FRACTION_DIGITS.false c.parse_decimal-value.ensures.value c.pow.ensures in
    rw is (omega (arith, fraction_below (front is_digit cs) (front_each is_digit cs) (omega (arith, counts, c.if-count-gt-FRACTION_DIGITS.false))))

pub returns-clause-gives : goal.returns-clause-gives
returns-clause-gives g c =
    let cs = left c.take_char.new.self in
    let counts = counted _ _ _ _ c.parse_decimal-value.ensures.rest c.bytes_left-before.ensures.value c.bytes_left.ensures.value in
    let read = fraction_read c.args.place c.take_char.ensures.value (sym c.sees.ensures ∙ c.if-not-sees.false) (sym c.sees_digit.ensures ∙ c.if-not-sees_digit.false) c.parse_decimal-value.ensures.rest (sym c.sees_exponent-2.ensures ∙ c.if-sees_exponent-2.false) in
    let few : nat_le (length (front is_digit cs)) 9 ≡ true = grind (arith, counts, c.if-count-gt-FRACTION_DIGITS.false) in
    let is = fraction_is (front is_digit cs) c.parse_decimal-value.result c.pow.result (c.bytes_left-before.result - c.bytes_left.result) (front_each is_digit cs) (omega (arith, counts)) c.if-count-gt-FRACTION_DIGITS.false c.parse_decimal-value.ensures.value c.pow.ensures in
    rw (read, few, is) refl
