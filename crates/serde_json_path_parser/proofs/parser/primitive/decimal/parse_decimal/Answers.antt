use Rattle.serde_json_path_parser.proofs.Words.{◌≡◌, sym, ◌∙◌, true, ◌-◌, ◌^◌, arith, common_steps, left, begins, is_digit}
use Rattle.serde_json_path_parser.proofs.Reading.{digit_taken, past_more}
use Rattle.serde_json_path_parser.proofs.parser.primitive.decimal.parse_decimal.Goals as goal

pub loop-reader-preserved : goal.loop-reader-preserved
loop-reader-preserved g c =
    let t = c.take_char in
    let e = t.ensures.value in
    let seen : begins is_digit (left c.loop-reader.reader) ≡ true = sym c.sees_digit.ensures ∙ c.loop-reader-test.true in
    record {
      moves = grind (arith, common_steps);
      value = digit_taken (left c.loop-reader.reader) (left t.new.self) t.result c.loop-reader.n c.with_digit-n.result (2 ^ 128 - 1) _ e seen c.with_digit-n.ensures c.loop-reader.invariant.value;
      bound = omega (arith, c.with_digit-n.ensures);
      rest = sym (past_more is_digit (left c.loop-reader.reader) (left t.new.self) t.result e seen) ∙ c.loop-reader.invariant.rest;
    }
