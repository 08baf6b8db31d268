use Rattle.serde_json_path_numbers.proofs.Words.{◌≡◌, ◌-◌, suc, sym, subst, arith}
use Rattle.serde_json_path_numbers.proofs.Digits.{AreWritten, one_more}
use Rattle.serde_json_path_numbers.proofs.literal.write_digits.Goals as goal

pub loop-at-preserved : goal.loop-at-preserved
loop-at-preserved c =
    let l = c.loop-at in
    let e : suc (l.at - 1) ≡ l.at = omega arith in
    one_more l.text (l.at - 1) l.left c.args.number (subst (λ k. AreWritten l.text k l.left c.args.number) (sym e) l.invariant)
