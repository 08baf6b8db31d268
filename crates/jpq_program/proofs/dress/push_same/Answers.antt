use Rattle.jpq_program.proofs.Words.{◌≡◌, ◌∙◌, ◌==◌, ◌++◌, Bool, List, ℕ, ap, append_assoc, arith, encode_utf8, false, led_by, nat_tests, string_bytes, sym}
use Rattle.jpq_program.proofs.dress.push_same.Goals as goal

pub returns : goal.returns
returns c = λ unit cs.
    let other : (c.args.c == 10) ≡ false = grind (arith, nat_tests, c.if-c-eq10.false) in
    ap (λ (t : List ℕ). t ++ led_by unit false cs) c.in_ok-push.ensures.bytes ∙ append_assoc (string_bytes c.args.text.now) (encode_utf8 c.args.c) (led_by unit false cs)
    ∙ ap (λ (is : Bool). string_bytes c.args.text.now ++ (encode_utf8 c.args.c ++ led_by unit is cs)) (sym other)
