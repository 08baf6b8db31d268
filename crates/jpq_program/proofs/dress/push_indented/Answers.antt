use Rattle.jpq_program.proofs.Words.{◌≡◌, ◌∙◌, ◌==◌, ◌++◌, ◌∷◌, IfOk-weaker, List, ℕ, Place, ap, append_assoc, arith, encode_utf8, false, led_by, left_from, nat_tests, string_bytes, sym}
use Rattle.jpq_program.proofs.Dressed.{after_step, start_step, within_step}
use Rattle.jpq_program.proofs.dress.push_indented.Goals as goal

pub returns-in-Start-true : goal.returns-in-Start-true
returns-in-Start-true c = λ cs. ap (λ (place : Place). string_bytes c.args.text.now ++ left_from c.args.unit.now place (32 ∷ cs)) (sym c.in-Start-true.is-0)
    ∙ ap (λ (one : ℕ). string_bytes c.args.text.now ++ left_from c.args.unit.now c.args.place (one ∷ cs)) (sym c.in-Start-true.is-1)

pub returns-in_ok-push-in-AfterSpace-false : goal.returns-in_ok-push-in-AfterSpace-false
returns-in_ok-push-in-AfterSpace-false c = IfOk-weaker c.push_same-in-AfterSpace-false.result _ _ (λ next same cs.
    let text = string_bytes c.args.text.now in
    let unit = c.args.unit.now in
    let later = encode_utf8 c.args.c ++ led_by unit (c.args.c == 10) cs in
    let other : (c.args.c == 32) ≡ false = grind (arith, nat_tests, c.in-AfterSpace-false.is-1) in
    same unit cs ∙ ap (λ (t : List ℕ). t ++ later) c.in_ok-push-in-AfterSpace-false.ensures.bytes ∙ append_assoc text (encode_utf8 32) later ∙ ap (λ (t : List ℕ). text ++ t) (sym (after_step unit c.args.c cs other))
    ∙ ap (λ (place : Place). text ++ left_from unit place (c.args.c ∷ cs)) (sym c.in-AfterSpace-false.is-0)) c.push_same-in-AfterSpace-false.ensures

pub returns-in-Start-false : goal.returns-in-Start-false
returns-in-Start-false c = IfOk-weaker c.push_same.result _ _ (λ next same cs.
    let text = string_bytes c.args.text.now in
    let unit = c.args.unit.now in
    let other : (c.args.c == 32) ≡ false = grind (arith, nat_tests, c.in-Start-false.is-1) in
    same unit cs ∙ ap (λ (t : List ℕ). text ++ t) (sym (start_step unit c.args.c cs other)) ∙ ap (λ (place : Place). text ++ left_from unit place (c.args.c ∷ cs)) (sym c.in-Start-false.is-0)) c.push_same.ensures

pub returns-in-Within-default : goal.returns-in-Within-default
returns-in-Within-default c = IfOk-weaker c.push_same-in-Within-default.result _ _ (λ next same cs.
    let text = string_bytes c.args.text.now in
    let unit = c.args.unit.now in
    same unit cs ∙ ap (λ (t : List ℕ). text ++ t) (sym (within_step unit c.args.c cs)) ∙ ap (λ (place : Place). text ++ left_from unit place (c.args.c ∷ cs)) (sym c.in-Within-default.is-0)) c.push_same-in-Within-default.ensures
