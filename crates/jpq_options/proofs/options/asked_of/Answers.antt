use Rattle.jpq_options.proofs.Words.{AreOptions, None, Shown, kind_of_misuse, misuse_by, option_map, refl, subst, ◌≡◌, ◌∙◌, true, false, map, Some, ap, sym, IfOk-weaker, found_of, rows_of, first_form, form_of_row, forms, given_forms, has_two}
use Rattle.jpq_options.proofs.Answered.{given_are, one_form, refusal, two_forms}
use Rattle.jpq_options.proofs.options.asked_of.Goals as goal

pub returns-in-Err : goal.returns-in-Err
returns-in-Err c =
    let rows = rows_of (found_of c.args.matches.now) in
    let given : map form_of_row c.as_slice.result.now ≡ given_forms forms rows = given_are rows _ _ _ c.as_slice.ensures.value c.in_ok-given.ensures c.form_rows.ensures in
    let two : has_two (given_forms forms rows) ≡ true = sym (ap has_two given) ∙ c.in-Err.ensures.two.0 in
    IfOk-weaker c.refused.result _ _ (λ a h. refusal rows _ a (ap Some c.in-Err.ensures.two.1 ∙ two_forms rows two) h) c.refused.ensures

pub returns-in-None : goal.returns-in-None
returns-in-None c =
    let rows = rows_of (found_of c.args.matches.now) in
    let given : map form_of_row c.as_slice.result.now ≡ given_forms forms rows = given_are rows _ _ _ c.as_slice.ensures.value c.in_ok-given.ensures c.form_rows.ensures in
    let one : has_two (given_forms forms rows) ≡ false = sym (ap has_two given) ∙ c.in-Ok.ensures.ok.0 in
    let is : c.in-Ok.shown ≡ first_form (given_forms forms rows) = c.in-Ok.ensures.ok.1 ∙ ap first_form given in
    let are = c.in_ok-options.ensures in
    let none : misuse_by c.in_ok-options.options.shown rows ≡ None = sym c.misuse_of.ensures ∙ ap (option_map kind_of_misuse) c.in-None.is in
    (refl, sym (one_form rows _ one (are.shown ∙ is)) ∙ none, subst (λ (s : Shown). AreOptions rows s c.in_ok-options.options) is are)

pub returns : goal.returns
returns c =
    let rows = rows_of (found_of c.args.matches.now) in
    let given : map form_of_row c.as_slice.result.now ≡ given_forms forms rows = given_are rows _ _ _ c.as_slice.ensures.value c.in_ok-given.ensures c.form_rows.ensures in
    let one : has_two (given_forms forms rows) ≡ false = sym (ap has_two given) ∙ c.in-Ok.ensures.ok.0 in
    let is : c.in-Ok.shown ≡ first_form (given_forms forms rows) = c.in-Ok.ensures.ok.1 ∙ ap first_form given in
    let some = sym (ap (option_map kind_of_misuse) c.in-Some.is) ∙ c.misuse_of.ensures in
    IfOk-weaker c.refused-in-Some.result _ _
    (λ a h. refusal rows _ a (some ∙ one_form rows _ one (c.in_ok-options.ensures.shown ∙ is)) h) c.refused-in-Some.ensures
