-- What is put is the hint's text by its name: the search would look into the table of slips.
use Rattle.jsonpath_c.proofs.Words.{◌≡◌, ap, ◌∙◌, inr, refl, rules, IsRefusedWith, IsTold, hint_text, rule_of}
use Rattle.jsonpath_c.proofs.check.jsonpath_hint.Goals as goal

pub returns-clause-text : goal.returns-clause-text
returns-clause-text c =
    let path = c.args.path.now in
    let e = c.in-Err.e in
    let refused : IsRefusedWith (rule_of c.args.numbers) path e = search rules in
    let told = hint_text (rule_of c.args.numbers) path e in
    let is : IsTold (hint_text (rule_of c.args.numbers) path) (rule_of c.args.numbers) path told = inr (e, refused, refl) in
    let text : c.hint_text.result.now ≡ told =
    c.hint_text.ensures ∙ ap (λ path. hint_text (rule_of c.args.numbers) path e) c.in-Ok.ensures.cases.0 in
    let put = c.put-in-Err-2.ensures in
    record {
      done = λ done. (told, is, rw text at (put.put done));
      no_room = λ full. (told, is, rw text at (put.no_room full).0);
      kept_out = search rules;
      kept_size = search rules;
    }
