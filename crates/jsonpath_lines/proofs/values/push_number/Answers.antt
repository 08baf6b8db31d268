use Rattle.jsonpath_lines.proofs.Words.{◌≡◌, ◌++◌, string_bytes, ap, arith, int_lt, of_z, pos, rules, SFits, subst, sym, to_z, to_z-of_z, w64, ◌∙◌, on_ok_weaker, signed_decimal, view, IsLaid}
use Rattle.jsonpath_lines.proofs.Scalars.{json_of_u64, json_of_i64}
use Rattle.jsonpath_lines.proofs.values.push_number.Goals as goal

pub returns-in-Some : goal.returns-in-Some
returns-in-Some c =
    let json = json_of_u64 c.args.layout (view c.args.value.now) c.in-Some.n (omega arith) (sym c.as_u64.ensures ∙ c.in-Some.is) in
    on_ok_weaker c.push_str.result (λ e. (_, json, e ∙ ap (λ digits. string_bytes c.args.text.now ++ digits) c.format.ensures.text)) (search rules)

pub returns-then-n-lt0 : goal.returns-then-n-lt0
returns-then-n-lt0 c =
    let n = c.in-Some-as_i64.n in
    let fits : SFits w64 n = search rules in
    let held : n ≡ to_z w64 (of_z w64 n) = sym (to_z-of_z fits) in
    let json = json_of_i64 c.args.layout (view c.args.value.now) n fits (ap (λ z. int_lt z (pos 0)) held ∙ c.if-n-lt0.true) (sym c.as_i64.ensures ∙ c.in-Some-as_i64.is) in
    let laid = subst (IsLaid c.args.layout (view c.args.value.now)) (ap signed_decimal held) json in
    on_ok_weaker c.push_str-then-n-lt0.result (λ e. (_, laid, e ∙ ap (λ digits. string_bytes c.args.text.now ++ digits) c.format-then-n-lt0.ensures.text))
    (search rules)
