use Rattle.jsonpath_lines.proofs.Words.{◌≡◌, ◌∙◌, codes, escape, false, on_ok_weaker, rules, string, string_bytes, sym, true, view}
use Rattle.serde_json.specs.declared.value.Value as value
use Rattle.jsonpath_lines.proofs.Appended.{written}
use Rattle.jsonpath_lines.proofs.Quoted.{json_of_string}
use Rattle.jsonpath_lines.proofs.Scalars.{json_of_null, json_of_boolean}
use Rattle.jsonpath_lines.proofs.values.push_json.Goals as goal

pub returns-in-Null : goal.returns-in-Null
returns-in-Null c = written c.push_str.result _ (codes "null") _ _ (json_of_null c.args.layout _ c.in-Null.is) c.push_str.ensures.bytes

pub returns-in-Bool-true : goal.returns-in-Bool-true
returns-in-Bool-true c =
    written c.push_str-in-Bool-true.result _ (codes "true") _ _ (json_of_boolean c.args.layout _ _ true c.in-Bool-true.is (search rules)) c.push_str-in-Bool-true.ensures.bytes

pub returns-in-Bool-false : goal.returns-in-Bool-false
returns-in-Bool-false c =
    written c.push_str-in-Bool-false.result _ (codes "false") _ _ (json_of_boolean c.args.layout _ _ false c.in-Bool-false.is (search rules)) c.push_str-in-Bool-false.ensures.bytes

pub returns-in-String : goal.returns-in-String
returns-in-String c =
    let own = c.as_str-in-String.result.now in
    let bytes : own ≡ string_bytes c.in-String.own = c.as_str-in-String.ensures.value in
    let held : view c.args.value.now ≡ string own = search (rules, value.the_lemmas) in
    let same : c.as_str.result.now ≡ own = c.as_str.ensures.value ∙ sym bytes in
    let plain : escape own ≡ own = rw same at (c.has_no_escape.ensures c.if-has_no_escape.true) in
    let json = json_of_string c.args.layout (view c.args.value.now) own held plain in
    on_ok_weaker c.push_in_quotes.result (λ e. (_, json, e)) c.push_in_quotes.ensures
