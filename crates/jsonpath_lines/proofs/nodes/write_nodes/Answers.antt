use Rattle.jsonpath_lines.proofs.Words.{◌++◌, ◌∙◌, ap, string_bytes, rest, asked, opening}
use Rattle.jsonpath_lines.proofs.Chosen.{array_begun, chosen_shown}
use Rattle.jsonpath_lines.proofs.nodes.write_nodes.Goals as goal

pub closed-requires : goal.closed-requires
closed-requires g c =
    array_begun c.args.output.now c.args.head.now (asked c.args.output.now (rest c.args.walk)) (string_bytes c.open.new.text) (string_bytes c.in_ok-written.written.text)
    c.in_ok-written.written.count (c.in_ok-open.ensures ∙ ap (λ text. text ++ opening c.args.output.now.form) c.requires) c.in_ok-written.ensures.pushed

pub returns : goal.returns
returns g c =
    let shown = chosen_shown c.args.output.now c.args.head.now (rest c.args.walk) (string_bytes c.open.new.text) (string_bytes c.in_ok-written.written.text)
    (string_bytes c.in_ok-text.text) c.in_ok-written.written.count (c.in_ok-open.ensures ∙ ap (λ text. text ++ opening c.args.output.now.form) c.requires) c.in_ok-written.ensures.pushed c.in_ok-text.ensures in
    record { lines = shown.0; count = shown.1; refused = tt }
