use Rattle.jsonpath_c.proofs.Words.{◌≡◌, ◌+◌, ◌≤◌, ◌∙◌, [], ◌++◌, length, string_bytes, ap, arith, refl, located, IsLine, compact_lines}
use Rattle.jsonpath_c.proofs.Firsts.{line_taken}
use Rattle.jsonpath_c.proofs.bounded.BoundedLines.push.Goals as goal

pub returns-clause-pushed : goal.returns-clause-pushed
returns-clause-pushed c = λ done nodes took.
    let old = c.args.self.now in
    let pushed = c.in_ok-push_line.ensures in
    let line = pushed.0 in
    let is : IsLine (compact_lines old.form) [] (located c.args.node.now) line = rw c.compact_lines-output.ensures at pushed.1 in
    let own : string_bytes c.push_line.new.text ≡ line = pushed.2 ∙ ap (λ t. t ++ line) c.clear.ensures.bytes in
    let text : string_bytes c.push_str.new.self ≡ string_bytes old.text ++ line = c.in_ok-push_str.ensures.bytes ∙ ap (λ t. string_bytes old.text ++ t) (c.as_str.ensures.value ∙ own) in
    let wide : length (string_bytes c.push_line.new.text) ≡ length line = ap length own in
    let held = took.short in
    let few : old.count + 1 ≤ old.limits.now.nodes = omega arith in
    let short : length (string_bytes old.text) + length line ≤ old.limits.now.bytes = omega arith in
    line_taken old _ nodes (located c.args.node.now) line took is refl refl text refl few short
