use Rattle.jsonpath_lines.proofs.Words.{◌≡◌, ◌+◌, false, true, ap, rules, is_reached, LineWriter}
use Rattle.jsonpath_lines.proofs.Chosen.{filled_by_one, one_taken}
use Rattle.jsonpath_lines.proofs.nodes.LinesSink.take.Goals as goal

pub returns-then-is_reached-clause-taken : goal.returns-then-is_reached-clause-taken
returns-then-is_reached-clause-taken c = λ before nodes later took.
    let further : c.in_ok-self.field-0 ≡ c.args.self.now.count + 1 = search rules in
    let full : is_reached c.args.self.now.limit c.in_ok-self.field-0 ≡ true = search rules in
    filled_by_one before c.args.self.now nodes later _ _ c.in_ok-self.field-0 took (rw (ap (λ (w : LineWriter). w.output) took.writer, c.replace-text.ensures.value) at c.in_ok-push_node.ensures) further full

pub returns-clause-taken : goal.returns-clause-taken
returns-clause-taken c = λ before nodes took.
    let further : c.in_ok-self.field-0 ≡ c.args.self.now.count + 1 = search rules in
    let below : is_reached c.args.self.now.limit c.in_ok-self.field-0 ≡ false = search rules in
    let one = one_taken before c.args.self.now nodes _ _ c.in_ok-self.field-0 took (rw (ap (λ (w : LineWriter). w.output) took.writer, c.replace-text.ensures.value) at c.in_ok-push_node.ensures) further in
    record {
      writer = took.writer;
      limit = took.limit;
      text = one.0;
      count = one.1;
      more = below;
    }
