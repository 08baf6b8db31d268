use Rattle.jpq_program.proofs.Words.{◌∙◌, ap, subst, arith, common_steps, rules, string_bytes, Streams, Written, located, Adds, AppendsBeginning, is_after, look_of, Option, List, [], ℕ}
use Rattle.jpq_program.proofs.Nodes.{node_begun, node_written}
use Rattle.jpq_program.proofs.written.Written.take_node.Goals as goal

pub returns-clause-taken : goal.returns-clause-taken
returns-clause-taken g c =
    let pushed = c.push_pending.ensures.kept in
    let kept = c.write_if_full.ensures.kept in
    record {
      rest = record {
        same = pushed.same;
        showing = ap (λ (w : Written g.row.W.Denot g.row.E.Denot). w.showing) pushed.kept;
        head = ap (λ (w : Written g.row.W.Denot g.row.E.Denot). w.head) pushed.kept;
        later = ap (λ (w : Written g.row.W.Denot g.row.E.Denot). w.is_later) pushed.kept;
        limit = ap (λ (w : Written g.row.W.Denot g.row.E.Denot). w.limit) pushed.kept;
        outcome = ap (λ (s : Streams g.row.W.Denot g.row.E.Denot). s.outcome) kept ∙ ap (λ (s : Streams g.row.W.Denot g.row.E.Denot). s.outcome) pushed.streams;
        err = ap (λ (s : Streams g.row.W.Denot g.row.E.Denot). s.err) kept ∙ ap (λ (s : Streams g.row.W.Denot g.row.E.Denot). s.err) pushed.streams;
        total = ap (λ (s : Streams g.row.W.Denot g.row.E.Denot). s.total) kept ∙ ap (λ (s : Streams g.row.W.Denot g.row.E.Denot). s.total) pushed.streams;
      };
      count = search rules;
      further = λ more. (ap (λ (w : Written g.row.W.Denot g.row.E.Denot). w.stop) pushed.kept, grind (arith, common_steps, more, c.is_reached.ensures));
      enough = λ more _. grind (arith, common_steps, more, c.is_reached.ensures);
      node = λ _ _ has. node_written (look_of c.args.self.now.showing.now) (is_after c.args.self.now) c.args.self.now.head.now (located c.args.node.now) (g.W.Write.contents c.args.self.now.streams.now.out) _ _ _ _ (c.in_ok-push_pending.ensures.node has)
          (subst (λ (out : Option (List ℕ)). Adds out (string_bytes c.push_pending.new.self.streams.now.pending) (g.W.Write.contents c.write_if_full.new.self.out) (string_bytes c.write_if_full.new.self.pending) [])
          (ap (λ (s : Streams g.row.W.Denot g.row.E.Denot). g.W.Write.contents s.out) pushed.streams) c.in_default.ensures.whole);
    }

pub returns-clause-begun : goal.returns-clause-begun
returns-clause-begun g c = record {
  rest = (returns-clause-taken g c).rest;
  written = λ has. node_begun (look_of c.args.self.now.showing.now) (is_after c.args.self.now) c.args.self.now.head.now (located c.args.node.now) (g.W.Write.contents c.args.self.now.streams.now.out) _ _ _ (c.in_ok-push_pending.ensures.node has)
      (subst (λ (out : Option (List ℕ)). AppendsBeginning out (g.W.Write.contents c.write_if_full.new.self.out) (string_bytes c.push_pending.new.self.streams.now.pending))
      (ap (λ (s : Streams g.row.W.Denot g.row.E.Denot). g.W.Write.contents s.out) c.push_pending.ensures.kept.streams) c.write_if_full.ensures.beginning);
}

pub returns-in-Err-clause-begun : goal.returns-in-Err-clause-begun
returns-in-Err-clause-begun g c =
    let pushed = c.push_pending.ensures.kept in
    let kept = c.write_if_full.ensures.kept in
    record {
      rest = record {
        same = pushed.same;
        showing = ap (λ (w : Written g.row.W.Denot g.row.E.Denot). w.showing) pushed.kept;
        head = ap (λ (w : Written g.row.W.Denot g.row.E.Denot). w.head) pushed.kept;
        later = ap (λ (w : Written g.row.W.Denot g.row.E.Denot). w.is_later) pushed.kept;
        limit = ap (λ (w : Written g.row.W.Denot g.row.E.Denot). w.limit) pushed.kept;
        outcome = ap (λ (s : Streams g.row.W.Denot g.row.E.Denot). s.outcome) kept ∙ ap (λ (s : Streams g.row.W.Denot g.row.E.Denot). s.outcome) pushed.streams;
        err = ap (λ (s : Streams g.row.W.Denot g.row.E.Denot). s.err) kept ∙ ap (λ (s : Streams g.row.W.Denot g.row.E.Denot). s.err) pushed.streams;
        total = ap (λ (s : Streams g.row.W.Denot g.row.E.Denot). s.total) kept ∙ ap (λ (s : Streams g.row.W.Denot g.row.E.Denot). s.total) pushed.streams;
      };
      written = λ has. node_begun (look_of c.args.self.now.showing.now) (is_after c.args.self.now) c.args.self.now.head.now (located c.args.node.now) (g.W.Write.contents c.args.self.now.streams.now.out) _ _ _ (c.in_ok-push_pending.ensures.node has)
          (subst (λ (out : Option (List ℕ)). AppendsBeginning out (g.W.Write.contents c.write_if_full.new.self.out) (string_bytes c.push_pending.new.self.streams.now.pending))
          (ap (λ (s : Streams g.row.W.Denot g.row.E.Denot). g.W.Write.contents s.out) pushed.streams) c.write_if_full.ensures.beginning);
    }
