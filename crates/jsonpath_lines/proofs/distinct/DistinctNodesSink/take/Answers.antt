use Rattle.jsonpath_lines.proofs.Words.{[], ◌∷◌, ◌++◌, ap, arith, ◌≡◌, ◌∙◌, length, map, sym, subst, rules, length-map, map_push, first_places, located, IfSome, IsExceeded, ◌≤◌}
use Rattle.jsonpath_lines.proofs.EachOnce.{differing_fewer, distinct_again, distinct_taken, enough_met, held_within, room_within}
use Rattle.jsonpath_lines.proofs.distinct.DistinctNodesSink.take.Goals as goal
use Rattle.jsonpath_lines.proofs.distinct.DistinctNodesSink.take.Goals.{then-len-self+else-is_exceeded, else-len-self}

pub returns-then-is_exceeded-clause-taken : goal.returns-then-is_exceeded-clause-taken
returns-then-is_exceeded-clause-taken c = λ before nodes later took.
    let found = c.distinct-nodes.result.items in
    let left : map located found ≡ first_places (map located c.args.self.now.nodes.items) = rw c.replace.ensures.value at c.distinct-nodes.ensures in
    let held : c.len-count.result ≡ length found = search rules in
    let count : c.len-count.result ≡ length (map located found) = held ∙ sym (length-map found located) in
    let many : IsExceeded c.args.self.now.limit (length (map located found)) =
    subst (IsExceeded c.args.self.now.limit) count (c.is_exceeded.ensures.exceeded c.if-is_exceeded.true) in (
      enough_met before c.args.self.now nodes _ (map located found) took left many,
      differing_fewer found c.args.self.now.nodes.items before.limit left (held_within before.limit (length c.args.self.now.nodes.items) c.args.self.now.room took.held took.few),
    )

pub returns-clause-taken : goal.returns-clause-taken
returns-clause-taken c = λ before nodes took.
    let old = c.args.self.now in
    let now = c.push.new.self in
    let mid = c.if-len-self.self.nodes.items in
    let all : map located now.items ≡ map located mid ++ located c.args.node ∷ [] = ap (map located) c.in_ok-push.ensures.items ∙ map_push located mid c.args.node in
    elim c.if-len-self.branch [
      | then-len-self+else-is_exceeded w ↦
          let left = w.distinct-nodes.result in
          let same : map located left.items ≡ first_places (map located old.nodes.items) = rw w.replace.ensures.value at w.distinct-nodes.ensures in
          let differing = ap length (same ∙ took.met) in
          let longer = rw w.self-is at c.in_ok-push.ensures.len in
          distinct_taken before _ nodes (map located mid) (located c.args.node) (rw w.self-is took.limit)
          (rw w.self-is (ap first_places same ∙ distinct_again (map located old.nodes.items) ∙ took.met)) all
          (rw w.self-is (omega (arith, length-map left.items located, left.ok.0, longer, now.ok.1, now.small, w.len-count.ensures, w.saturating_mul.ensures, w.max-self.ensures)))
          (rw w.self-is (omega (arith, length-map left.items located, left.ok.0, differing, w.len-count.ensures, w.saturating_mul.ensures, w.max-self.ensures)))
          (rw w.self-is (room_within before.limit w.len-count.result w.max-self.result (subst (λ limit. IfSome limit (λ most. w.len-count.result ≤ most)) took.limit (w.is_exceeded.ensures.within w.if-is_exceeded.false)) (omega (arith, w.saturating_mul.ensures, w.max-self.ensures))))
      | else-len-self w ↦
          distinct_taken before _ nodes (map located mid) (located c.args.node) (rw w.self-is took.limit) (rw w.self-is took.met) all
          (rw w.self-is (omega (arith, length-map old.nodes.items located, old.nodes.ok.0, c.len.ensures, w.if-len-self.false)))
          (rw w.self-is took.room)
          (rw w.self-is took.few)
    ]
