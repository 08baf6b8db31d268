use Rattle.jsonpath_lines.proofs.Words.{◌∙◌, ◌⊎◌, inl, inr, Ok, ap, rest, FilledLines, Lines, TookLines, cases_Bool}
use Rattle.jsonpath_lines.proofs.Chosen.{pushed_either}
use Rattle.jsonpath_lines.proofs.nodes.push_walk.Goals as goal

pub returns-clause-pushed : goal.returns-clause-pushed
returns-clause-pushed g c =
    let before : Lines = record { writer = c.args.writer; limit = c.limit-limit.result; text = c.args.text; count = 0 } in
    let either : TookLines before (rest c.args.walk) c.feed.new.sink ⊎ FilledLines before (rest c.args.walk) c.feed.new.sink = elim (cases_Bool c.in_ok-feed.field-0) [
      | inl all ↦ inl (c.feed.ensures.all (c.in_ok-feed.was ∙ ap (λ b. Ok b) all))
      | inr some ↦ inr (c.feed.ensures.enough (c.in_ok-feed.was ∙ ap (λ b. Ok b) some))
    ] in
    pushed_either before c.feed.new.sink (rest c.args.walk) c.limit-limit.ensures either
