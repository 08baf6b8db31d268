use Rattle.jsonpath_lines.proofs.Words.{◌++◌, List, ap, codes, on_ok_weaker, parameters_of, rules, sequence, string_bytes, append_assoc, ◌∙◌, Contains}
use Rattle.jsonpath_lines.proofs.Seen.{unseen_both, unseen_end, unseen_part}
use Rattle.jsonpath_lines.proofs.colours.push_change.Goals as goal

pub returns-in-None-Some-clause-unseen : goal.returns-in-None-Some-clause-unseen
returns-in-None-Some-clause-unseen c =
    let next : Contains (parameters_of c.args.palette.now) c.in-None-Some.next.now = search rules in
    on_ok_weaker c.push_sequence.result (λ is. (sequence c.in-None-Some.next.now, unseen_part (parameters_of c.args.palette.now) _ next, is)) c.push_sequence.ensures

pub returns-in-Some-None-clause-unseen : goal.returns-in-Some-None-clause-unseen
returns-in-Some-None-clause-unseen c =
    on_ok_weaker c.push_sequence-in-Some-None.result (λ is. (sequence (codes "0"), unseen_end (parameters_of c.args.palette.now), is)) c.push_sequence-in-Some-None.ensures

pub returns-in_ok-push_sequence-in-Some-Some-2-clause-unseen : goal.returns-in_ok-push_sequence-in-Some-Some-2-clause-unseen
returns-in_ok-push_sequence-in-Some-Some-2-clause-unseen c =
    let own = c.in-Some-Some-2.next.now in
    let next : Contains (parameters_of c.args.palette.now) own = search rules in
    on_ok_weaker c.push_sequence-in-Some-Some-2-2.result
    (λ is. (
      sequence (codes "0") ++ sequence own,
      unseen_both (parameters_of c.args.palette.now) own next,
      is ∙ ap (λ (t : List _). t ++ sequence own) c.in_ok-push_sequence-in-Some-Some-2.ensures ∙ append_assoc (string_bytes c.args.text.now) (sequence (codes "0")) (sequence own),
    ))
    c.push_sequence-in-Some-Some-2-2.ensures
