use Rattle.jsonpath_lines.proofs.Words.{◌≡◌, ◌++◌, List, rules, string_bytes, encode_utf8, ap, parameters_of, refl, sym, subst, ◌∙◌, chars_rest, nil_from_length, IsColoured}
use Rattle.jsonpath_lines.proofs.Seen.{IsSeenUpTo, plain_begun, plain_further, plain_whole, seen_further, seen_whole}
use Rattle.jsonpath_lines.proofs.colours.colored.Goals as goal

pub loop-c-init : goal.loop-c-init
loop-c-init c = (search rules, plain_begun c.args.form c.args.line.now (string_bytes c.new-text.result) _ c.new-text.ensures.bytes (search rules))

pub loop-c-preserved : goal.loop-c-preserved
loop-c-preserved c =
    let parameters = parameters_of c.args.palette.now in
    let line = c.args.line.now in
    let left = chars_rest c.next.new.self in
    let change = c.in_ok-push_change.ensures.unseen in
    let text : string_bytes c.push.new.self ≡ (string_bytes c.loop-c.text ++ change.0) ++ encode_utf8 c.in-Some.c =
    c.in_ok-push.ensures.bytes ∙ ap (λ (t : List _). t ++ encode_utf8 c.in-Some.c) change.2 in (
      subst (λ text. IsSeenUpTo parameters line text left) (sym text)
          (seen_further parameters line (string_bytes c.loop-c.text) change.0 (encode_utf8 c.in-Some.c) (chars_rest c.loop-c.rest) left change.1 c.in-Some.ensures.steps.0 c.loop-c.invariant.0),
      plain_further c.args.form c.loop-c.place c.next_in-next.result line (string_bytes c.loop-c.text) (string_bytes c.push_change.new.text) (string_bytes c.push.new.self) (encode_utf8 c.in-Some.c) (chars_rest c.loop-c.rest) left
          c.next_in-next.ensures c.push_change.ensures.none c.in_ok-push.ensures.bytes c.in-Some.ensures.steps.0 c.loop-c.invariant.1,
    )

pub returns-clause-seen : goal.returns-clause-seen
returns-clause-seen c =
    let parameters = parameters_of c.args.palette.now in
    let line = c.args.line.now in
    let change = c.in_ok-push_change-2.ensures.unseen in
    let before = subst (IsSeenUpTo parameters line (string_bytes c.loop-c.text)) (nil_from_length _ c.in_default.ensures.steps.0.0) c.loop-c.invariant.0 in
    subst (IsColoured parameters line) (sym change.2) (seen_whole parameters line (string_bytes c.loop-c.text) change.0 change.1 before)

pub returns-clause-plain : goal.returns-clause-plain
returns-clause-plain c = λ raw. plain_whole c.args.form c.loop-c.place c.args.line.now (string_bytes c.loop-c.text) (string_bytes c.push_change-2.new.text) (chars_rest c.loop-c.rest) raw
    (λ between. c.push_change-2.ensures.none between refl) (nil_from_length _ c.in_default.ensures.steps.0.0) c.loop-c.invariant.1
