-- What the first table has goes before what the second has.
use Rattle.std.proofs.Common.{◌≡◌, map, Some, None, option_map, sym, ap, ◌∙◌}
use Rattle.std.specs.Option.{option_or}
use Rattle.serde_json_path_hints.specs.Hints.{first_hint}
use Rattle.serde_json_path_hints.specs.Inside.Lent.{slip_of}
use Rattle.serde_json_path_hints.proofs.Tables.{first_of_both}
use Rattle.serde_json_path_hints.proofs.slip.first_of_two.Goals as goal

pub returns-in-Some : goal.returns-in-Some
returns-in-Some c =
    let one = map slip_of c.args.slips.now in
    let other = map slip_of c.args.others.now in
    let found : first_hint c.args.before.now c.args.ahead.now one ≡ Some c.in-Some.hint.now =
    sym c.first_there.ensures ∙ ap (option_map (λ s. s.now)) c.in-Some.is in
    sym (ap (λ o. option_or o (first_hint c.args.before.now c.args.ahead.now other)) found)
    ∙ sym (first_of_both c.args.before.now c.args.ahead.now one other)

pub returns-in-None : goal.returns-in-None
returns-in-None c =
    let one = map slip_of c.args.slips.now in
    let other = map slip_of c.args.others.now in
    let none : first_hint c.args.before.now c.args.ahead.now one ≡ None =
    sym c.first_there.ensures ∙ ap (option_map (λ s. s.now)) c.in-None.is in
    c.first_there-in-None.ensures
    ∙ sym (ap (λ o. option_or o (first_hint c.args.before.now c.args.ahead.now other)) none)
    ∙ sym (first_of_both c.args.before.now c.args.ahead.now one other)
