-- The first slip of all that are there is the first of the kind's own, or else the first of those that it shares.
use Rattle.std.proofs.lemmas.Grind.{common_steps}
use Rattle.std.proofs.Common.{◌≡◌, arith, ℕ, List, ◌++◌, map, Some, None, option_map, sym, ap, ◌∙◌}
use Rattle.std.specs.Option.{option_or}
use Rattle.serde_json_path_functions.specs.Functions.{Numbers}
use Rattle.serde_json_path_parser.specs.declared.error.ParseErrorKind.{ParseErrorKind}
use Rattle.serde_json_path_hints.specs.Hints.{Slip, first_hint, slips_of, hint_of, before_place, ahead_of_place}
use Rattle.serde_json_path_hints.specs.Inside.Lent.{slip_of}
use Rattle.serde_json_path_hints.proofs.Tables.{first_of_both}
use Rattle.serde_json_path_hints.proofs.hints.hint.Goals as goal

-- what is read of the error and of the text is the error's and the text
hint_is : (rule : Numbers) (kind read_kind : ParseErrorKind) (position read_position : ℕ) (text bytes : List ℕ) (own shared : List Slip)
    → (before ahead : List ℕ) → read_kind ≡ kind → read_position ≡ position → bytes ≡ text
    → before ≡ before_place read_position bytes → ahead ≡ ahead_of_place read_position bytes
    → own ++ shared ≡ slips_of rule read_kind
    → option_or (first_hint before ahead own) (first_hint before ahead shared) ≡ hint_of rule kind position text
hint_is rule kind read_kind position read_position text bytes own shared before ahead k p t is_before is_ahead are_slips =
    grind (arith, common_steps, first_of_both)

pub returns-in-Some : goal.returns-in-Some
returns-in-Some c =
    let own = map slip_of c.slips_of.result.0.now in
    let shared = map slip_of c.slips_of.result.1.now ++ map slip_of c.slips_of.result.2.now in
    let before = c.sides.result.0.now in
    let ahead = c.sides.result.1.now in
    let found : first_hint before ahead own ≡ Some c.in-Some.hint.now =
    sym c.first_there.ensures ∙ ap (option_map (λ s. s.now)) c.in-Some.is in
    sym (ap (λ o. option_or o (first_hint before ahead shared)) found)
    ∙ hint_is _ _ _ _ _ _ _ own shared before ahead c.kind.ensures c.position.ensures c.as_bytes.ensures.value
    c.sides.ensures.before c.sides.ensures.ahead c.slips_of.ensures

pub returns-in-None : goal.returns-in-None
returns-in-None c =
    let own = map slip_of c.slips_of.result.0.now in
    let shared = map slip_of c.slips_of.result.1.now ++ map slip_of c.slips_of.result.2.now in
    let before = c.sides.result.0.now in
    let ahead = c.sides.result.1.now in
    let none : first_hint before ahead own ≡ None =
    sym c.first_there.ensures ∙ ap (option_map (λ s. s.now)) c.in-None.is in
    c.first_of_two.ensures
    ∙ sym (ap (λ o. option_or o (first_hint before ahead shared)) none)
    ∙ hint_is _ _ _ _ _ _ _ own shared before ahead c.kind.ensures c.position.ensures c.as_bytes.ensures.value
    c.sides.ensures.before c.sides.ensures.ahead c.slips_of.ensures
