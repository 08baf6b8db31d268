use Rattle.jpq_program.proofs.Words.{◌∙◌, IfOk-weaker, List, Option, String, Global, ℕ, ap, chars, indented, led_by, string_bytes, sym, true}
use Rattle.std.specs.Prelude.{option_map}
use Rattle.jpq_program.proofs.dress.Dress.indented.Goals as goal

pub returns-in-Some : goal.returns-in-Some
returns-in-Some c = IfOk-weaker c.indented_by.result _ _ (λ made is. is
    ∙ ap (λ (unit : List ℕ). led_by unit true (chars c.as_str.result.now)) c.as_str-in-Some.ensures.value ∙ ap (λ (t : List ℕ). led_by (string_bytes c.in-Some.unit) true (chars t)) c.as_str.ensures.value
    ∙ ap (λ (i : Option (String Global)). indented (option_map string_bytes i) (string_bytes c.args.text)) (sym c.in-Some.is)) c.indented_by.ensures
