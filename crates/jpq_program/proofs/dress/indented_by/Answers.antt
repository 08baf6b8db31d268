use Rattle.jpq_program.proofs.Words.{◌∙◌, ◌++◌, List, ℕ, ap, rules, sym, IsUtf8-past_char, chars, chars_past_char, chars_rest, left_from, string_bytes}
use Rattle.jpq_program.proofs.dress.indented_by.Goals as goal

pub loop-c-init : goal.loop-c-init
loop-c-init c = (search rules, search rules)

pub loop-c-preserved : goal.loop-c-preserved
loop-c-preserved c =
    let held = c.loop-c.invariant in
    let parts = c.in-Some.ensures.steps.0 in
    let step = chars_past_char _ _ c.in-Some.c held.0 parts in (
      IsUtf8-past_char _ _ c.in-Some.c held.0 parts,
      c.in_ok-place.ensures (chars (chars_rest c.next.new.self))
          ∙ ap (λ (cs : List ℕ). string_bytes c.loop-c.text ++ left_from c.args.unit.now c.loop-c.place cs) (sym step) ∙ held.1,
    )
