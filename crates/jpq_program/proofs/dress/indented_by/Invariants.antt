use Rattle.jpq_program.proofs.Words.{◌≡◌, ◌++◌, true, IsUtf8, chars, chars_rest, led_by, left_from, string_bytes}
use Rattle.jpq_program.proofs.dress.indented_by.Given as goal

abbrev pub invariant-loop-c : goal.invariant-loop-c
invariant-loop-c l = IsUtf8 (chars_rest l.c-iterator) × (string_bytes l.text ++ left_from l.fn.unit l.place (chars (chars_rest l.c-iterator)) ≡ led_by l.fn.unit true (chars l.fn.json))
