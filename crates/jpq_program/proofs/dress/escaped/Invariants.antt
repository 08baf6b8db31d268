use Rattle.jpq_program.proofs.Words.{◌≡◌, ◌++◌, IsUtf8, chars, chars_rest, flat_map, in_ascii, string_bytes}
use Rattle.jpq_program.proofs.dress.escaped.Given as goal

abbrev pub invariant-loop-c : goal.invariant-loop-c
invariant-loop-c l = IsUtf8 (chars_rest l.c-iterator) × (string_bytes l.text ++ flat_map in_ascii (chars (chars_rest l.c-iterator)) ≡ flat_map in_ascii (chars l.fn.line))
