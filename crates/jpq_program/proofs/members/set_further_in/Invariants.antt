use Rattle.jpq_program.proofs.Words.{◌≡◌, ◌++◌, IsUtf8, chars, chars_rest, flat_map, further_in, string_bytes}
use Rattle.jpq_program.proofs.members.set_further_in.Given as goal

abbrev pub invariant-loop-c : goal.invariant-loop-c
invariant-loop-c l = IsUtf8 (chars_rest l.c-iterator) × (string_bytes l.text ++ flat_map further_in (chars (chars_rest l.c-iterator)) ≡ flat_map further_in (chars l.fn.json))
