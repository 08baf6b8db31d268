use Rattle.jpq_program.proofs.Words.{◌≡◌, ◌++◌, flat_map, string_bytes, take, unit_escape}
use Rattle.jpq_program.proofs.dress.push_units.Given as goal

abbrev pub invariant-loop-unit : goal.invariant-loop-unit
invariant-loop-unit l = string_bytes l.text ≡ string_bytes l.fn.text ++ flat_map unit_escape (take l.unit-index l.units)
