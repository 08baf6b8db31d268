use Rattle.std.specs.Prelude.{◌≡◌, take, true}
use Rattle.std.specs.List.{list_all}
use Rattle.jpq_program.specs.Colours.{is_in_fields}
use Rattle.jpq_program.proofs.colours.is_fields.Given as goal

abbrev pub invariant-loop-byte : goal.invariant-loop-byte
invariant-loop-byte l = list_all is_in_fields (take l.byte-index l.text) ≡ true
