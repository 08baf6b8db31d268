use Rattle.std.specs.Prelude.{◌≡◌, take, true}
use Rattle.std.specs.Char.{is_ascii_whitespace}
use Rattle.std.specs.List.{list_all}
use Rattle.jpq_program.proofs.documents.is_blank.Given as goal

abbrev pub invariant-loop-byte : goal.invariant-loop-byte
invariant-loop-byte l = list_all is_ascii_whitespace (take l.byte-index l.line) ≡ true
