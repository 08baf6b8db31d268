use Rattle.serde_json_path_syntax.proofs.Words.{◌≡◌, ℕ, ◌-◌, List, ◌++◌, HasWritten, IsPlainFormatter, fraction_digits, fraction_text}
use Rattle.serde_json_path_syntax.proofs.print.literals.write_fraction.Given as goal

-- what is printed and the digits of the rest are the whole text
abbrev pub invariant-loop : goal.invariant-loop
invariant-loop g l =
    IsPlainFormatter l.fn.f → (done : List ℕ) × HasWritten g.W.Write.write_str_gives l.fn.f done l.f
    × (done ++ fraction_digits (9 - l.counter) l.rest ≡ fraction_text l.fn.fraction)
