use Rattle.serde_json_path_nodes.proofs.Words.{◌≡◌, ℕ, List, ◌++◌, length, HasWritten, IsPlainFormatter, flat_map, chars, in_quotes}
use denote.Shadow.{shadow}
use denote.Text.{Utf8}
use Rattle.serde_json_path_nodes.proofs.quoted.write_inside.Given as goal

-- what is written of the text, and what is left of it
abbrev pub invariant-stretches : goal.invariant-stretches
invariant-stretches g l =
    shadow (Utf8 l.rest) × (done : List ℕ) × (done ++ flat_map in_quotes (chars l.rest) ≡ flat_map in_quotes (chars l.fn.text))
    × (IsPlainFormatter l.fn.f → HasWritten g.W.Write.write_str_gives l.fn.f done l.f)

abbrev pub decreases-stretches : goal.decreases-stretches
decreases-stretches g l = length l.rest
