-- The first slip that is there of two tables, one after the other, is the first of the one, or else the first of the other.
use Rattle.std.proofs.lemmas.Grind.{common_steps}
use Rattle.std.proofs.Common.{◌≡◌, arith, ℕ, List, ◌++◌, Option, option_map}
use Rattle.std.specs.Option.{option_or}
use Rattle.std.proofs.lemmas.List.Folds.{find-append}
use Rattle.serde_json_path_hints.specs.Hints.{Slip, first_hint}

mapped : (one other : Option Slip)
    → option_map (λ s. s.2.now) (option_or one other)
    ≡ option_or (option_map (λ s. s.2.now) one) (option_map (λ s. s.2.now) other)
mapped one other = grind (arith, common_steps)

pub first_of_both : (before ahead : List ℕ) (own shared : List Slip)
    → first_hint before ahead (own ++ shared)
    ≡ option_or (first_hint before ahead own) (first_hint before ahead shared)
first_of_both before ahead own shared = grind (arith, common_steps, option_map, find-append, mapped)
