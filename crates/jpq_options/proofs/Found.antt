-- What the getters of `clap` give, by rows.
use Rattle.jpq_options.proofs.Words.{arith, common_steps, ◌≡◌, Option, Some, None, ℕ, option_map, find, option_and_then, Text, matched_of, one_of, one_text, raw_values, rows_of, find_row, first_value-rows, one_text-rows, raw_values-rows, IsNumberIn, bytes_eq, Found}

pub source-rows : (f : Found) (id : Text)
    → option_and_then (λ a. a.source) (matched_of f id) ≡ option_and_then (λ r. r.source) (find (λ r. bytes_eq r.id id) (rows_of f))
source-rows f id = grind (arith, common_steps, find_row, option_map)

pub number_in : (f : Found) (id : Text) (most : Option ℕ) → (one_text f id ≡ None → most ≡ None) → ((t : Text) → one_text f id ≡ Some t → IsNumberIn (Some t) most)
    → IsNumberIn (one_of id (rows_of f)) most
number_in f id most none value = grind (arith, common_steps, one_text-rows)

-- what is found of an argument
pub ruleset of_found = (source-rows, raw_values-rows, first_value-rows, number_in)
