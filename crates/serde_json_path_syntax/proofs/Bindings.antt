-- What a text stands for, binding by binding.
use Rattle.serde_json_path_syntax.proofs.Words.{◌≡◌, ◌+◌, ◌<◌, ℕ, List, drop, drop_all, drop_more, get_or, length, ap, bytes_eq, if◌then◌else◌, bytes_eq-Decides, nat_tests, common_steps}
use Rattle.serde_json_path_syntax.specs.Bindings.{pairs_of}
use Rattle.serde_json_path_syntax.specs.Bound.{value_in}
use Rattle.serde_json_path_syntax.specs.declared.binding.Binding.{Binding}

pub value_from : (bindings : List Binding) (i : ℕ) (d : Binding) (t : List ℕ) → i < length bindings
    → value_in (pairs_of (drop i bindings)) t
    ≡ (if bytes_eq (get_or bindings i d).text.now t then (get_or bindings i d).value.now else value_in (pairs_of (drop (i + 1) bindings)) t)
value_from bindings i d t h = ap (λ rest. value_in (pairs_of rest) t) (drop_more bindings i d h)

pub ruleset of_values = (nat_tests, common_steps, drop_all, value_from, bytes_eq-Decides)
