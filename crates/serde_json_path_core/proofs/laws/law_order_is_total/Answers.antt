use Rattle.serde_json_path_core.proofs.Words.{inl, inr, query, Before, arith, nat_tests, common_steps}
use Rattle.serde_json_path_core.proofs.Meaning.Derived.{computed_result}
use Rattle.serde_json_path_core.proofs.Meaning.Order.{before_once, in_order_total}
use Rattle.serde_json_path_core.proofs.laws.law_order_is_total.Goals as goal

pub returns : goal.returns
returns c = λ F top kind segs node xs ys typed h g different.
    let result = computed_result F top (query kind segs) node in
    let cases = in_order_total (Before segs) result.0 xs ys result.1 ((result.2 xs).1 h) ((result.2 ys).1 g) in
    (elim cases [ inl same ↦ absurd (different same) | inr either ↦ either ], before_once segs xs ys)
