use Rattle.serde_json_path_core.proofs.Words.{◌≡◌, ◌∙◌, ap, nat_cmp, refl, is_lt, chars_rest, YieldsList-from_chars, cmp_from_yields_List, arith, nat_tests, common_steps}
use Rattle.serde_json_path_core.proofs.filter.compare.comes_before.Goals as goal

pub returns : goal.returns
returns c =
    let first = YieldsList-from_chars c.args.left.now c.utf8.left c.chars.ensures.rest in
    c.is_lt.ensures ∙ ap is_lt (cmp_from_yields_List (λ x y. y ≡ x) _ nat_cmp _ c.cmp.ensures.ran first
    (λ it e. YieldsList-from_chars c.args.right.now c.utf8.right (ap chars_rest e ∙ c.chars-2.ensures.rest)) (λ x y. refl))
