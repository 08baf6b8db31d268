use Rattle.serde_json_path_tests.proofs.Words.{◌≡◌, [], ◌∷◌, ◌++◌, true, map, ap, ◌∙◌, array, view, items_view, view-Array, by_position, at, step_view, Index}
use Rattle.serde_json.specs.declared.value.Value as value
use Rattle.serde_json_path_tests.proofs.tests.normal_paths.finds_an_item_again.Goals as goal

pub find_again-requires-clause-there : goal.find_again-requires-clause-there
find_again-requires-clause-there c =
    let made = c.push-2.new.self in
    let items : made.items ≡ value.Null ∷ value.Bool true ∷ [] =
    c.in_ok-push-2.ensures.items ∙ ap (λ vs. vs ++ value.Bool true ∷ []) (c.in_ok-push.ensures.items ∙ ap (λ vs. vs ++ value.Null ∷ []) c.new-items.ensures.items) in
    let steps : c.from_steps-location.result ≡ by_position 1 ∷ [] =
    c.from_steps-location.ensures ∙ ap (map step_view) (c.in_ok-push-3.ensures.items ∙ ap (λ es. es ++ Index 1 ∷ []) c.new-steps.ensures.items) in
    let seen : view (value.Array made) ≡ array (items_view (value.Null ∷ value.Bool true ∷ [])) = view-Array made ∙ ap (λ vs. array (items_view vs)) items in
    (view (value.Bool true), ap (at (view (value.Array made))) steps ∙ ap (λ d. at d (by_position 1 ∷ [])) seen)
