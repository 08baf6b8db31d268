use Rattle.serde_json_path_tests.proofs.Words.{map, ap, ◌∙◌, view, at, step_view}
use Rattle.serde_json_path_tests.proofs.tests.normal_paths.finds_the_root_again.Goals as goal

pub find_again-requires-clause-there : goal.find_again-requires-clause-there
find_again-requires-clause-there c =
    let top = view c.in_ok-document.document in
    (top, ap (at top) (c.from_steps-root.ensures ∙ ap (map step_view) c.new.ensures.items))
