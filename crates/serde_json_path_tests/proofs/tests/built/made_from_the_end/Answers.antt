use Rattle.serde_json_path_tests.proofs.Words.{string_bytes, a_selector}
use Rattle.serde_json_path_syntax.specs.Tree as tree
use Rattle.serde_json_path_tests.proofs.tests.built.made_from_the_end.Goals as goal

pub two_names-requires-clause-second : goal.two_names-requires-clause-second
two_names-requires-clause-second c =
    let bytes = string_bytes c.in_ok-from_str.field-0 in
    (bytes, c.name-2.ensures.keeps.trees c.in_ok-second.second (a_selector (tree.name bytes)) c.in_ok-second.ensures.made)
