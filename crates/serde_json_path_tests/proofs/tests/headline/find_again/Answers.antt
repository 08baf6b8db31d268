use Rattle.serde_json_path_tests.proofs.Words.{◌≡◌, [], ◌∷◌, sym, subst, ◌∙◌, rules, chars, view, normal, whole_numbers, before_builtin, IsResult, IsAccepted, tree_to, path_tree, with_rule_of}
use Rattle.serde_json_path_tests.proofs.tests.headline.find_again.Goals as goal

pub unreachable-requires : goal.unreachable-requires
unreachable-requires g c =
    let location = c.args.location.now in
    let signature = (before_builtin (g.F.Functions.set c.args.functions.now)).signature in
    let text : c.as_str.result.now ≡ normal location = search rules in
    let law = c.law_normal.ensures location (c.law_locations_are_proper.ensures c.args.document.now location c.requires.there.0 c.requires.there.1) c.requires.written in
    c.in-Err.ensures.parse.refused (λ e. c.in_default.not-NoMemory (c.kind.ensures ∙ e)) (tree_to location)
    (subst (λ t. IsAccepted whole_numbers signature (chars t) (tree_to location)) (sym text) (law.accepted whole_numbers signature))

pub returns-in-Ok-query_located_with : goal.returns-in-Ok-query_located_with
returns-in-Ok-query_located_with g c = λ v there.
    let location = c.args.location.now in
    let top = view c.args.document.now in
    let F = with_rule_of c.in-Ok.path (before_builtin (g.F.Functions.set c.args.functions.now)) in
    let tree = path_tree c.in-Ok.path in
    let text : c.as_str.result.now ≡ normal location = search rules in
    let law = c.law_normal.ensures location (c.law_locations_are_proper.ensures c.args.document.now location c.requires.there.0 c.requires.there.1) c.requires.written in
    let same : tree ≡ tree_to location = law.only whole_numbers F.signature tree (subst (λ t. IsAccepted whole_numbers F.signature (chars t) tree) text c.in-Ok.ensures.parse.accepted) in
    c.law_result_is_unique.ensures F top tree top _ _
    c.in-Ok-query_located_with.ensures.selects
    (subst (λ q. IsResult F top q top (record { location = location; value = v } ∷ [])) (sym same) (law.selects F top v there))
