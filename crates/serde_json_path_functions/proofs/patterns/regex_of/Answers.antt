use Rattle.std.proofs.Common.{◌≡◌, ◌∙◌, subst}
use Rattle.regex.specs.Failures.{IsRightKind}
use Rattle.regex.specs.Patterns.{Refuses, default_config}
use Rattle.serde_json_path_functions.specs.Patterns.{IsReadable}
use Rattle.serde_json_path_functions.specs.Patterns as spec
use Rattle.serde_json_path_functions.specs.Terms.{matching_view}
use Rattle.serde_json_path_functions.proofs.RegexAgrees.{refused_is_not_found}
use Rattle.serde_json_path_functions.proofs.patterns.regex_of.Goals as goal

pub returns-in-Syntax-clause-reading : goal.returns-in-Syntax-clause-reading
returns-in-Syntax-clause-reading c text _ =
    let failed = c.in-Err.ensures in
    let built : c.as_str.result.now ≡ spec.built_text (matching_view c.args.matching) c.args.pattern.now = c.as_str.ensures.value ∙ c.in_ok-built.ensures in
    let e = c.in-Syntax.field-0 in
    refused_is_not_found _ text e.kind
    (subst (λ source. Refuses default_config source e.kind) built (failed.by_grammar e c.in-Syntax.is))
    (subst (IsRightKind default_config c.as_str.result.now) c.in-Syntax.is failed.kind)
