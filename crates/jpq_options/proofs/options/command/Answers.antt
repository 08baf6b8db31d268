use Rattle.jpq_options.proofs.Words.{codes, new_app, true, ◌≡◌, ◌∙◌, ap, ap₂, rules, IfOk-weaker, app_of, rule_of, with_rule, app_of_fields, on_top, file_rule, path_rule}
use Rattle.jpq_options.proofs.Commands.{base, whole_table}
use Rattle.jpq_options.proofs.options.command.Goals as goal

pub returns : goal.returns
returns c =
    let path_is : rule_of c.help-path.result ≡ path_rule = search rules in
    let file_is : rule_of c.help-file.result ≡ file_rule = search rules in
    let version_is : app_of c.version.result ≡ on_top (λ s. record s { has_version = true }) (new_app (codes "jpq")) = ap app_of_fields c.version.ensures ∙ ap (on_top (λ s. record s { has_version = true })) c.new-3.ensures.app in
    let about_is : app_of c.about.result ≡ app_of c.version.result = ap app_of_fields c.about.ensures in
    let usage_is : app_of c.override_usage.result ≡ app_of c.about.result = ap app_of_fields c.override_usage.ensures in
    let help_is : app_of c.after_help.result ≡ app_of c.override_usage.result = ap app_of_fields c.after_help.ensures in
    let override_is : app_of c.args_override_self.result ≡ base = ap app_of_fields c.args_override_self.ensures
    ∙ ap (on_top (λ s. record s { args_override_self = true })) (help_is ∙ usage_is ∙ about_is ∙ version_is) in
    let first_is = c.in_ok-arg.ensures.shape (search rules) ∙ ap₂ with_rule override_is path_is in
    let is : app_of c.in_ok-command.command ≡ with_rule (with_rule base path_rule) file_rule =
    c.in_ok-command.ensures.shape (search rules) ∙ ap₂ with_rule first_is file_is in
    IfOk-weaker c.with_options.result _ _ (λ r h. (c.color_parser.result, c.color_parser.ensures, h ∙ whole_table c.color_parser.result _ _ is c.option_rows.ensures)) c.with_options.ensures
