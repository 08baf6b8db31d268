-- What `clap` reads of a command as it is built.
use Rattle.jpq_options.proofs.Words.{append-nil, append_assoc, arith, common_steps, sym, ◌++◌, ◌∙◌, ◌≡◌, ◌<◌, true, codes, refl, ◌+◌, ℕ, List, [], ◌∷◌, map, fold, take, length, get_or, ap, map_more, App, Rule, new_app, with_rule, on_top, ValueParser, file_rule, jpq, path_rule, rule_of_setting, setting_of, settings, fold-append, OptionRow}

abbrev pub rule_of_row : ValueParser → OptionRow → Rule
rule_of_row colors row = rule_of_setting colors (setting_of row)

-- one more option
pub options_more : (colors : ValueParser) (app now new : App) (rows : List OptionRow) (i : ℕ) (d : OptionRow) (r : Rule) → i < length rows
    → now ≡ fold with_rule app (map (rule_of_row colors) (take i rows)) → r ≡ rule_of_row colors (get_or rows i d) → new ≡ with_rule now r
    → new ≡ fold with_rule app (map (rule_of_row colors) (take (i + 1) rows))
options_more colors app now new rows i d r lt before rule shape = grind (arith, common_steps, map_more, fold-append)

-- the command before its arguments
abbrev pub base : App
base = on_top (λ s. record s { args_override_self = true }) (on_top (λ s. record s { has_version = true }) (new_app (codes "jpq")))

map-rows : (colors : ValueParser) (rows : List OptionRow) → map (rule_of_row colors) rows ≡ map (rule_of_setting colors) (map setting_of rows)
map-rows colors [] = refl
map-rows colors (r ∷ rs) = ap (λ rules. rule_of_row colors r ∷ rules) (map-rows colors rs)

-- all options stand after the other rules
all_rules : (app : App) (rs : List Rule) → fold with_rule app rs ≡ on_top (λ s. record s { rules = s.rules ++ rs }) app
all_rules app [] = ap (λ rules. on_top (λ s. record s { rules = rules }) app) (sym (append-nil app.top.rules))
all_rules app (r ∷ rs) = all_rules (with_rule app r) rs ∙ ap (λ rules. on_top (λ s. record s { rules = rules }) app) (append_assoc app.top.rules (r ∷ []) rs)

pub whole_table : (colors : ValueParser) (app : App) (rows : List OptionRow) → app ≡ with_rule (with_rule base path_rule) file_rule → map setting_of rows ≡ settings
    → fold with_rule app (map (rule_of_row colors) rows) ≡ jpq colors
whole_table colors app rows app_is rows_are =
    all_rules app (map (rule_of_row colors) rows)
    ∙ ap (λ rs. on_top (λ s. record s { rules = s.rules ++ rs }) app) (map-rows colors rows ∙ ap (map (rule_of_setting colors)) rows_are)
    ∙ ap (on_top (λ s. record s { rules = s.rules ++ map (rule_of_setting colors) settings })) app_is
