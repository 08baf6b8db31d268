-- The words of definitions and lemmas that proofs cite, from one place.
unfoldable pub use Rattle.clap.proofs.OnLiterals.{clap_on_literals}
pub use Rattle.clap.proofs.WalkLemmas.{find_row, first_value-rows, one_text-rows, raw_values-rows}
pub use Rattle.clap.specs.Simple.{app_of_fields, on_top}
pub use Rattle.clap.specs.Walk.{is_empty}
pub use Rattle.clap.specs.Words.{App, IsAmong, Kinds, Row, Rule, Text, app_of, fault_of, found_of, is_simple, is_simple_and_free, kind_of, matched_of, matches_of, new_app, one_of, one_text, raw_values, rows_of, rule_of, with_rule}
pub use Rattle.clap.specs.declared.builder.value_parser.ValueParser.{ValueParser}
pub use Rattle.clap.specs.declared.error.kind.ErrorKind.{ErrorKind}
pub use Rattle.clap.specs.declared.error.kind.ErrorKind.TheVariants.{ArgumentConflict, OutOfMemory}
pub use Rattle.clap.specs.declared.parser.matches.Found.{Found}
pub use Rattle.jpq_options.specs.Options.{AreOptions, IsNumberIn, IsPrintOf, IsRefusal, IsRequestOf, IsTold, checks_file, first_form, form_of_row, forms, given_forms, has_two, is_request, is_table, kind_of_misuse, lacks_path, lacks_table, misuse_by, misuse_in, texts}
pub use Rattle.jpq_options.specs.Pairs.{conflicts, is_given, is_given_so, needs, pair_of_row, values_of}
pub use Rattle.jpq_options.specs.Paths.{comment_start, path_in_line, trimmed}
pub use Rattle.jpq_options.specs.Table.{file_rule, jpq, path_rule, rule_of_setting, setting_of, settings}
pub use Rattle.jpq_options.specs.declared.options.OptionRow.{OptionRow}
pub use Rattle.jpq_options.specs.declared.options.Options.{Options}
pub use Rattle.jpq_options.specs.declared.options.Request.{Request}
pub use Rattle.jpq_options.specs.declared.options.Request.TheVariants.{Print, Run, WrongUse}
pub use Rattle.jpq_options.specs.declared.options.Shown.{Shown}
pub use Rattle.serde_json_path_nodes.proofs.Words.{AllocError, Bool, IfOk, IfOk-weaker, IsErr, List, MatchOption, None, Option, Result, Some, YieldsList-from_map_by, [], ap, ap₂, arith, bytes_eq, codes, common_steps, cond, eq-eqb, false, filter, find, fold, get_or, is_some, length, length-map, map, map_more, ne_eqb, not, option_and_then, option_map, refl, rules, subst, sym, take, take_all, take_more, tests, true, unwrap_or, ℕ, ◌&&◌, ◌++◌, ◌+◌, ◌<◌, ◌∙◌, ◌∷◌, ◌≡◌, ◌≢◌, ◌⊎◌}
pub use Rattle.serde_json_path_syntax.proofs.Words.{Bor, fold-append}
pub use Rattle.std.proofs.lemmas.Iterator.Consumers.{YieldsList-at, map_from_collect}
pub use Rattle.std.proofs.lemmas.Iterator.Splits.{YieldsList-from_str_split}
pub use Rattle.std.proofs.Common.{inl, append-nil, append_assoc}
pub use Rattle.std.proofs.lemmas.Str.Ascii.{trim_ascii_is}
pub use Rattle.std.specs.List.{list_any}
pub use Rattle.std.proofs.lemmas.List.Folds.{list_any_at}
pub use Rattle.std.specs.Prelude.{drop, ◌||◌}
