-- The options of `jpq`, and the command by which its words are read.
use Rattle.std.specs.Prelude.{◌≡◌, ◌-◌, ◌^◌, ℕ, List, [], ◌∷◌, map, Option, Some, None, codes, true}
use Rattle.std.specs.Borrow.{Bor}
use Rattle.clap.specs.Words.{App, Rule, Text, new_rule}
use Rattle.clap.specs.Simple.{new_shape}
use Rattle.clap.specs.declared.builder.action.ArgAction.TheVariants.{Set, Append, SetTrue}
use Rattle.clap.specs.declared.builder.value_parser.ValueParser.{ValueParser}
use Rattle.jpq_options.specs.declared.options.Takes.{Takes}
use Rattle.jpq_options.specs.declared.options.Takes.TheVariants.{Nothing, Path, File, Binding, Number, Width, When}
use Rattle.jpq_options.specs.declared.options.OptionRow.{OptionRow}
use Rattle.clap.specs.declared.builder.value_parser.ValueParser.TheVariants as parser

-- an option: its long name, its letter, and what the word after it is
pub record Setting : Type 0 where
  pub name : Text
  pub short : Option ℕ
  pub takes : Takes

abbrev pub setting : Text → Option ℕ → Takes → Setting
setting name short takes = record { name = name; short = short; takes = takes }

-- the options; 118 is the letter `v`, and so on
abbrev pub settings : List Setting
settings =
    setting (codes "values") (Some 118) Nothing
    ∷ setting (codes "raw") (Some 114) Nothing
    ∷ setting (codes "locations") (Some 108) Nothing
    ∷ setting (codes "pointers") (Some 112) Nothing
    ∷ setting (codes "json") (Some 106) Nothing
    ∷ setting (codes "tsv") None Nothing
    ∷ setting (codes "csv") None Nothing
    ∷ setting (codes "count") (Some 99) Nothing
    ∷ setting (codes "quiet") (Some 113) Nothing
    ∷ setting (codes "header") None Nothing
    ∷ setting (codes "pretty") None Nothing
    ∷ setting (codes "indent") None Width
    ∷ setting (codes "tab") None Nothing
    ∷ setting (codes "ascii") None Nothing
    ∷ setting (codes "null") (Some 48) Nothing
    ∷ setting (codes "max") (Some 110) Number
    ∷ setting (codes "max-all") (Some 109) Number
    ∷ setting (codes "total") None Nothing
    ∷ setting (codes "unique") (Some 117) Nothing
    ∷ setting (codes "lines") (Some 76) Nothing
    ∷ setting (codes "line-number") None Nothing
    ∷ setting (codes "with-filename") None Nothing
    ∷ setting (codes "no-filename") None Nothing
    ∷ setting (codes "no-path-number") None Nothing
    ∷ setting (codes "strict") None Nothing
    ∷ setting (codes "check") None Nothing
    ∷ setting (codes "whole-numbers") None Nothing
    ∷ setting (codes "silent") (Some 115) Nothing
    ∷ setting (codes "color") None When
    ∷ setting (codes "expression") (Some 101) Path
    ∷ setting (codes "from-file") (Some 102) File
    ∷ setting (codes "let") None Binding
    ∷ []

-- a parser of the words that `--color` takes
abbrev pub IsColorParser : ValueParser → Type 0
IsColorParser p = (names : Bor (List (Bor Text))) × (p ≡ parser.Names names)
    × (map (λ s. s.now) names.now ≡ codes "auto" ∷ codes "always" ∷ codes "never" ∷ [])

-- the rule by which `clap` reads an option
abbrev pub taking : ValueParser → Takes → Rule → Rule
taking colors Nothing r = record r { action = Some SetTrue }
taking colors Path r = record r { action = Some Append; value_names = 1 }
taking colors File r = record r { action = Some Append; value_names = 1 }
taking colors Binding r = record r { action = Some Append; value_names = 1 }
taking colors Number r =
    record r { action = Some Set; value_names = 1; parser = Some (parser.Unsigned 0 (2 ^ 64 - 1)) }
taking colors Width r =
    record r { action = Some Set; value_names = 1; parser = Some (parser.Unsigned 0 16) }
taking colors When r = record r {
  action = Some Set;
  value_names = 1;
  parser = Some colors;
  defaults = codes "auto" ∷ [];
}

abbrev pub rule_of_setting : ValueParser → Setting → Rule
rule_of_setting colors s =
    taking colors s.takes (record (new_rule s.name) { long = Some s.name; short = s.short })

-- an option of the code's table
abbrev pub setting_of : OptionRow → Setting
setting_of row = setting row.name.now row.short row.takes

-- the first word that is no option, and those after it
abbrev pub path_rule : Rule
path_rule = record (new_rule (codes "path")) { value_names = 1 }

abbrev pub file_rule : Rule
file_rule = record (new_rule (codes "file")) { value_names = 1; action = Some Append }

-- The command of `jpq`. Of an option that is used twice the last use counts.
abbrev pub jpq : ValueParser → App
jpq colors = record {
  top = record (new_shape (codes "jpq")) {
    has_version = true;
    args_override_self = true;
    rules = path_rule ∷ file_rule ∷ map (rule_of_setting colors) settings;
  };
  subs = [];
}
