-- Whether options are given, and which of them may not be used together or not alone.
use Rattle.std.specs.Prelude.{◌&&◌, Bool, true, false, if◌then◌else◌, not, List, [], ◌∷◌, codes, find, Option, Some, None, option_and_then, unwrap_or}
use Rattle.std.specs.Str.{bytes_eq}
use Rattle.std.specs.Borrow.{Bor}
use Rattle.clap.specs.Words.{Row, Text, all_of}
use Rattle.clap.specs.declared.parser.matches.ValueSource.{ValueSource}
use Rattle.clap.specs.declared.parser.matches.ValueSource.TheVariants.{CommandLine}

-- ---- what was found, a row for each argument

abbrev pub is_of_words : Option ValueSource → Bool
is_of_words (Some CommandLine) = true
is_of_words _ = false

-- the words have the argument
abbrev pub is_given : Text → List Row → Bool
is_given id rows = is_of_words (option_and_then (λ r. r.source) (find (λ r. bytes_eq r.id id) rows))

abbrev pub values_of : Text → List Row → List Text
values_of id rows = unwrap_or (all_of id rows) []

-- ---- pairs of options

-- a row of the code's tables
abbrev pub pair_of_row : Bor Text × Bor Text → Text × Text
pair_of_row p = (p.0.now, p.1.now)

-- the options that are used with another one alone
abbrev pub needs : List (Text × Text)
needs = (codes "strict", codes "lines") ∷ (codes "line-number", codes "lines")
    ∷ (codes "total", codes "count") ∷ []

-- the options that may not be used together
abbrev pub conflicts : List (Text × Text)
conflicts = (codes "check", codes "values") ∷ (codes "check", codes "raw")
    ∷ (codes "check", codes "locations") ∷ (codes "check", codes "pointers")
    ∷ (codes "check", codes "json") ∷ (codes "check", codes "tsv") ∷ (codes "check", codes "csv")
    ∷ (codes "check", codes "count") ∷ (codes "check", codes "quiet")
    ∷ (codes "check", codes "lines") ∷ (codes "check", codes "max")
    ∷ (codes "check", codes "max-all") ∷ (codes "check", codes "unique")
    ∷ (codes "check", codes "pretty") ∷ (codes "check", codes "indent")
    ∷ (codes "check", codes "tab") ∷ (codes "check", codes "ascii") ∷ (codes "check", codes "null")
    ∷ (codes "check", codes "with-filename") ∷ (codes "check", codes "no-filename")
    ∷ (codes "check", codes "no-path-number") ∷ (codes "count", codes "pretty")
    ∷ (codes "count", codes "indent") ∷ (codes "count", codes "tab")
    ∷ (codes "count", codes "ascii") ∷ (codes "quiet", codes "pretty")
    ∷ (codes "quiet", codes "indent") ∷ (codes "quiet", codes "tab")
    ∷ (codes "quiet", codes "ascii") ∷ (codes "quiet", codes "null")
    ∷ (codes "tsv", codes "max") ∷ (codes "tsv", codes "max-all") ∷ (codes "tsv", codes "unique")
    ∷ (codes "tsv", codes "pretty") ∷ (codes "tsv", codes "indent") ∷ (codes "tsv", codes "tab")
    ∷ (codes "tsv", codes "ascii") ∷ (codes "csv", codes "max") ∷ (codes "csv", codes "max-all")
    ∷ (codes "csv", codes "unique") ∷ (codes "csv", codes "pretty") ∷ (codes "csv", codes "indent")
    ∷ (codes "csv", codes "tab") ∷ (codes "csv", codes "ascii") ∷ (codes "indent", codes "tab")
    ∷ (codes "with-filename", codes "no-filename") ∷ []

-- the first option is given, and the second one too, or not
abbrev pub is_given_so : Bool → List Row → Text × Text → Bool
is_given_so both rows p =
    is_given p.0 rows && (if both then is_given p.1 rows else not (is_given p.1 rows))
