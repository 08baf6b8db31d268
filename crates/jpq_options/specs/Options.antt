-- What the words of `jpq` ask for.
use Rattle.std.specs.Prelude.{◌≡◌, ◌⊎◌, ◌++◌, ◌&&◌, ◌||◌, not, ℕ, Bool, true, false, if◌then◌else◌, List, [], ◌∷◌, map, codes, Option, Some, None, string_bytes}
use Rattle.std.specs.List.{filter, list_any}
use Rattle.std.specs.Str.{bytes_eq}
use Rattle.std.specs.Borrow.{Bor}
use Rattle.std.specs.Str.Parse.{ParsesUnsigned, ExplainsUnsignedError, HasUnsignedDigitsIfOk}
use Rattle.clap.specs.Words.{IsAmong, Kinds, ReadsOne, Row, Text, fault_of, first_of, matches_of, one_of}
use Rattle.clap.specs.Walk.{is_empty}
use Rattle.clap.specs.declared.builder.value_parser.ValueParser.{ValueParser}
use Rattle.clap.specs.declared.error.kind.ErrorKind.{ErrorKind}
use Rattle.clap.specs.declared.error.kind.ErrorKind.TheVariants.{ArgumentConflict, DisplayHelp, DisplayVersion, MissingRequiredArgument}
use Rattle.jpq_options.specs.Pairs.{conflicts, is_given, is_given_so, needs, values_of}
use Rattle.jpq_options.specs.Table.{IsColorParser, jpq}
use Rattle.jsonpath_lines.specs.declared.forms.Layout.{Layout}
use Rattle.jsonpath_lines.specs.declared.forms.Layout.TheVariants.{Compact, Pretty}
use Rattle.jsonpath_lines.specs.declared.forms.LineEnd.{LineEnd}
use Rattle.jsonpath_lines.specs.declared.forms.LineEnd.TheVariants.{LineFeed, Nul}
use Rattle.jpq_options.specs.declared.options.Color.{Color}
use Rattle.jpq_options.specs.declared.options.Color.TheVariants.{Auto, Always, Never}
use Rattle.jpq_options.specs.declared.options.Options.{Options}
use Rattle.jpq_options.specs.declared.options.Request.{Request}
use Rattle.jpq_options.specs.declared.options.Request.TheVariants.{Run, Print, WrongUse}
use Rattle.jpq_options.specs.declared.options.Shown.{Shown}
use Rattle.jpq_options.specs.declared.options.Shown.TheVariants.{Nodes, Tsv, Csv}
use Rattle.jpq_options.specs.declared.misuse.Misuse.{Misuse}
use Rattle.jpq_options.specs.declared.misuse.Misuse.TheVariants.{Together, Without, NoPath, CheckOfFile}
use Rattle.jsonpath_lines.specs.declared.forms.Form.TheVariants as lines

-- ---- the paths and the files

-- an option has the paths, and so the first word is a file
abbrev pub has_path_option : List Row → Bool
has_path_option rows = is_given (codes "expression") rows || is_given (codes "from-file") rows

abbrev pub paths_of : List Row → List Text
paths_of rows =
    if has_path_option rows then values_of (codes "expression") rows else values_of (codes "path") rows

abbrev pub files_of : List Row → List Text
files_of rows =
    if has_path_option rows then values_of (codes "path") rows ++ values_of (codes "file") rows
    else values_of (codes "file") rows

-- ---- the form

-- the options of which one may be used, and what each asks to show
abbrev pub forms : List (Text × Shown)
forms = (codes "values", Nodes lines.Value) ∷ (codes "raw", Nodes lines.Raw)
    ∷ (codes "locations", Nodes lines.Location) ∷ (codes "pointers", Nodes lines.Pointer)
    ∷ (codes "json", Nodes lines.Json) ∷ (codes "tsv", Tsv) ∷ (codes "csv", Csv)
    ∷ (codes "count", Nodes lines.Count) ∷ (codes "quiet", Nodes lines.Nothing) ∷ []

-- a row of the code's table
abbrev pub form_of_row : Bor Text × Shown → Text × Shown
form_of_row f = (f.0.now, f.1)

abbrev pub given_forms : List (Text × Shown) → List Row → List (Text × Shown)
given_forms all rows = filter (λ f. is_given f.0 rows) all

abbrev pub first_form : List (Text × Shown) → Shown
first_form [] = Nodes lines.LocationAndValue
first_form (f ∷ fs) = f.1

abbrev pub has_two : List (Text × Shown) → Bool
has_two (f ∷ g ∷ fs) = true
has_two _ = false

-- ---- the other options

-- some option asks for indented values
abbrev pub is_indented : List Row → Bool
is_indented rows =
    is_given (codes "pretty") rows || (is_given (codes "indent") rows || is_given (codes "tab") rows)

abbrev pub layout_of : Bool → Layout
layout_of indented = if indented then Pretty else Compact

abbrev pub end_of : Bool → LineEnd
end_of null = if null then Nul else LineFeed

abbrev pub color_in : Option Text → Color
color_in None = Auto
color_in (Some word) =
    if bytes_eq word (codes "always") then Always
    else if bytes_eq word (codes "never") then Never else Auto

-- a number as `u64` reads it, where there is a word; `clap` has held the word to be one
abbrev pub IsNumberIn : Option Text → Option ℕ → Type 0
IsNumberIn None most = most ≡ None
IsNumberIn (Some word) most =
    ReadsOne (λ text r. ParsesUnsigned 64 10 text r × ExplainsUnsignedError 10 text r
    × HasUnsignedDigitsIfOk text r) word most

abbrev pub texts : List (Bor Text) → List Text
texts = map (λ s. s.now)

-- The options are those that the rows ask for, and this is shown.
pub record AreOptions (rows : List Row) (form : Shown) (o : Options) : Type 0 where
  pub paths : texts o.paths.items ≡ paths_of rows
  pub paths_files : texts o.paths_files.items ≡ values_of (codes "from-file") rows
  pub bindings : texts o.bindings.items ≡ values_of (codes "let") rows
  pub files : texts o.files.items ≡ files_of rows
  pub shown : o.shown ≡ form
  pub header : o.header ≡ is_given (codes "header") rows
  pub layout : o.layout ≡ layout_of (is_indented rows)
  pub indent : IsNumberIn (one_of (codes "indent") rows) o.indent
  pub tab : o.tab ≡ is_given (codes "tab") rows
  pub ascii : o.ascii ≡ is_given (codes "ascii") rows
  pub end : o.end ≡ end_of (is_given (codes "null") rows)
  pub most : IsNumberIn (one_of (codes "max") rows) o.most
  pub most_of_all : IsNumberIn (one_of (codes "max-all") rows) o.most_of_all
  pub total : o.total ≡ is_given (codes "total") rows
  pub unique : o.unique ≡ is_given (codes "unique") rows
  pub lines : o.lines ≡ is_given (codes "lines") rows
  pub line_number : o.line_number ≡ is_given (codes "line-number") rows
  pub with_filename : o.with_filename ≡ is_given (codes "with-filename") rows
  pub no_filename : o.no_filename ≡ is_given (codes "no-filename") rows
  pub no_path_number : o.no_path_number ≡ is_given (codes "no-path-number") rows
  pub strict : o.strict ≡ is_given (codes "strict") rows
  pub check : o.check ≡ is_given (codes "check") rows
  pub whole_numbers : o.whole_numbers ≡ is_given (codes "whole-numbers") rows
  pub silent : o.silent ≡ is_given (codes "silent") rows
  pub color : o.color ≡ color_in (first_of (codes "color") rows)

-- ---- wrong use

abbrev pub lacks_path : List Row → Bool
lacks_path rows = is_empty (paths_of rows) && is_empty (values_of (codes "from-file") rows)

abbrev pub checks_file : List Row → Bool
checks_file rows = is_given (codes "check") rows && not (is_empty (files_of rows))

-- what is shown is a table
abbrev pub is_table : Shown → Bool
is_table (Nodes form) = false
is_table _ = true

-- the paths are to be the first row of what is no table
abbrev pub lacks_table : Shown → List Row → Bool
lacks_table shown rows = is_given (codes "header") rows && not (is_table shown)

-- what is told of a misuse
abbrev pub text_of_misuse : Misuse → List ℕ
text_of_misuse (Together one other) = codes "the argument '--" ++ (one.now ++ (codes "' cannot be used with '--" ++ (other.now ++ codes "'")))
text_of_misuse (Without other) = codes "the following required arguments were not provided:\n  --" ++ other.now
text_of_misuse NoPath = codes "the following required arguments were not provided:\n  <PATH>"
text_of_misuse CheckOfFile = codes "the argument '--check' cannot be used with '[FILE]...'"

abbrev pub kind_of_misuse : Misuse → ErrorKind
kind_of_misuse (Together one other) = ArgumentConflict
kind_of_misuse (Without other) = MissingRequiredArgument
kind_of_misuse NoPath = MissingRequiredArgument
kind_of_misuse CheckOfFile = ArgumentConflict

-- the kind of what is wrong where each option alone is right: no path, a document where none is read, options that may not be
-- used together, or one without that which it needs
abbrev pub misuse_by : Shown → List Row → Option ErrorKind
misuse_by shown rows =
    if lacks_path rows then Some MissingRequiredArgument
    else if checks_file rows then Some ArgumentConflict
    else if list_any (is_given_so true rows) conflicts then Some ArgumentConflict
    else if list_any (is_given_so false rows) needs then Some MissingRequiredArgument
    else if lacks_table shown rows then Some MissingRequiredArgument
    else None

-- the same, and two forms before all else
abbrev pub misuse_in : List Row → Option ErrorKind
misuse_in rows = if has_two (given_forms forms rows) then Some ArgumentConflict
    else misuse_by (first_form (given_forms forms rows)) rows

-- ---- the answer

-- the kind asks for a text, and is no fault
abbrev pub is_request : ErrorKind → Bool
is_request DisplayHelp = true
is_request DisplayVersion = true
is_request _ = false

-- what is printed for it: of a version its line, and of help a text of which no clause says more
abbrev pub IsPrintOf : ErrorKind → List ℕ → Type 0
IsPrintOf DisplayHelp text = Unit {0}
IsPrintOf DisplayVersion text = text ≡ codes "jpq 0.7.2\n"
IsPrintOf _ text = ⊥

-- what tells an answer of `clap` of this kind
abbrev pub IsTold : ErrorKind → Request → Type 0
IsTold kind (Run options) = ⊥
IsTold kind (Print text) = IsPrintOf kind (string_bytes text)
IsTold kind (WrongUse told text) = (told ≡ kind) × (is_request kind ≡ false)

-- what tells a misuse of this kind
abbrev pub IsRefusal : ErrorKind → Request → Type 0
IsRefusal kind (WrongUse told text) = told ≡ kind
IsRefusal kind _ = ⊥

-- what is answered where the parse gives these rows, or may fail by these kinds
abbrev pub IsRequestOf : Kinds → List Row → Request → Type 0
IsRequestOf faults rows (Run options) = (faults ≡ []) × (misuse_in rows ≡ None)
    × AreOptions rows (first_form (given_forms forms rows)) options
IsRequestOf faults rows (Print text) =
    (kind : ErrorKind) × IsAmong kind faults × IsPrintOf kind (string_bytes text)
IsRequestOf faults rows (WrongUse kind text) = (IsAmong kind faults × (is_request kind ≡ false))
    ⊎ ((faults ≡ []) × (misuse_in rows ≡ Some kind))

-- The words ask for this: the parse by the command of `jpq` finds what was found, or fails.
abbrev pub AsksFor : List Text → Request → Type 0
AsksFor words asked = (colors : ValueParser) × IsColorParser colors
    × IsRequestOf (fault_of (jpq colors) words) (matches_of (jpq colors) words) asked
