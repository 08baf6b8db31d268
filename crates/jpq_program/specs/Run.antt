-- What comes of a run: the exit status, what went out, and what was told.
use Rattle.std.specs.List.{AllZip, filter, flat_map}
use Rattle.std.specs.Prelude.{◌≡◌, ◌≢◌, ◌≤◌, take, ◌⊎◌, ◌&&◌, ◌||◌, not, ℕ, Bool, true, false, List, [], ◌∷◌, ◌++◌, length, map, MatchBool, nat_eq, nat_lt, replicate, Option, None, Ok, Some, codes, if◌then◌else◌, option_map, string_bytes, unwrap_or}
use Rattle.std.specs.Fmt.{decimal}
use Rattle.std.specs.Io.KnownBytes.{Appends}
use Rattle.serde_json_path_functions.specs.Functions.{Numbers, all_numbers, whole_numbers}
use Rattle.serde_json_path_functions.specs.Patterns.{builtin_functions}
use Rattle.serde_json_path_syntax.specs.Bound.{bound, value_in}
use Rattle.serde_json_path_syntax.specs.Text.{query_text}
use Rattle.serde_json_path_parser.specs.Parse.{IsParseOf}
use Rattle.serde_json_path.specs.Paths.{path_rule, path_signatures, path_tree, path_view}
use Rattle.serde_json_path.specs.declared.path.JsonPath.{JsonPath}
use Rattle.jsonpath_lines.specs.Output.{end_text}
use Rattle.jsonpath_lines.specs.Sent.{AppendsBeginning}
use Rattle.jsonpath_lines.specs.declared.forms.Form.{Form}
use Rattle.jsonpath_lines.specs.declared.forms.Form.TheVariants.{Nothing, Raw}
use Rattle.jsonpath_lines.specs.declared.forms.Output.{Output}
use Rattle.jpq_options.specs.Options.{is_table}
use Rattle.jpq_options.specs.Paths.{path_lines}
use Rattle.jpq_options.specs.declared.options.Color.{Color}
use Rattle.jpq_options.specs.declared.options.Color.TheVariants.{Always, Auto, Never}
use Rattle.jpq_options.specs.declared.options.Options.{Options}
use Rattle.jpq_options.specs.declared.options.Request.{Request}
use Rattle.jpq_options.specs.declared.options.Request.TheVariants.{Run, Print, WrongUse}
use Rattle.jpq_options.specs.declared.options.Shown.{Shown}
use Rattle.jpq_options.specs.declared.options.Shown.TheVariants.{Nodes}
use Rattle.jpq_program.specs.Answers.{IsShownInPart, IsShownOn}
use Rattle.jpq_program.specs.Bindings.{bindings_in}
use Rattle.jpq_program.specs.Colours.{colours_for}
use Rattle.jpq_program.specs.Heads.{head_in}
use Rattle.jpq_program.specs.Inputs.{AreInputsShown, AreKnown, IsNamedShown, IsUntil, Opens, OpensFirst, OpensWanted, Shown as DocumentShown, without_mark}
use Rattle.jpq_program.specs.Looks.{Look, is_array}
use Rattle.jpq_program.specs.Rows.{IsRowInPart, IsRowOn, first_cells, header_cells, row_line}
use Rattle.jpq_program.specs.declared.colours.Colours.{Colours}
use Rattle.jpq_program.specs.declared.streams.Streams.{Streams}

-- the exit status of a run with options: 64 only where values are bound to names, as no path may have one; else 0 where something is
-- selected, 1 where nothing is, 2 where something is refused, and 3 where the output fails; no clause says which
abbrev pub IsStatusOf : Options → ℕ → Type 0
IsStatusOf options status = (status ≤ 3) ⊎ ((status ≡ 64) × (options.bindings.items ≢ []))

-- ---- what options ask for

-- the rule for numbers
abbrev pub rule_in : Options → Numbers
rule_in options = if options.whole_numbers then whole_numbers else all_numbers

-- How texts are read as paths: by which rule for numbers, and which values texts of their literals stand for.
pub record Reading : Type 0 where
  pub numbers : Numbers
  pub bindings : List (List ℕ × List ℕ)

abbrev pub reading_in : Options → Reading
reading_in options = record { numbers = rule_in options; bindings = bindings_in (map (λ word. word.now) options.bindings.items) }

-- a path is another one with these values in it
abbrev pub IsBound : List (List ℕ × List ℕ) → JsonPath → JsonPath → Type 0
IsBound bindings plain path = path_view path
    ≡ record { tree = bound (value_in bindings) (path_tree plain); signatures = path_signatures plain; rule = path_rule plain }

-- the text is a path of the built-in functions, which is this one once values are in it
abbrev pub IsPathOf : Reading → List ℕ → JsonPath → Type 0
IsPathOf reading text path = (plain : JsonPath)
    × IsParseOf path_view reading.numbers builtin_functions.signature text (Ok plain) × IsBound reading.bindings plain path

-- the same of several texts
abbrev pub ArePaths : Reading → List (List ℕ) → List JsonPath → Type 0
ArePaths reading texts paths = AllZip (IsPathOf reading) texts paths

-- what is shown of nodes
abbrev pub form_in : Shown → Form
form_in (Nodes form) = form
form_in _ = Raw

abbrev pub output_in : Options → Output
output_in options = record { form = form_in options.shown; layout = options.layout; end = options.end; unique = options.unique; most = options.most }

-- what a level is indented by, where that is not two spaces
abbrev pub unit_in : Options → Option (List ℕ)
unit_in options = if options.tab then Some (codes "\t") else option_map (λ count. replicate count 32) options.indent

-- lines have colours: always, or where the output takes them and the options do not say never
abbrev pub is_colored : Color → Bool → Bool
is_colored Always taken = true
is_colored Never taken = false
is_colored Auto taken = taken

-- how nodes are shown, by what the environment says of colours
abbrev pub look_in : Options → Colours → Look
look_in options colours = record {
  output = output_in options;
  most_of_all = options.most_of_all;
  summed = options.total;
  unit = unit_in options;
  ascii = options.ascii;
  colours = if is_colored options.color colours.taken then Some (colours_for colours) else None;
}

-- whether what is shown of a node begins with the name of the input, the number of the line, and the number of the path, for so many
-- paths
abbrev pub has_names : Options → Bool
has_names options = options.with_filename
    || (nat_lt 1 (length options.files.items) && (not options.no_filename && not (is_table options.shown)))

abbrev pub has_line_numbers : Options → Bool
has_line_numbers options = options.line_number || (is_array (form_in options.shown) && options.lines)

abbrev pub has_numbers : Options → ℕ → Bool
has_numbers options count = nat_lt 1 count && (not options.no_path_number && not (is_table options.shown))

-- what it begins with, of an input's name, the number of a line, and the number of one of so many paths
abbrev pub head_for : Options → ℕ → List ℕ → ℕ → ℕ → List ℕ
head_for options count = head_in (is_array (form_in options.shown)) options.layout (has_names options) (has_line_numbers options)
    (has_numbers options count)

-- the cells that a row begins with, of the same
abbrev pub cells_for : Options → List ℕ → ℕ → List (List ℕ)
cells_for options = first_cells (has_names options) (has_line_numbers options)

-- what is shown of a document for the paths
abbrev pub IsShownFor : Options → Colours → List JsonPath → DocumentShown
IsShownFor options colours paths name number bytes before text count = MatchBool (is_table options.shown)
    (IsRowOn builtin_functions paths (row_line options.shown options.end) (cells_for options name number) bytes text count)
    (IsShownOn builtin_functions paths (look_in options colours) (head_for options (length paths) name number) bytes before text count)

-- the same where it, or the query of a path, may be refused
abbrev pub IsShownInPartFor : Options → Colours → List JsonPath → DocumentShown
IsShownInPartFor options colours paths name number bytes before text count = MatchBool (is_table options.shown)
    (IsRowInPart builtin_functions paths (row_line options.shown options.end) (cells_for options name number) bytes text count)
    (IsShownInPart builtin_functions paths (look_in options colours) (head_for options (length paths) name number) bytes before text count)

-- the row of a table that stands before all, where it is asked for, by the texts of the paths
abbrev pub header_for : Options → List (List ℕ) → List ℕ
header_for options texts = if options.header && is_table options.shown
    then row_line options.shown options.end (header_cells (has_names options) (has_line_numbers options) texts) else []

-- the sum of all counts, where it is asked for, and the end of its line
abbrev pub total_for : Options → ℕ → List ℕ
total_for options count = if options.total then decimal count ++ end_text options.end else []

-- a first text, what is shown after it, and a last text, by how many nodes are shown
abbrev pub IsBetween : List ℕ → (ℕ → List ℕ) → (List ℕ → ℕ → Type 0) → List ℕ → ℕ → Type 0
IsBetween first last Is text count = (own : List ℕ) × Is own count × (text ≡ first ++ (own ++ last count))

-- the inputs' names, in order; `-` is standard input
abbrev pub names_in : Options → List (List ℕ)
names_in options = if nat_eq (length options.files.items) 0 then codes "-" ∷ [] else map (λ file. file.now) options.files.items

-- the text is not empty
abbrev pub has_text : List ℕ → Bool
has_text text = nat_lt 0 (length text)

-- the files of paths
abbrev pub path_files_in : Options → List (List ℕ)
path_files_in options = map (λ file. file.now) options.paths_files.items

-- what is known of the bytes of an input
abbrev pub known_bytes : (List ℕ → Option (List ℕ)) → List ℕ → List ℕ
known_bytes bytes_of name = unwrap_or (bytes_of name) []

-- the texts of the paths in a file of these bytes: of each line that has one
abbrev pub texts_in_file : List ℕ → List (List ℕ)
texts_in_file bytes = filter has_text (path_lines (without_mark bytes))

-- the texts of the paths that are asked for: the words, and then those of the files of paths, by what is known of their bytes
abbrev pub path_texts : (List ℕ → Option (List ℕ)) → Options → List (List ℕ)
path_texts bytes_of options = map (λ text. text.now) options.paths.items
    ++ flat_map (λ name. texts_in_file (known_bytes bytes_of name)) (path_files_in options)

-- what is shown of the inputs: of each document so, until as many nodes are shown as are wanted of all
abbrev pub AreInputsFor : Options → DocumentShown → (List ℕ → Option (List ℕ)) → List ℕ → ℕ → Type 0
AreInputsFor options Is bytes_of = AreInputsShown (IsUntil options.most_of_all Is) options.lines bytes_of (names_in options) 0

-- of the inputs those were opened of which something was to be shown so, after the files of paths
abbrev pub OpensFor : Options → DocumentShown → (List ℕ → Option (List ℕ)) → Option (List (List ℕ)) → Option (List (List ℕ)) → Type 0
OpensFor options Is bytes_of = OpensWanted options.most_of_all (IsNamedShown (IsUntil options.most_of_all Is) options.lines bytes_of) 0
    (names_in options) (path_files_in options)

-- all that is shown for the paths: the first row of a table, what is shown of the inputs, and the sum of counts
abbrev pub AreAllShown : Options → Colours → List JsonPath → (List ℕ → Option (List ℕ)) → List ℕ → ℕ → Type 0
AreAllShown options colours paths bytes_of = IsBetween (header_for options (path_texts bytes_of options)) (total_for options)
    (AreInputsFor options (IsShownFor options colours paths) bytes_of)

-- the same where documents, or the queries of paths, may be refused
abbrev pub AreAllInPart : Options → Colours → List JsonPath → (List ℕ → Option (List ℕ)) → List ℕ → ℕ → Type 0
AreAllInPart options colours paths bytes_of = IsBetween (header_for options (path_texts bytes_of options)) (total_for options)
    (AreInputsFor options (IsShownInPartFor options colours paths) bytes_of)

-- what a run opens: the files of paths, and then the inputs, unless paths are only checked
abbrev pub opened_in : Options → List (List ℕ)
opened_in options = path_files_in options ++ (if options.check then [] else names_in options)

-- what it opens where a path is refused: the files of paths, and then the first word that is a path, as it may be a file's name
abbrev pub looked_at_in : Options → List (List ℕ)
looked_at_in options = path_files_in options ++ take 1 (map (λ text. text.now) options.paths.items)

-- each of those is opened at most once, in order, up to where the run ends
abbrev pub OpensInOrder : Options → ℕ → Option (List (List ℕ)) → Option (List (List ℕ)) → Type 0
OpensInOrder options status before after =
    OpensFirst before after (opened_in options) ⊎ ((2 ≤ status) × OpensFirst before after (looked_at_in options))

-- each node is shown, in a line or an object of its own, or the nodes are counted, or the first of each path are shown in a row
abbrev pub is_each : Shown → Bool
is_each (Nodes Nothing) = false
is_each _ = true

-- In such a run nodes are shown so, and paths are not only checked.
pub record IsPlainRun (options : Options) : Type 0 where
  pub check : options.check ≡ false
  pub each : is_each options.shown ≡ true

-- What comes of such a run in which nothing is refused and no writing fails, where the bytes of the inputs are known: what is shown of
-- them for the paths went out, and nothing else, the status says whether nodes are shown, and no other inputs were opened than those
-- of which something was to be shown.
pub record IsAnswered {W : Type 0} (contents : W → Option (List ℕ)) (bytes_of : List ℕ → Option (List ℕ)) (options : Options) (colours : Colours) (was now : Option (List (List ℕ))) (before after : W) (status : ℕ) : Type 0 where
  pub paths : List JsonPath
  pub are : ArePaths (reading_in options) (path_texts bytes_of options) paths
  pub text : List ℕ
  pub count : ℕ
  pub shown : AreAllShown options colours paths bytes_of text count
  pub out : Appends (contents before) (contents after) text
  pub ends : status ≡ (if nat_lt 0 count then 0 else 1)
  pub opens : OpensFor options (IsShownFor options colours paths) bytes_of was now

-- What is out after such a run, however it ended: nothing, where no path is asked, as where one is refused; else a beginning of what is
-- shown of the inputs for the paths, without what was refused.
abbrev pub IsAnsweredInPart : {W : Type 0} → (W → Option (List ℕ)) → (List ℕ → Option (List ℕ)) → Options → Colours → W → W → Type 0
IsAnsweredInPart contents bytes_of options colours before after = (after ≡ before)
    ⊎ ((paths : List JsonPath) × ArePaths (reading_in options) (path_texts bytes_of options) paths
    × (text : List ℕ) × (count : ℕ) × AreAllInPart options colours paths bytes_of text count
    × AppendsBeginning (contents before) (contents after) text)

-- ---- whether there is a node

-- Nothing is shown of nodes, as it is only asked whether there is one.
pub record IsQuietRun (options : Options) : Type 0 where
  pub check : options.check ≡ false
  pub shown : options.shown ≡ Nodes Nothing
  pub total : options.total ≡ false

-- What comes of such a run that answers 0 or 1, where the bytes of the inputs are known: with 0 a path selects a node of some document,
-- and of others nothing is said; with 1 each document is read, no path selects a node of any, and nothing is refused. With `-n 0` no
-- node counts, and with `-m 0` no document.
pub record IsFound (bytes_of : List ℕ → Option (List ℕ)) (options : Options) (colours : Colours) (status : ℕ) : Type 0 where
  pub paths : List JsonPath
  pub are : ArePaths (reading_in options) (path_texts bytes_of options) paths
  pub found : status ≡ 0 → (count : ℕ) × (nat_lt 0 count ≡ true) × AreInputsFor options (IsShownInPartFor options colours paths) bytes_of [] count
  pub none : status ≡ 1 → AreInputsFor options (IsShownFor options colours paths) bytes_of [] 0

-- ---- paths that are only checked

-- each path in its canonical form, in a line of its own
abbrev pub canonical_lines : List JsonPath → List ℕ
canonical_lines [] = []
canonical_lines (path ∷ paths) = query_text (path_tree path) ++ (codes "\n" ++ canonical_lines paths)

-- What comes of a run that only checks paths, in which nothing is refused and no writing fails, where the bytes of the files of paths
-- are known: these lines went out, and nothing else. Without such files no input is opened.
pub record IsChecked {I W : Type 0} (contents : W → Option (List ℕ)) (bytes_of : List ℕ → Option (List ℕ)) (options : Options) (inputs later : I) (before after : W) (status : ℕ) : Type 0 where
  pub paths : List JsonPath
  pub are : ArePaths (reading_in options) (path_texts bytes_of options) paths
  pub out : Appends (contents before) (contents after) (canonical_lines paths)
  pub unopened : options.paths_files.items ≡ [] → later ≡ inputs
  pub ends : status ≡ 0

-- What is out after such a run, however it ended: nothing, where a path is refused, or a beginning of these lines.
abbrev pub IsCheckedInPart : {W : Type 0} → (W → Option (List ℕ)) → (List ℕ → Option (List ℕ)) → Options → W → W → Type 0
IsCheckedInPart contents bytes_of options before after = (after ≡ before)
    ⊎ ((paths : List JsonPath) × ArePaths (reading_in options) (path_texts bytes_of options) paths
    × AppendsBeginning (contents before) (contents after) (canonical_lines paths))

-- ---- what is told

-- nothing is, where notes are left out
abbrev pub TellsNothing : {W E : Type 0} → Options → Streams W E → Streams W E → Type 0
TellsNothing options before after = options.silent ≡ true → after.err ≡ before.err

-- ---- what is printed

-- a text went out, and nothing was told; or the output failed: then a beginning of the text is out, and that may be told
abbrev pub IsPrinted : {W E : Type 0} → (W → Option (List ℕ)) → (E → Option (List ℕ)) → List ℕ → Streams W E → Streams W E → ℕ → Type 0
IsPrinted out err text before after status =
    ((status ≡ 0) × Appends (out before.out) (out after.out) text × (after.err ≡ before.err))
    ⊎ ((status ≡ 3) × AppendsBeginning (out before.out) (out after.out) text
    × AppendsBeginning (err before.err) (err after.err) (codes "jpq: the output failed\n"))

-- What comes of a run whose words ask for this. `out` and `err` say what is known of the bytes of the two writers, and `bytes_of` of
-- the inputs, `opened` which of these are opened; `colours` is what the environment says of colours. Of wrong use the message is told,
-- or a beginning of it. Neither then, nor where a text is printed, is an input opened.
abbrev pub ComesOf : {I W E : Type 0} → (W → Option (List ℕ)) → (E → Option (List ℕ)) → (List ℕ → Option (List ℕ)) → (I → Option (List (List ℕ))) → Colours → Request → I → I → Streams W E → Streams W E → ℕ → Type 0
ComesOf out err bytes_of opened colours (WrongUse kind text) inputs later before after status = (status ≡ 64) × (later ≡ inputs) × (after.out ≡ before.out)
    × AppendsBeginning (err before.err) (err after.err) (string_bytes text)
ComesOf out err bytes_of opened colours (Print text) inputs later before after status = (later ≡ inputs) × IsPrinted out err (string_bytes text) before after status
ComesOf out err bytes_of opened colours (Run options) inputs later before after status = IsStatusOf options status
    × (IsPlainRun options → AreKnown bytes_of (path_files_in options) → AreKnown bytes_of (names_in options)
    → (status ≤ 1 → IsAnswered out bytes_of options colours (opened inputs) (opened later) before.out after.out status
    × (options.most_of_all ≡ None → Opens (opened inputs) (opened later) (opened_in options)) × TellsNothing options before after)
    × IsAnsweredInPart out bytes_of options colours before.out after.out)
    × (IsQuietRun options → AreKnown bytes_of (path_files_in options) → AreKnown bytes_of (names_in options)
    → Appends (out before.out) (out after.out) [] × (status ≤ 1 → IsFound bytes_of options colours status)
    × (status ≡ 1 → (options.most_of_all ≡ None → Opens (opened inputs) (opened later) (opened_in options)) × TellsNothing options before after))
    × (options.check ≡ true → AreKnown bytes_of (path_files_in options)
    → (status ≤ 1 → IsChecked out bytes_of options inputs later before.out after.out status × TellsNothing options before after)
    × IsCheckedInPart out bytes_of options before.out after.out)
    × OpensInOrder options status (opened inputs) (opened later)

-- memory for the words was refused: no input is opened, nothing goes out, and that is told
abbrev pub LacksMemory : {I W E : Type 0} → (E → Option (List ℕ)) → I → I → Streams W E → Streams W E → ℕ → Type 0
LacksMemory err inputs later before after status = (status ≡ 2) × (later ≡ inputs) × (after.out ≡ before.out)
    × AppendsBeginning (err before.err) (err after.err) (codes "jpq: no memory\n")
