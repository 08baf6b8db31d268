-- What contracts of private functions cite alone.
use Rattle.std.specs.Prelude.{◌≡◌, ◌+◌, ◌<◌, ◌≤◌, get_or, ◌⊎◌, Err, Ok, Result, codes, if◌then◌else◌, ℕ, Bool, true, false, not, ◌&&◌, ◌||◌, List, [], ◌∷◌, ◌++◌, map, MatchBool, Option, None, Some, String, IfSome, length, option_map, nat_lt, string_bytes}
use Rattle.std.specs.Fmt.{decimal}
use Rattle.std.specs.Io.KnownBytes.{Appends}
use Rattle.std.specs.List.{AllZip}
use Rattle.std.specs.declared.alloc.Global.{Global}
use Rattle.serde_json_path_nodes.specs.Location.{Located}
use Rattle.jsonpath_lines.specs.Coloured.{parameters_of}
use Rattle.jsonpath_lines.specs.Inside.{is_reached, once}
use Rattle.jsonpath_lines.specs.Inside as lines
use Rattle.jsonpath_lines.specs.Output.{AreLines, IsCount, IsText, compact_lines, end_text, up_to}
use Rattle.jsonpath_lines.specs.declared.forms.Form.{Form}
use Rattle.jsonpath_lines.specs.declared.forms.Form.TheVariants.{Count, Location, Nothing, Pointer, Raw}
use Rattle.jsonpath_lines.specs.declared.forms.Layout.TheVariants.{Compact}
use Rattle.jsonpath_lines.specs.Sent.{AppendsBeginning}
use Rattle.jsonpath_lines.specs.declared.forms.Output.{Output}
use Rattle.serde_json.specs.Data.{Data}
use Rattle.serde_json_path.specs.Paths.{path_tree, with_rule_of}
use Rattle.serde_json_path_core.specs.Selects.{Selects}
use Rattle.serde_json_path.specs.declared.path.JsonPath.{JsonPath}
use Rattle.serde_json_path_reach.specs.Alike.{IsReadFor, IsReadForPlaces}
use Rattle.serde_json_path_reach.specs.Readers.{Keeps}
use Rattle.serde_json_path_syntax.specs.Tree.{Query}
use Rattle.serde_json_path_functions.specs.Functions.{FunctionSet}
use Rattle.serde_json_path_functions.specs.Terms.{numbers_view}
use Rattle.serde_json_path_syntax.specs.Bindings.{pairs_of}
use Rattle.serde_json_path_functions.specs.Patterns.{builtin_functions}
use Rattle.jpq_options.specs.Options.{is_table}
use Rattle.jsonpath_document.specs.Document.{ReadsAs}
use Rattle.jpq_program.specs.Answers.{AreAnswersInPart, AreAnswersOn, IsAnswer, IsAnswerInPart, IsAnswerOn, IsShownInPart, IsShownOn, has_nodes, with_most}
use Rattle.jpq_program.specs.Looks.{ArePieces, IsPiece, Look, is_array, led_by}
use Rattle.jpq_program.specs.Heads.{head_in}
use Rattle.jpq_program.specs.Inputs.{AreInputsShown, IsInputShown, IsLineShown, IsNamedShown, IsUntil, OpensWanted, Shown, has_enough}
use Rattle.csv.specs.Writing as csv
use Rattle.jsonpath_lines.specs.declared.forms.LineEnd.{LineEnd}
use Rattle.jpq_program.specs.declared.rows.Separator.{Separator}
use Rattle.jpq_program.specs.declared.rows.Separator.TheVariants.{Comma, Tab}
use Rattle.jpq_program.specs.Rows.{comma_rows, header_cells, IsRowInPart, IsRowOn, first_cells, row_line, row_text}
use Rattle.jpq_program.specs.Run.{AreAllInPart, AreAllShown, ArePaths, IsBetween, IsPathOf, IsShownFor, OpensFor, Reading, form_in, has_line_numbers, has_names, has_numbers, path_texts, reading_in}
use Rattle.jpq_options.specs.declared.options.Options.{Options}
use Rattle.jpq_options.specs.declared.options.Shown.{Shown as OptionShown}
use Rattle.jpq_options.specs.declared.options.Shown.TheVariants.{Csv, Nodes, Tsv}
use Rattle.jpq_program.specs.declared.colours.Colours.{Colours}
use Rattle.jpq_program.specs.declared.documents.Documents.{Documents}
use Rattle.jpq_program.specs.declared.answering.Answering.{Answering}
use Rattle.jpq_program.specs.declared.asked_path.AskedPath.{AskedPath}
use Rattle.jpq_program.specs.declared.bindings.NamedValue.{NamedValue}
use Rattle.jpq_program.specs.declared.paths.PathReading.{PathReading}
use Rattle.jpq_program.specs.declared.dress.Dress.{Dress}
use Rattle.jpq_program.specs.declared.dress.Place.{Place}
use Rattle.jpq_program.specs.declared.dress.Place.TheVariants.{AfterSpace, Start, Within}
use Rattle.jpq_program.specs.declared.showing.Showing.{Showing}
use Rattle.jpq_program.specs.declared.source.Heads.{Heads}
use Rattle.jpq_program.specs.declared.streams.Outcome.{Outcome}
use Rattle.jpq_program.specs.declared.streams.Stop.{Stop}
use Rattle.jpq_program.specs.declared.streams.Next.{Next}
use Rattle.jpq_program.specs.declared.streams.Next.TheVariants.{Enough, Found, More}
use Rattle.jpq_program.specs.declared.streams.Stop.TheVariants.{Memory, OutputFailed, ReaderGone, Refused, WrongUse}
use Rattle.jpq_program.specs.declared.streams.Streams.{Streams}
use Rattle.jpq_program.specs.declared.written.Written.{Written}

-- ---- what goes out

-- To what is known of a writer's bytes, and a text that waits after them, this text was added: some of both went out, in order.
abbrev pub Adds : Option (List ℕ) → List ℕ → Option (List ℕ) → List ℕ → List ℕ → Type 0
Adds out waiting later_out later_waiting text =
    (sent : List ℕ) × Appends out later_out sent × (waiting ++ text ≡ sent ++ later_waiting)

-- the same of what was written and what is pending
abbrev pub Writes : {W E : Type 0} → (W → Option (List ℕ)) → Streams W E → Streams W E → List ℕ → Type 0
Writes contents before after text =
    Adds (contents before.out) (string_bytes before.pending) (contents after.out) (string_bytes after.pending) text

-- nothing changed but what was written and what is pending
abbrev pub OnlyWrites : {W E : Type 0} → Streams W E → Streams W E → Type 0
OnlyWrites before after = after ≡ record before { out = after.out; pending = after.pending }

-- nothing changed but what was told, and what is kept of notes
abbrev pub OnlyNotes : {W E : Type 0} → Streams W E → Streams W E → Type 0
OnlyNotes before after = after ≡ record before {
  err = after.err;
  may_be_inexact = after.may_be_inexact;
  told_inexact = after.told_inexact;
  asked_reasons = after.asked_reasons;
  reason = after.reason;
}

-- nothing changed but what was told
abbrev pub OnlyTells : {W E : Type 0} → Streams W E → Streams W E → Type 0
OnlyTells before after = after ≡ record before { err = after.err }

-- nothing changed but what was told, and whether something was refused
abbrev pub Tells : {W E : Type 0} → Streams W E → Streams W E → Type 0
Tells before after = after ≡ record before { err = after.err; outcome = record before.outcome { refused = after.outcome.refused } }

-- paths are read as before
abbrev pub Reads : PathReading → PathReading → Type 0
Reads before after = after ≡ record before { used = after.used }

-- the texts that stand for values, with these
abbrev pub value_pairs : List NamedValue → List (List ℕ × List ℕ)
value_pairs values = map (λ (named : NamedValue). (string_bytes named.text, named.value.now)) values

-- how paths are read
abbrev pub reading_by : PathReading → Reading
reading_by reading = record { numbers = numbers_view reading.numbers; bindings = pairs_of reading.bindings.items }

-- a text was read as a path that is asked
abbrev pub IsAskedBy : Reading → List ℕ → AskedPath → Type 0
IsAskedBy reading text asked = IsPathOf reading text asked.path × (string_bytes asked.text ≡ text)

-- the same of several texts
abbrev pub AreAskedBy : Reading → List (List ℕ) → List AskedPath → Type 0
AreAskedBy reading texts asked = AllZip (IsAskedBy reading) texts asked

-- the texts of paths that are asked
abbrev pub texts_asked : List AskedPath → List (List ℕ)
texts_asked asked = map (λ (path : AskedPath). string_bytes path.text) asked

-- these texts were read as paths, after those that were read before
abbrev pub ReadsFurther : Reading → List (List ℕ) → List AskedPath → List AskedPath → Type 0
ReadsFurther reading texts before after = (read : List AskedPath) × (after ≡ before ++ read) × AreAskedBy reading texts read

-- what is shown of the path's result on a value was appended, and the count says how many nodes are chosen
abbrev pub Counts : FunctionSet → JsonPath → Output → List ℕ → Data → List ℕ → List ℕ → ℕ → Type 0
Counts F path output head d old new count = (nodes : List Located) × (shown : List ℕ)
    × Selects (with_rule_of path F) (path_tree path) d nodes
    × AreLines output head nodes shown × (new ≡ old ++ shown) × IsCount output nodes count

-- a text was added; what it is where nothing is refused, and where something may be; and how many nodes it shows. Without notes nothing
-- is told where nothing is refused.
pub record Answered {W E : Type 0} (silent : Bool) (contents : W → Option (List ℕ)) (Is IsPart : List ℕ → ℕ → Type 0) (before after : Streams W E) : Type 0 where
  pub text : List ℕ
  pub count : ℕ
  pub whole : after.outcome.refused ≡ false → (before.outcome.refused ≡ false) × Is text count
  pub part : IsPart text count
  pub writes : Writes contents before after text
  pub selected : after.outcome.selected ≡ (before.outcome.selected || nat_lt 0 count)
  pub total : after.total ≡ before.total + count
  pub told : silent ≡ true → after.outcome.refused ≡ false → after.err ≡ before.err

-- what is shown of a path was added
abbrev pub AnswersPath : {W E : Type 0} → Bool → (W → Option (List ℕ)) → JsonPath → Look → Bool → List ℕ → List ℕ → Streams W E → Streams W E → Type 0
AnswersPath silent contents path look later head bytes before after =
    Answered silent contents (IsAnswerOn builtin_functions path look later head bytes) (IsAnswerInPart builtin_functions path look later head bytes) before after

-- a text was sent, and nothing is pending after it
abbrev pub Sends : {W E : Type 0} → Bool → (W → Option (List ℕ)) → (Is IsPart : List ℕ → ℕ → Type 0) → Streams W E → Streams W E → Type 0
Sends silent contents Is IsPart before after = Answered silent contents Is IsPart before after × (string_bytes after.pending ≡ [])

-- after a document the run goes on, as more nodes are wanted; or it ends, as there are enough, or as one was found and none is shown
abbrev pub Ends : {W E : Type 0} → Form → Option ℕ → Next → Streams W E → Type 0
Ends form most More after = has_enough most after.total ≡ false
Ends form most Enough after = has_enough most after.total ≡ true
Ends form most Found after = (form ≡ Nothing) × (after.outcome.selected ≡ true)

-- all that is wanted was shown
abbrev pub is_whole : Next → Bool
is_whole Found = false
is_whole _ = true

-- what is said of a text where all is shown
abbrev pub IfWhole : Next → (List ℕ → ℕ → Type 0) → List ℕ → ℕ → Type 0
IfWhole next Is text count = is_whole next ≡ true → Is text count

-- a text was sent; what it is where all is shown, and where not
abbrev pub SendsUntil : {W E : Type 0} → Bool → (W → Option (List ℕ)) → Form → Option ℕ → Next → (Is IsPart : List ℕ → ℕ → Type 0) → Streams W E → Streams W E → Type 0
SendsUntil silent contents form most next Is IsPart before after = Ends form most next after × Sends silent contents (IfWhole next Is) IsPart before after

-- a beginning of what was pending and of such a text is out
abbrev pub Begins : {W E : Type 0} → (W → Option (List ℕ)) → (List ℕ → ℕ → Type 0) → Streams W E → Streams W E → Type 0
Begins contents IsPart before after = (text : List ℕ) × (count : ℕ) × IsPart text count
    × AppendsBeginning (contents before.out) (contents after.out) (string_bytes before.pending ++ text)

-- what a path shows of a value, it shows of the document that the bytes are, however many nodes are wanted
abbrev pub ShowsAs : Look → List ℕ → Data → JsonPath → Type 0
ShowsAs look bytes value path = (F : FunctionSet) (most : Option ℕ) (later : Bool) (head text : List ℕ) (count : ℕ)
    → IsAnswer F path (with_most look most) later head value text count → IsAnswerOn F path (with_most look most) later head bytes text count

-- the same of some paths
abbrev pub AreShownAs : Look → List ℕ → Data → List AskedPath → Type 0
AreShownAs look bytes value paths = (i : ℕ) (path : AskedPath) → i < length paths → path ≡ get_or paths i path
    → ShowsAs look bytes value path.path

-- Something was looked for, and nothing was written: what it comes to where nothing is refused, and where something may be, and
-- how many nodes it shows.
pub record Finds {W E : Type 0} (silent : Bool) (Is IsPart : ℕ → Type 0) (before after : Streams W E) : Type 0 where
  pub count : ℕ
  pub whole : after.outcome.refused ≡ false → (before.outcome.refused ≡ false) × Is count
  pub part : IsPart count
  pub out : after.out ≡ before.out
  pub pending : after.pending ≡ before.pending
  pub selected : after.outcome.selected ≡ (before.outcome.selected || nat_lt 0 count)
  pub total : after.total ≡ before.total + count
  pub told : silent ≡ true → after.outcome.refused ≡ false → after.err ≡ before.err

-- nothing changed but what was told, and that something was refused
abbrev pub OnlyRefuses : {W E : Type 0} → Streams W E → Streams W E → Type 0
OnlyRefuses before after = after ≡ record before {
  err = after.err;
  outcome = record before.outcome { refused = after.outcome.refused };
  refused_documents = after.refused_documents;
}

-- the value that is asked: what was read of a document, or, where a pattern is refused there, the document that the bytes are
abbrev pub IsAsked : List ℕ → Data → Data → Type 0
IsAsked bytes value asked = (asked ≡ value) ⊎ ReadsAs bytes asked

-- ---- how a run ends

-- the status of what became of the documents
abbrev pub status_of : Outcome → ℕ
status_of outcome = if outcome.refused then 2 else if outcome.selected then 0 else 1

-- writing failed, or who reads went away
abbrev pub IsFailure : Stop → Type 0
IsFailure stop = (stop ≡ OutputFailed) ⊎ (stop ≡ ReaderGone)

-- the status of a run that ended so, where values are bound to names or not, and nothing is shown or not
abbrev pub status_after : Result Next Stop → Bool → Bool → Outcome → ℕ
status_after (Ok next) binds quiet outcome = if quiet && outcome.selected then 0 else status_of outcome
status_after (Err WrongUse) binds quiet outcome = if binds then 64 else 2
status_after (Err Refused) binds quiet outcome = 2
status_after (Err Memory) binds quiet outcome = 2
status_after (Err OutputFailed) binds quiet outcome = 3
status_after (Err ReaderGone) binds quiet outcome = 3

-- what is told of that
abbrev pub told_after : Result Next Stop → List ℕ
told_after (Err Memory) = codes "jpq: no memory\n"
told_after (Err OutputFailed) = codes "jpq: the output failed\n"
told_after _ = []

-- ---- how nodes are shown

-- of all nodes it is shown how many there are, or nothing
abbrev pub has_counts : Form → Bool
has_counts Count = true
has_counts Nothing = true
has_counts _ = false

-- some characters from a place in a line, indented by a unit
abbrev pub left_from : List ℕ → Place → List ℕ → List ℕ
left_from unit Start cs = led_by unit true cs
left_from unit AfterSpace cs = led_by unit true (32 ∷ cs)
left_from unit Within cs = led_by unit false cs

-- by what a dress has a level indented, where that is not two spaces; whether it escapes, and the parameters of its colours
abbrev pub unit_by : Option Dress → Option (List ℕ)
unit_by None = None
unit_by (Some dress) = option_map string_bytes dress.indent

abbrev pub is_ascii : Option Dress → Bool
is_ascii None = false
is_ascii (Some dress) = dress.ascii

abbrev pub colours_by : Option Dress → Option (List (List ℕ))
colours_by None = None
colours_by (Some dress) = option_map parameters_of dress.colours

-- what is shown of nodes, and how: how many of all documents, whether counts are summed up, and how lines are dressed
abbrev pub look_with : Output → Option ℕ → Bool → Option Dress → Look
look_with output most_of_all summed dress = record {
  output = output;
  most_of_all = most_of_all;
  summed = summed;
  unit = unit_by dress;
  ascii = is_ascii dress;
  colours = colours_by dress;
}

abbrev pub look_of : Showing → Look
look_of showing = look_with showing.output showing.most_of_all showing.summed showing.dress

-- what stands between the cells of a row, where rows are shown
abbrev pub separator_in : OptionShown → Option Separator
separator_in Tsv = Some Tab
separator_in Csv = Some Comma
separator_in (Nodes form) = None

-- the line of a row of cells with this between
abbrev pub separated : Separator → LineEnd → List (List ℕ) → List ℕ
separated Tab end cells = row_text cells ++ end_text end
separated Comma end cells = csv.row_text (comma_rows end) cells

-- the text of the first node, in a cell
abbrev pub IsFirstOf : List Located → Option (String Global) → Type 0
IsFirstOf [] cell = cell ≡ None
IsFirstOf (n ∷ ns) cell = (text : String Global) × (cell ≡ Some text) × IsText Raw Compact n (string_bytes text)

-- a line that is a cell: that of the first node
abbrev pub cell_look : Look
cell_look = record {
  output = record (compact_lines Raw) { most = Some 1 };
  most_of_all = None;
  summed = false;
  unit = None;
  ascii = false;
  colours = None;
}

-- how the nodes are looked at that are asked for
abbrev pub asked_look : Answering → Look
asked_look answering = if is_table answering.shown then cell_look else look_of answering.showing

-- ---- documents and inputs

-- what nodes begin with
abbrev pub head_by : Output → Heads → List ℕ → ℕ → ℕ → List ℕ
head_by output heads name line number = head_in (is_array output.form) output.layout heads.file heads.line heads.number name line number

-- the heads that options ask for, for so many paths
abbrev pub heads_in : Options → ℕ → Heads
heads_in options count = record { file = has_names options; line = has_line_numbers options; number = has_numbers options count }

-- the paths that are asked
abbrev pub paths_in : Answering → List JsonPath
paths_in answering = map (λ (path : AskedPath). path.path) answering.paths.now

-- what is shown of a document in such an answer, for each path
abbrev pub each_by : Answering → Shown
each_by answering name number bytes before text count =
    AreAnswersOn builtin_functions (paths_in answering) (look_of answering.showing) (head_by answering.showing.output answering.heads name number) bytes before text count

-- the same where it, or the query of a path, may be refused
abbrev pub each_in_part_by : Answering → Shown
each_in_part_by answering name number bytes before text count =
    AreAnswersInPart builtin_functions (paths_in answering) (look_of answering.showing) (head_by answering.showing.output answering.heads name number) bytes before text count

-- the same in one array, where that is asked for
abbrev pub all_by : Answering → Shown
all_by answering name number bytes before text count =
    IsShownOn builtin_functions (paths_in answering) (look_of answering.showing) (head_by answering.showing.output answering.heads name number) bytes before text count

abbrev pub all_in_part_by : Answering → Shown
all_in_part_by answering name number bytes before text count =
    IsShownInPart builtin_functions (paths_in answering) (look_of answering.showing) (head_by answering.showing.output answering.heads name number) bytes before text count

-- the same in a row
abbrev pub row_by : Answering → Shown
row_by answering name number bytes before text count = IsRowOn builtin_functions (paths_in answering) (row_line answering.shown answering.showing.output.end)
    (first_cells answering.heads.file answering.heads.line name number) bytes text count

abbrev pub row_in_part_by : Answering → Shown
row_in_part_by answering name number bytes before text count = IsRowInPart builtin_functions (paths_in answering) (row_line answering.shown answering.showing.output.end)
    (first_cells answering.heads.file answering.heads.line name number) bytes text count

-- the same by what is asked to be shown
abbrev pub shown_by : Answering → Shown
shown_by answering name number bytes before text count = MatchBool (is_table answering.shown)
    (row_by answering name number bytes before text count) (all_by answering name number bytes before text count)

abbrev pub shown_in_part_by : Answering → Shown
shown_in_part_by answering name number bytes before text count = MatchBool (is_table answering.shown)
    (row_in_part_by answering name number bytes before text count) (all_in_part_by answering name number bytes before text count)

-- the same until there are enough
abbrev pub wanted_by : Answering → Shown
wanted_by answering = IsUntil answering.showing.most_of_all (shown_by answering)

abbrev pub wanted_in_part_by : Answering → Shown
wanted_in_part_by answering = IsUntil answering.showing.most_of_all (shown_in_part_by answering)

-- as many nodes were shown as are wanted of all documents
abbrev pub is_done : {W E : Type 0} → Answering → Streams W E → Bool
is_done answering streams = has_enough answering.showing.most_of_all streams.total

-- the row before all, where it is asked for
abbrev pub header_by : Answering → Bool → List ℕ
header_by answering is_wanted = if is_wanted && is_table answering.shown then row_line answering.shown answering.showing.output.end
    (header_cells answering.heads.file answering.heads.line (texts_asked answering.paths.now)) else []

-- the sum of all counts, where it is asked for
abbrev pub total_by : Answering → ℕ → List ℕ
total_by answering total = if answering.showing.summed then decimal total ++ end_text answering.showing.output.end else []

-- it is this text, and shows no node
abbrev pub IsAside : List ℕ → List ℕ → ℕ → Type 0
IsAside own text count = (text ≡ own) × (count ≡ 0)

-- what is shown of a document after those before was added so
abbrev pub AnswersAs : {W E : Type 0} → (W → Option (List ℕ)) → Answering → (Is IsPart : Shown) → List ℕ → ℕ → List ℕ → Streams W E → Streams W E → Type 0
AnswersAs contents answering Is IsPart name number bytes before after =
    Answered answering.silent contents (Is name number bytes before.total) (IsPart name number bytes before.total) before after

abbrev pub AnswersEach : {W E : Type 0} → (W → Option (List ℕ)) → Answering → List ℕ → ℕ → List ℕ → Streams W E → Streams W E → Type 0
AnswersEach contents answering name number bytes before after =
    AnswersAs contents answering (each_by answering) (each_in_part_by answering) name number bytes before after

abbrev pub AnswersAll : {W E : Type 0} → (W → Option (List ℕ)) → Answering → List ℕ → ℕ → List ℕ → Streams W E → Streams W E → Type 0
AnswersAll contents answering name number bytes before after =
    AnswersAs contents answering (all_by answering) (all_in_part_by answering) name number bytes before after

abbrev pub AnswersRow : {W E : Type 0} → (W → Option (List ℕ)) → Answering → List ℕ → ℕ → List ℕ → Streams W E → Streams W E → Type 0
AnswersRow contents answering name number bytes before after =
    AnswersAs contents answering (row_by answering) (row_in_part_by answering) name number bytes before after

abbrev pub AnswersBy : {W E : Type 0} → (W → Option (List ℕ)) → Answering → List ℕ → ℕ → List ℕ → Streams W E → Streams W E → Type 0
AnswersBy contents answering name number bytes before after =
    AnswersAs contents answering (shown_by answering) (shown_in_part_by answering) name number bytes before after

-- it was sent
abbrev pub SendsBy : {W E : Type 0} → (W → Option (List ℕ)) → Answering → List ℕ → ℕ → List ℕ → Streams W E → Streams W E → Type 0
SendsBy contents answering name number bytes before after =
    AnswersBy contents answering name number bytes before after × (string_bytes after.pending ≡ [])

-- what is asked of documents was sent, until there are enough
abbrev pub SendsWanted : {W E : Type 0} → (W → Option (List ℕ)) → Answering → Next → (Is IsPart : List ℕ → ℕ → Type 0) → Streams W E → Streams W E → Type 0
SendsWanted contents answering next Is IsPart before after =
    SendsUntil answering.silent contents answering.showing.output.form answering.showing.most_of_all next Is IsPart before after

-- what is shown of a document, a line, an input or some inputs was sent so
abbrev pub SendsDocument : {W E : Type 0} → (W → Option (List ℕ)) → Answering → Next → List ℕ → ℕ → List ℕ → Streams W E → Streams W E → Type 0
SendsDocument contents answering next name number bytes before after = SendsWanted contents answering next
    (wanted_by answering name number bytes before.total) (wanted_in_part_by answering name number bytes before.total) before after

abbrev pub SendsLine : {W E : Type 0} → (W → Option (List ℕ)) → Answering → Next → List ℕ → ℕ → List ℕ → Streams W E → Streams W E → Type 0
SendsLine contents answering next name number line before after = SendsWanted contents answering next
    (IsLineShown (wanted_by answering) name number line before.total) (IsLineShown (wanted_in_part_by answering) name number line before.total) before after

abbrev pub SendsInput : {W E : Type 0} → (W → Option (List ℕ)) → Answering → Next → Bool → List ℕ → List ℕ → Streams W E → Streams W E → Type 0
SendsInput contents answering next lines name bytes before after = SendsWanted contents answering next
    (IsInputShown (wanted_by answering) lines name bytes before.total) (IsInputShown (wanted_in_part_by answering) lines name bytes before.total) before after

abbrev pub SendsInputs : {W E : Type 0} → (W → Option (List ℕ)) → Answering → Next → Bool → (List ℕ → Option (List ℕ)) → List (List ℕ) → Streams W E → Streams W E → Type 0
SendsInputs contents answering next lines bytes_of names before after = SendsWanted contents answering next
    (AreInputsShown (wanted_by answering) lines bytes_of names before.total) (AreInputsShown (wanted_in_part_by answering) lines bytes_of names before.total) before after

-- of these inputs those were opened of which something was to be shown
abbrev pub OpensBy : Documents → (List ℕ → Option (List ℕ)) → ℕ → List (List ℕ) → Option (List (List ℕ)) → Option (List (List ℕ)) → Type 0
OpensBy documents bytes_of before names = OpensWanted documents.answering.showing.most_of_all
    (IsNamedShown (wanted_by documents.answering) documents.lines bytes_of) before names []

-- the same after the first row, and before the sum
abbrev pub AreBetween : Answering → Bool → Shown → Bool → (List ℕ → Option (List ℕ)) → List (List ℕ) → List ℕ → ℕ → Type 0
AreBetween answering is_wanted Is lines bytes_of names =
    IsBetween (header_by answering is_wanted) (total_by answering) (AreInputsShown Is lines bytes_of names 0)

abbrev pub SendsAll : {W E : Type 0} → (W → Option (List ℕ)) → Answering → Bool → Next → Bool → (List ℕ → Option (List ℕ)) → List (List ℕ) → Streams W E → Streams W E → Type 0
SendsAll contents answering is_wanted next lines bytes_of names before after = SendsWanted contents answering next
    (AreBetween answering is_wanted (wanted_by answering) lines bytes_of names) (AreBetween answering is_wanted (wanted_in_part_by answering) lines bytes_of names) before after

-- nodes are shown without their values
abbrev pub shows_places : Form → Bool
shows_places Location = true
shows_places Pointer = true
shows_places Count = true
shows_places Nothing = true
shows_places _ = false

-- the bytes read as some document, of which the value has what these queries select, or of that the places alone
abbrev pub IsReadIn : Bool → List ℕ → List Query → Data → Type 0
IsReadIn places bytes queries value = MatchBool places (IsReadForPlaces bytes queries value) (IsReadFor bytes queries value)

-- documents are read for the paths
pub record ReadsForPaths (documents : Documents) : Type 0 where
  pub places : is_table documents.answering.shown ≡ true → shows_places documents.answering.showing.output.form ≡ false
  pub read : IfSome documents.reader (λ reader. Keeps reader (shows_places documents.answering.showing.output.form)
      (map (λ (path : AskedPath). path_tree path.path) documents.answering.paths.now))

-- what options ask for is shown of the input of a name
abbrev pub named_for : Options → Colours → List JsonPath → (List ℕ → Option (List ℕ)) → List ℕ → ℕ → List ℕ → ℕ → Type 0
named_for options colours paths bytes_of =
    IsNamedShown (IsUntil options.most_of_all (IsShownFor options colours paths)) options.lines bytes_of

-- what options ask for was sent
abbrev pub SendsFor : {W E : Type 0} → (W → Option (List ℕ)) → Options → Colours → Next → List JsonPath → (List ℕ → Option (List ℕ)) → Streams W E → Streams W E → Type 0
SendsFor contents options colours next paths bytes_of before after = SendsUntil options.silent contents (form_in options.shown) options.most_of_all next
    (AreAllShown options colours paths bytes_of) (AreAllInPart options colours paths bytes_of) before after

-- nothing is shown of nodes
abbrev pub is_quiet : OptionShown → Bool
is_quiet (Nodes Nothing) = true
is_quiet _ = false

-- Such a run was answered, up to its end or not: what went out since it began, how many nodes are shown by that, and that nothing was
-- told where that is so.
pub record AnswersRun {W E : Type 0} (contents : W → Option (List ℕ)) (bytes_of : List ℕ → Option (List ℕ)) (options : Options) (colours : Colours) (next : Next) (was now : Option (List (List ℕ))) (before after : Streams W E) : Type 0 where
  pub paths : List JsonPath
  pub are : ArePaths (reading_in options) (path_texts bytes_of options) paths
  pub text : List ℕ
  pub count : ℕ
  pub ends : Ends (form_in options.shown) options.most_of_all next after
  pub whole : after.outcome.refused ≡ false → is_whole next ≡ true → AreAllShown options colours paths bytes_of text count
  pub part : AreAllInPart options colours paths bytes_of text count
  pub out : Appends (contents before.out) (contents after.out) text
  pub selected : after.outcome.selected ≡ nat_lt 0 count
  pub told : options.silent ≡ true → after.outcome.refused ≡ false → after.err ≡ before.err
  pub opens : is_whole next ≡ true → after.outcome.refused ≡ false → OpensFor options (IsShownFor options colours paths) bytes_of was now

-- ---- nodes as they are written

-- nothing changed but what is pending
pub record OnlyPends {W E : Type 0} (before after : Written W E) : Type 0 where
  pub same : after.streams.ghost_name ≡ before.streams.ghost_name
  pub kept : after ≡ record before { streams = after.streams }
  pub streams : after.streams.now ≡ record before.streams.now { pending = after.streams.now.pending }

-- a node was written before, of the path or of an earlier one in the same array
abbrev pub is_after : {W E : Type 0} → Written W E → Bool
is_after written = written.is_later || nat_lt 0 written.count

-- where nodes are shown, a node is added to what is pending
abbrev pub PendsNode : {W E : Type 0} → Located → Written W E → Written W E → Type 0
PendsNode n before after = has_nodes before.showing.now.output.form ≡ true
    → lines.Appends (IsPiece (look_of before.showing.now) (is_after before) before.head.now n) (string_bytes before.streams.now.pending) (string_bytes after.streams.now.pending)

-- where nodes are shown, these went out or are pending
abbrev pub WritesNodes : {W E : Type 0} → (W → Option (List ℕ)) → List Located → Written W E → Written W E → Type 0
WritesNodes contents nodes before after = has_nodes before.showing.now.output.form ≡ true
    → (text : List ℕ) × ArePieces (look_of before.showing.now) (is_after before) before.head.now nodes text
    × Writes contents before.streams.now after.streams.now text

-- what writing a node leaves as it was
pub record KeepsRest {W E : Type 0} (before after : Written W E) : Type 0 where
  pub same : after.streams.ghost_name ≡ before.streams.ghost_name
  pub showing : after.showing ≡ before.showing
  pub head : after.head ≡ before.head
  pub later : after.is_later ≡ before.is_later
  pub limit : after.limit ≡ before.limit
  pub outcome : after.streams.now.outcome ≡ before.streams.now.outcome
  pub err : after.streams.now.err ≡ before.streams.now.err
  pub total : after.streams.now.total ≡ before.streams.now.total

-- a node was taken, and more are wanted or not; it was written, unless writing failed
pub record WritesNode {W E : Type 0} (contents : W → Option (List ℕ)) (n : Located) (more : Bool) (before after : Written W E) : Type 0 where
  pub rest : KeepsRest before after
  pub count : after.count ≡ before.count + 1
  pub further : more ≡ true → (after.stop ≡ before.stop) × (is_reached after.limit after.count ≡ false)
  pub enough : more ≡ false → after.stop ≡ None → is_reached after.limit after.count ≡ true
  pub node : before.stop ≡ None → after.stop ≡ None → WritesNodes contents (n ∷ []) before after

-- these nodes were written, all below the limit, where there was none before
pub record TookNodes {W E : Type 0} (contents : W → Option (List ℕ)) (before : Written W E) (nodes : List Located) (now : Written W E) : Type 0 where
  pub rest : KeepsRest before now
  pub stop : now.stop ≡ None
  pub count : now.count ≡ before.count + length nodes
  pub more : is_reached now.limit now.count ≡ false
  pub written : WritesNodes contents nodes before now

-- of these nodes those up to the limit were written, where there was none before, unless writing failed
pub record FilledNodes {W E : Type 0} (contents : W → Option (List ℕ)) (before : Written W E) (nodes : List Located) (now : Written W E) : Type 0 where
  pub rest : KeepsRest before now
  pub count : before.count ≡ 0 → now.stop ≡ None → now.count ≡ length (up_to before.limit nodes)
  pub written : before.count ≡ 0 → now.stop ≡ None → WritesNodes contents (up_to before.limit nodes) before now

-- where nodes are shown, a beginning of what was pending and of these is out
pub record BeginsNodes {W E : Type 0} (contents : W → Option (List ℕ)) (nodes : List Located) (before now : Written W E) : Type 0 where
  pub rest : KeepsRest before now
  pub written : has_nodes before.showing.now.output.form ≡ true → (text : List ℕ) × ArePieces (look_of before.showing.now) (is_after before) before.head.now nodes text
      × AppendsBeginning (contents before.streams.now.out) (contents now.streams.now.out) (string_bytes before.streams.now.pending ++ text)

-- the same of the first of these nodes, not more than the limit, where there was none before
pub record BeginsFirst {W E : Type 0} (contents : W → Option (List ℕ)) (before : Written W E) (nodes : List Located) (now : Written W E) : Type 0 where
  pub first : List Located
  pub others : List Located
  pub split : nodes ≡ first ++ others
  pub few : before.count ≡ 0 → IfSome before.limit (λ most. length first ≤ most)
  pub begins : BeginsNodes contents first before now

-- the first of these nodes were written, all below the limit, where there was none before
pub record TookFirst {W E : Type 0} (contents : W → Option (List ℕ)) (before : Written W E) (nodes : List Located) (now : Written W E) : Type 0 where
  pub first : List Located
  pub others : List Located
  pub split : nodes ≡ first ++ others
  pub took : TookNodes contents before first now

-- what the path selects of a value, each location once where that is asked for, or no node
abbrev pub AreSelected : FunctionSet → JsonPath → Bool → Data → List Located → Type 0
AreSelected F path unique d shown = (shown ≡ [])
    ⊎ ((nodes : List Located) × Selects (with_rule_of path F) (path_tree path) d nodes × (shown ≡ once unique nodes))
