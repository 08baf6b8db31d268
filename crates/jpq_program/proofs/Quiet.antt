-- Runs that show nothing, and answer whether there is a node.
use Rattle.jpq_program.proofs.Words.{Colours, ◌&&◌, AreAllInPart, AreInputsFor, header_cells, header_for, path_texts, total_for, if◌then◌else◌, ◌≡◌, ◌∙◌, ◌≤◌, ◌⊎◌, ◌+◌, ◌++◌, ◌∷◌, ℕ, Bool, true, false, List, [], Option, Result, Ok, Err, inl, inr, refl, sym, ap, subst, append-nil, arith, common_steps, nat_lt, nat_tests, true≢false, Appends, AppendsBeginning, AnswersRun, AreAnswersInPart, AreEach, AreLines, AreLinesIn, ArePieces, Enough, Ends, Form, Found, FunctionSet, IsAnsweredInPart, IsAnswerInPart, IsArrayOf, IsFound, IsInputShown, IsLineShown, IsNamedShown, IsQuietRun, IsRowInPart, IsShownFor, IsShownInPart, IsShownInPartFor, IsUntil, JsonPath, Located, Look, MatchBool, More, Next, Nothing, OptionShown, Options, Outcome, Output, Shown, Stop, Streams, builtin_functions, cells_for, chosen, decimal, end_text, form_in, has_enough, has_nodes, head_for, is_array, is_blank, is_table, is_whole, length, lines_of, look_after, look_in, names_in, output_in, row_line, status_after, strip_last, without_mark}
use Rattle.jpq_program.proofs.Nodes.{appends_nothing}
use Rattle.jpq_program.specs.Run.{has_line_numbers, has_names}

-- ---- what is shown has no text

abbrev HasNoText : Shown → Type 0
HasNoText Is = (name : List ℕ) (number : ℕ) (bytes : List ℕ) (before : ℕ) (text : List ℕ) (count : ℕ) → Is name number bytes before text count → text ≡ []

each_empty : {A : Type 0} (Is : ℕ → ℕ → A → List ℕ → ℕ → Type 0) → ((number before : ℕ) (item : A) (text : List ℕ) (count : ℕ) → Is number before item text count → text ≡ []) → (number before : ℕ) (items : List A) (text : List ℕ) (count : ℕ)
    → AreEach Is number before items text count → text ≡ []
each_empty Is empty number before [] text count are = are.0
each_empty Is empty number before (item ∷ items) text count are =
    are.6 ∙ ap (λ (own : List ℕ). own ++ are.1) (empty number before item are.0 are.2 are.4) ∙ each_empty Is empty (number + 1) (before + are.2) items are.1 are.3 are.5

lines_empty : (form : Form) (output : Output) (head : List ℕ) (nodes : List Located) (text : List ℕ) → form ≡ Nothing → AreLinesIn form output head nodes text → text ≡ []
lines_empty form output head nodes text quiet lines = subst (λ (f : Form). AreLinesIn f output head nodes text → text ≡ []) (sym quiet) (λ (none : text ≡ []). none) lines

unless_summed : (summed : Bool) (output : Output) (head : List ℕ) (nodes : List Located) (text : List ℕ) → output.form ≡ Nothing → MatchBool summed (text ≡ []) (AreLines output head nodes text) → text ≡ []
unless_summed true output head nodes text quiet none = none
unless_summed false output head nodes text quiet lines = lines_empty output.form output head (chosen output nodes) text quiet lines

path_empty : (F : FunctionSet) (path : JsonPath) (look : Look) (later : Bool) (head bytes text : List ℕ) (count : ℕ) → look.output.form ≡ Nothing → IsAnswerInPart F path look later head bytes text count → text ≡ []
path_empty F path look later head bytes text count quiet (inl nothing) = nothing.0
path_empty F path look later head bytes text count quiet (inr (inl whole)) =
    let nodes = whole.2.0 in
    let shown = subst (λ (has : Bool). MatchBool has (ArePieces look later head (chosen look.output nodes) text) (MatchBool look.summed (text ≡ []) (AreLines look.output head nodes text))) (ap has_nodes quiet) whole.2.2 in
    unless_summed look.summed look.output head nodes text quiet shown
path_empty F path look later head bytes text count quiet (inr (inr first)) = absurd (true≢false (sym first.0 ∙ ap has_nodes quiet))

until_empty : (most : Option ℕ) (Is : Shown) → HasNoText Is → HasNoText (IsUntil most Is)
until_empty most Is empty name number bytes before text count = by_case (has_enough most before)
  where
    by_case : (enough : Bool) → MatchBool enough ((text ≡ []) × (count ≡ 0)) (Is name number bytes before text count) → text ≡ []
    by_case true is = is.0
    by_case false is = empty name number bytes before text count is

line_empty : (Is : Shown) → HasNoText Is → (name : List ℕ) (number : ℕ) (line : List ℕ) (before : ℕ) (text : List ℕ) (count : ℕ) → IsLineShown Is name number line before text count → text ≡ []
line_empty Is empty name number line before text count = by_case (is_blank line)
  where
    by_case : (blank : Bool) → MatchBool blank ((text ≡ []) × (count ≡ 0)) (Is name number (without_mark (strip_last 10 line)) before text count) → text ≡ []
    by_case true is = is.0
    by_case false is = empty name number (without_mark (strip_last 10 line)) before text count is

input_empty : (Is : Shown) → HasNoText Is → (lines : Bool) (name bytes : List ℕ) (before : ℕ) (text : List ℕ) (count : ℕ) → IsInputShown Is lines name bytes before text count → text ≡ []
input_empty Is empty true name bytes before text count are = each_empty (λ number so_far line. IsLineShown Is name number line so_far) (λ number so_far line. line_empty Is empty name number line so_far) 1 before (lines_of bytes) text count are
input_empty Is empty false name bytes before text count is = empty name 1 (without_mark bytes) before text count is

-- nothing is shown of the inputs of such a run
inputs_text : (options : Options) (colours : Colours) (paths : List JsonPath) (bytes_of : List ℕ → Option (List ℕ)) (text : List ℕ) (count : ℕ) → IsQuietRun options → AreInputsFor options (IsShownInPartFor options colours paths) bytes_of text count → text ≡ []
inputs_text options colours paths bytes_of text count quiet are =
    let Is = IsUntil options.most_of_all (IsShownInPartFor options colours paths) in
    each_empty (λ number so_far name. IsNamedShown Is options.lines bytes_of name so_far)
    (λ number so_far name text count shown. input_empty Is (until_empty options.most_of_all (IsShownInPartFor options colours paths) document_empty) options.lines name shown.0 so_far text count shown.2) 1 0 (names_in options) text count are
  where
    document_empty : HasNoText (IsShownInPartFor options colours paths)
    document_empty name line bytes before text count shown =
        let head = head_for options (length paths) name line in
        let look = look_in options colours in
        let each = AreAnswersInPart builtin_functions paths look head bytes before in
        let all = subst (λ (table : Bool). MatchBool table (IsRowInPart builtin_functions paths (row_line options.shown options.end) (cells_for options name line) bytes text count) (IsShownInPart builtin_functions paths look head bytes before text count)) (ap is_table quiet.shown) shown in
        let are = subst (λ (array : Bool). MatchBool array (((text ≡ []) × (count ≡ 0)) ⊎ IsArrayOf (output_in options) each text count) (each text count)) (ap (λ (s : OptionShown). is_array (form_in s)) quiet.shown) all in
        each_empty (λ number so_far path. IsAnswerInPart builtin_functions path (look_after look so_far) (nat_lt before so_far) (head number) bytes)
        (λ number so_far path text count is. path_empty builtin_functions path (look_after look so_far) (nat_lt before so_far) (head number) bytes text count (ap form_in quiet.shown) is) 1 before paths text count are

-- no row stands before
quiet_header : (options : Options) (texts : List (List ℕ)) → IsQuietRun options → header_for options texts ≡ []
quiet_header options texts quiet = ap (λ (s : OptionShown). if options.header && is_table s then row_line options.shown options.end (header_cells (has_names options) (has_line_numbers options) texts) else []) quiet.shown ∙ none options.header _
  where
    none : (b : Bool) (row : List ℕ) → (if b && false then row else []) ≡ []
    none true row = refl
    none false row = refl

-- nor a sum after
quiet_total : (options : Options) (count : ℕ) → IsQuietRun options → total_for options count ≡ []
quiet_total options count quiet = ap (λ (b : Bool). if b then decimal count ++ end_text options.end else []) quiet.total

-- so all that is shown is what is shown of the inputs
quiet_all : (options : Options) (texts : List (List ℕ)) (own : List ℕ) (count : ℕ) → IsQuietRun options → header_for options texts ++ (own ++ total_for options count) ≡ own
quiet_all options texts own count quiet = ap (λ (first : List ℕ). first ++ (own ++ total_for options count)) (quiet_header options texts quiet) ∙ ap (λ (last : List ℕ). own ++ last) (quiet_total options count quiet) ∙ append-nil own

quiet_text : (options : Options) (colours : Colours) (paths : List JsonPath) (bytes_of : List ℕ → Option (List ℕ)) (text : List ℕ) (count : ℕ) → IsQuietRun options → AreAllInPart options colours paths bytes_of text count → text ≡ []
quiet_text options colours paths bytes_of text count quiet are =
    are.2 ∙ quiet_all options (path_texts bytes_of options) are.0 count quiet ∙ inputs_text options colours paths bytes_of are.0 count quiet are.1

-- ---- what comes of such a run

-- nothing goes out
pub quiet_out : {W : Type 0} (contents : W → Option (List ℕ)) (bytes_of : List ℕ → Option (List ℕ)) (options : Options) (colours : Colours) (before after : W) → IsQuietRun options → IsAnsweredInPart contents bytes_of options colours before after → Appends (contents before) (contents after) []
quiet_out {W} contents bytes_of options colours before after quiet (inl same) = subst (λ (o : W). Appends (contents before) (contents o) []) (sym same) (appends_nothing (contents before))
quiet_out contents bytes_of options colours before after quiet (inr shown) =
    let begins = subst (AppendsBeginning (contents before) (contents after)) (quiet_text options colours shown.0 bytes_of shown.2 shown.3 quiet shown.4) shown.5 in
    subst (Appends (contents before) (contents after)) (first_of begins.0 begins.1 begins.2) begins.3
  where
    first_of : (xs ys : List ℕ) → [] ≡ xs ++ ys → xs ≡ []
    first_of [] ys e = refl
    first_of (x ∷ xs) ys e = absurd cc

-- where its status is 0 or 1 it ended well, and something was selected, or nothing was and nothing refused
pub ended_quietly : (ended : Result Next Stop) (binds : Bool) (outcome : Outcome) (status : ℕ) → status ≡ status_after ended binds true outcome → status ≤ 1
    → (next : Next) × (ended ≡ Ok next) × (status ≡ 0 → outcome.selected ≡ true) × (status ≡ 1 → (outcome.selected ≡ false) × (outcome.refused ≡ false))
ended_quietly (Ok next) binds outcome status is few = (next, refl, (λ zero. found outcome (sym is ∙ zero)), (λ one. none outcome (sym is ∙ one)))
  where
    found : (outcome : Outcome) → status_after (Ok next) binds true outcome ≡ 0 → outcome.selected ≡ true
    found outcome zero = grind (arith, nat_tests, common_steps)

    none : (outcome : Outcome) → status_after (Ok next) binds true outcome ≡ 1 → (outcome.selected ≡ false) × (outcome.refused ≡ false)
    none outcome one = grind (arith, nat_tests, common_steps)
ended_quietly (Err e) binds outcome status is few = absurd (wrong e (subst (λ n. n ≤ 1) is few))
  where
    wrong : (e : Stop) → status_after (Err e) binds true outcome ≤ 1 → ⊥
    wrong e few = grind (arith, nat_tests, common_steps)

-- where nothing was selected it showed all
pub quiet_whole : {W E : Type 0} (form : Form) (most : Option ℕ) (next : Next) (after : Streams W E) → after.outcome.selected ≡ false → Ends form most next after → is_whole next ≡ true
quiet_whole form most More after none ends = refl
quiet_whole form most Enough after none ends = refl
quiet_whole form most Found after none ends = absurd (true≢false (sym ends.1 ∙ none))

-- the status says whether there is a node
pub quiet_found : {W E : Type 0} (contents : W → Option (List ℕ)) (bytes_of : List ℕ → Option (List ℕ)) (options : Options) (colours : Colours) (next : Next) (was now : Option (List (List ℕ))) (before after : Streams W E) (status : ℕ) → IsQuietRun options
    → (status ≡ 0 → after.outcome.selected ≡ true) → (status ≡ 1 → (after.outcome.selected ≡ false) × (after.outcome.refused ≡ false))
    → AnswersRun contents bytes_of options colours next was now before after → IsFound bytes_of options colours status
quiet_found contents bytes_of options colours next was now before after status quiet found none run = record {
  paths = run.paths;
  are = run.are;
  found = λ zero. (
    run.count,
    sym run.selected ∙ found zero,
    subst (λ (text : List ℕ). AreInputsFor options (IsShownInPartFor options colours run.paths) bytes_of text run.count) (inputs_text options colours run.paths bytes_of run.part.0 run.count quiet run.part.1) run.part.1,
  );
  none = λ one.
      let nothing = none one in
      let whole = run.whole nothing.1 (quiet_whole _ _ next after nothing.0 run.ends) in
      let own : whole.0 ≡ [] = sym (whole.2 ∙ quiet_all options (path_texts bytes_of options) whole.0 run.count quiet) ∙ quiet_text options colours run.paths bytes_of run.text run.count quiet run.part in
      subst (λ (text : List ℕ). AreInputsFor options (IsShownFor options colours run.paths) bytes_of text 0) own
      (subst (λ c. AreInputsFor options (IsShownFor options colours run.paths) bytes_of whole.0 c) (no_count run.count (sym run.selected ∙ nothing.0)) whole.1);
}
  where
    no_count : (count : ℕ) → nat_lt 0 count ≡ false → count ≡ 0
    no_count count none = grind (arith, nat_tests, common_steps)
