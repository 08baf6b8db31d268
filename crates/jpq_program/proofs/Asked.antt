-- What options ask for, as documents are answered.
use Rattle.jpq_program.proofs.Words.{AreAllInPart, AreAllShown, IsBetween, IsUntil, total_for, has_enough, nat_lt, decimal, end_text, true≢false, header_cells, header_for, if◌then◌else◌, texts_asked, ◌≡◌, ◌∙◌, ◌&&◌, ◌||◌, ℕ, true, false, List, [], Option, None, length, length-map, map, refl, sym, ap, subst, string_bytes, Appends, AreInputsShown, AreKnown, ArePaths, IsAnswered, IsShownInPart, IsShownOn, cells_for, head_for, Outcome, names_in, reading_in, status_of, Answered, AppendsBeginning, AskedPath, Begins, IsAnsweredInPart, IsShownInPartFor, SendsFor, Shown, ◌++◌, Documents, Heads, ReadsForPaths, JsonPath, Keeps, IfSome, Nodes, OptionShown, Options, Output, Colours, Form, IsRowInPart, IsRowOn, Look, MatchBool, first_cells, row_line, look_in, Streams, builtin_functions, form_in, head_by, heads_in, is_each, is_table, output_in, path_tree, shows_places, Nothing, path_texts, AnswersRun, Ends, IfWhole, is_whole, Enough, Found, More, Next, inr, SendsUntil, is_quiet}
use Rattle.jpq_program.proofs.Ended.{sent_out, status_is}
use Rattle.jpq_program.proofs.Sending.{ends_still, no_named, no_shown, none_wanted}
use Rattle.jpq_program.specs.Inputs.{IsNamedShown, OpensWanted}
use Rattle.jpq_program.specs.Inside.{named_for}
use Rattle.jpq_program.specs.Run.{IsShownFor, OpensFor}
use Rattle.jpq_program.proofs.Shown.{answered_since, begun_since, none_begun_of}

-- ---- documents are read for what is asked

pub reads_documents : (documents : Documents) (options : Options) → documents.answering.shown ≡ options.shown → documents.answering.showing.output ≡ output_in options
    → IfSome documents.reader (λ reader. Keeps reader (shows_places documents.answering.showing.output.form) (map (λ (path : AskedPath). path_tree path.path) documents.answering.paths.now))
    → ReadsForPaths documents
reads_documents documents options shown output read = record {
  places = λ table. ap (λ (o : Output). shows_places o.form) output ∙ values options.shown (sym (ap is_table shown) ∙ table);
  read = read;
}
  where
    values : (shown : OptionShown) → is_table shown ≡ true → shows_places (form_in shown) ≡ false
    values (Nodes form) table = absurd cc
    values _ table = refl

-- ---- what is shown of the inputs is what the options ask for

abbrev Whole : OptionShown → List JsonPath → Look → Heads → Shown
Whole shown paths look heads name number bytes before text count = MatchBool (is_table shown) (IsRowOn builtin_functions paths (row_line shown look.output.end) (first_cells heads.file heads.line name number) bytes text count)
    (IsShownOn builtin_functions paths look (head_by look.output heads name number) bytes before text count)

abbrev InPart : OptionShown → List JsonPath → Look → Heads → Shown
InPart shown paths look heads name number bytes before text count = MatchBool (is_table shown) (IsRowInPart builtin_functions paths (row_line shown look.output.end) (first_cells heads.file heads.line name number) bytes text count)
    (IsShownInPart builtin_functions paths look (head_by look.output heads name number) bytes before text count)

heads_as_asked : (options : Options) (asked : List AskedPath) (heads : Heads) → heads ≡ heads_in options (length asked) → heads ≡ heads_in options (length (map (λ (path : AskedPath). path.path) asked))
heads_as_asked options asked heads is = is ∙ ap (heads_in options) (sym (length-map asked (λ (path : AskedPath). path.path)))

-- the first row, what is shown of the inputs, and the sum, by how they are shown
abbrev Header : Options → Look → Heads → List (List ℕ) → List ℕ
Header options look heads texts = if options.header && is_table options.shown then row_line options.shown look.output.end (header_cells heads.file heads.line texts) else []

abbrev Total : Look → ℕ → List ℕ
Total look count = if look.summed then decimal count ++ end_text look.output.end else []

abbrev AllOf : Options → Look → Heads → List (List ℕ) → Shown → (List ℕ → Option (List ℕ)) → List ℕ → ℕ → Type 0
AllOf options look heads texts Is bytes_of = IsBetween (Header options look heads texts) (Total look) (AreInputsShown (IsUntil look.most_of_all Is) options.lines bytes_of (names_in options) 0)

abbrev AllWhole : Options → List JsonPath → Look → Heads → List (List ℕ) → (List ℕ → Option (List ℕ)) → List ℕ → ℕ → Type 0
AllWhole options paths look heads texts bytes_of = AllOf options look heads texts (Whole options.shown paths look heads) bytes_of

abbrev AllInPart : Options → List JsonPath → Look → Heads → List (List ℕ) → (List ℕ → Option (List ℕ)) → List ℕ → ℕ → Type 0
AllInPart options paths look heads texts bytes_of = AllOf options look heads texts (InPart options.shown paths look heads) bytes_of

pub sent_for : {W E : Type 0} (contents : W → Option (List ℕ)) (options : Options) (colours : Colours) (next : Next) (asked : List AskedPath) (look : Look) (heads : Heads) (bytes_of : List ℕ → Option (List ℕ)) (before start now : Streams W E)
    → look ≡ look_in options colours → heads ≡ heads_in options (length asked) → texts_asked asked ≡ path_texts bytes_of options → start.out ≡ before.out → start.pending ≡ before.pending → start.outcome ≡ before.outcome → start.total ≡ before.total → (options.silent ≡ true → start.err ≡ before.err)
    → SendsUntil options.silent contents look.output.form look.most_of_all next (AllWhole options (map (λ (path : AskedPath). path.path) asked) look heads (texts_asked asked) bytes_of) (AllInPart options (map (λ (path : AskedPath). path.path) asked) look heads (texts_asked asked) bytes_of) start now
    → SendsFor contents options colours next (map (λ (path : AskedPath). path.path) asked) bytes_of before now
sent_for contents options colours next asked look heads bytes_of before start now look_is heads_is texts_are out pending outcome total err sent = (
  subst (λ (l : Look). Ends l.output.form l.most_of_all next now) look_is sent.0,
  (
    answered_since contents (IfWhole next (AreAllShown options colours paths bytes_of)) (AreAllInPart options colours paths bytes_of) before start now out pending outcome total err
        (subst (λ (t : List (List ℕ)). Answered options.silent contents (IfWhole next (AllWhole options paths (look_in options colours) (heads_in options (length paths)) t bytes_of)) (AllInPart options paths (look_in options colours) (heads_in options (length paths)) t bytes_of) start now) texts_are
        (subst (λ (h : Heads). Answered options.silent contents (IfWhole next (AllWhole options paths (look_in options colours) h (texts_asked asked) bytes_of)) (AllInPart options paths (look_in options colours) h (texts_asked asked) bytes_of) start now) (heads_as_asked options asked heads heads_is)
        (subst (λ (l : Look). Answered options.silent contents (IfWhole next (AllWhole options paths l heads (texts_asked asked) bytes_of)) (AllInPart options paths l heads (texts_asked asked) bytes_of) start now) look_is sent.1.0))),
    sent.1.1,
  ),
)
  where
    paths : List JsonPath
    paths = map (λ (path : AskedPath). path.path) asked

pub opened_for : (options : Options) (colours : Colours) (asked : List AskedPath) (look : Look) (heads : Heads) (bytes_of : List ℕ → Option (List ℕ)) (was now : Option (List (List ℕ))) → look ≡ look_in options colours → heads ≡ heads_in options (length asked)
    → OpensWanted options.most_of_all (IsNamedShown (IsUntil options.most_of_all (Whole options.shown (map (λ (path : AskedPath). path.path) asked) look heads)) options.lines bytes_of) 0 (names_in options) [] was now
    → OpensWanted options.most_of_all (named_for options colours (map (λ (path : AskedPath). path.path) asked) bytes_of) 0 (names_in options) [] was now
opened_for options colours asked look heads bytes_of was now look_is heads_is opens =
    subst (λ (h : Heads). OpensWanted options.most_of_all (IsNamedShown (IsUntil options.most_of_all (Whole options.shown paths (look_in options colours) h)) options.lines bytes_of) 0 (names_in options) [] was now) (heads_as_asked options asked heads heads_is)
    (subst (λ (l : Look). OpensWanted options.most_of_all (IsNamedShown (IsUntil options.most_of_all (Whole options.shown paths l heads)) options.lines bytes_of) 0 (names_in options) [] was now) look_is opens)
  where
    paths : List JsonPath
    paths = map (λ (path : AskedPath). path.path) asked

pub begun_for : {W E : Type 0} (contents : W → Option (List ℕ)) (options : Options) (colours : Colours) (asked : List AskedPath) (look : Look) (heads : Heads) (bytes_of : List ℕ → Option (List ℕ)) (before start now : Streams W E)
    → look ≡ look_in options colours → heads ≡ heads_in options (length asked) → texts_asked asked ≡ path_texts bytes_of options → start.out ≡ before.out → start.pending ≡ before.pending
    → Begins contents (AllInPart options (map (λ (path : AskedPath). path.path) asked) look heads (texts_asked asked) bytes_of) start now
    → Begins contents (AreAllInPart options colours (map (λ (path : AskedPath). path.path) asked) bytes_of) before now
begun_for contents options colours asked look heads bytes_of before start now look_is heads_is texts_are out pending begun =
    begun_since contents (AreAllInPart options colours paths bytes_of) before start now out pending
    (subst (λ (t : List (List ℕ)). Begins contents (AllInPart options paths (look_in options colours) (heads_in options (length paths)) t bytes_of) start now) texts_are
    (subst (λ (h : Heads). Begins contents (AllInPart options paths (look_in options colours) h (texts_asked asked) bytes_of) start now) (heads_as_asked options asked heads heads_is)
    (subst (λ (l : Look). Begins contents (AllInPart options paths l heads (texts_asked asked) bytes_of) start now) look_is begun)))
  where
    paths : List JsonPath
    paths = map (λ (path : AskedPath). path.path) asked

-- of inputs that are known nothing may be shown, and of the first row nothing is out
pub nothing_for : {W E : Type 0} (contents : W → Option (List ℕ)) (options : Options) (colours : Colours) (paths : List JsonPath) (bytes_of : List ℕ → Option (List ℕ)) (before now : Streams W E) → AreKnown bytes_of (names_in options) → now.out ≡ before.out
    → Begins contents (AreAllInPart options colours paths bytes_of) before now
nothing_for contents options colours paths bytes_of before now known same =
    let Is = IsShownInPartFor options colours paths in
    let none = λ (name : List ℕ) (number : ℕ) (bytes : List ℕ). none_wanted options.most_of_all Is name number bytes 0 (no_shown (is_table options.shown) paths (look_in options colours) (row_line options.shown options.end) (cells_for options name number) (head_for options (length paths) name number) bytes 0) in
    none_begun_of contents (AreAllInPart options colours paths bytes_of) (header_for options (path_texts bytes_of options) ++ ([] ++ total_for options 0)) 0 before now
    ([], no_named (IsUntil options.most_of_all Is) options.lines bytes_of (names_in options) 0 none known 1, refl) same

-- a run was answered
pub run_answered : {W E : Type 0} (contents : W → Option (List ℕ)) (bytes_of : List ℕ → Option (List ℕ)) (options : Options) (colours : Colours) (next : Next) (asked : List AskedPath) (was now : Option (List (List ℕ))) (old start answer final : Streams W E)
    → ArePaths (reading_in options) (path_texts bytes_of options) (map (λ (path : AskedPath). path.path) asked)
    → old.outcome ≡ record { selected = false; refused = false } → start.out ≡ old.out → start.outcome ≡ old.outcome → string_bytes start.pending ≡ []
    → final.out ≡ answer.out → final.outcome ≡ answer.outcome → final.total ≡ answer.total → (options.silent ≡ true → (start.err ≡ old.err) × (final.err ≡ answer.err)) → SendsFor contents options colours next (map (λ (path : AskedPath). path.path) asked) bytes_of start answer
    → (is_whole next ≡ true → answer.outcome.refused ≡ false → OpensFor options (IsShownFor options colours (map (λ (path : AskedPath). path.path) asked)) bytes_of was now)
    → AnswersRun contents bytes_of options colours next was now old final
run_answered {W} {E} contents bytes_of options colours next asked was now old start answer final are fresh out outcome empty final_out final_outcome final_total quiet sent opens =
    let answered = sent.1.0 in
    let appends = sent_out (contents start.out) (contents answer.out) (string_bytes start.pending) (string_bytes answer.pending) answered.text empty sent.1.1 answered.writes in
    record {
      paths = map (λ (path : AskedPath). path.path) asked;
      are = are;
      text = answered.text;
      count = answered.count;
      ends = ends_still (form_in options.shown) options.most_of_all next answer final final_total (ap (λ (o : Outcome). o.selected) final_outcome) sent.0;
      whole = λ right all. (answered.whole (sym (ap (λ (o : Outcome). o.refused) final_outcome) ∙ right)).1 all;
      part = answered.part;
      out = subst (λ (o : W). Appends (contents o) (contents final.out) answered.text) out (subst (λ (o : W). Appends (contents start.out) (contents o) answered.text) (sym final_out) appends);
      selected = ap (λ (o : Outcome). o.selected) final_outcome ∙ answered.selected ∙ ap (λ (o : Outcome). o.selected || nat_lt 0 answered.count) (outcome ∙ fresh);
      told = λ silent right. (quiet silent).1 ∙ answered.told silent (sym (ap (λ (o : Outcome). o.refused) final_outcome) ∙ right) ∙ (quiet silent).0;
      opens = λ whole right. opens whole (sym (ap (λ (o : Outcome). o.refused) final_outcome) ∙ right);
    }

-- where nodes are shown each, something is shown
pub each_shown : (shown : OptionShown) → is_each shown ≡ true → is_quiet shown ≡ false
each_shown (Nodes Nothing) is = absurd cc
each_shown (Nodes _) is = refl
each_shown _ is = refl

-- a plain run shows all that is wanted, and goes on up to its end where all is
pub plain_whole : {W E : Type 0} (options : Options) (next : Next) (after : Streams W E) → is_each options.shown ≡ true → Ends (form_in options.shown) options.most_of_all next after → is_whole next ≡ true
plain_whole options More after each ends = refl
plain_whole options Enough after each ends = refl
plain_whole options Found after each ends = absurd (not_quiet options.shown each ends.0)
  where
    not_quiet : (shown : OptionShown) → is_each shown ≡ true → form_in shown ≡ Nothing → ⊥
    not_quiet (Nodes Nothing) is none = absurd cc
    not_quiet (Nodes _) is none = absurd cc
    not_quiet _ is none = absurd cc

pub all_wanted : {W E : Type 0} (form : Form) (most : Option ℕ) (next : Next) (after : Streams W E) → is_whole next ≡ true → most ≡ None → Ends form most next after → next ≡ More
all_wanted form most More after whole all ends = refl
all_wanted form most Enough after whole all ends = absurd (true≢false (sym ends ∙ ap (λ (m : Option ℕ). has_enough m after.total) all))
all_wanted form most Found after whole all ends = absurd (true≢false (sym whole))

-- so what it shows went out
pub plain_answered : {W E : Type 0} (contents : W → Option (List ℕ)) (bytes_of : List ℕ → Option (List ℕ)) (options : Options) (colours : Colours) (next : Next) (was now : Option (List (List ℕ))) (before after : Streams W E) → is_each options.shown ≡ true → after.outcome.refused ≡ false
    → AnswersRun contents bytes_of options colours next was now before after → IsAnswered contents bytes_of options colours was now before.out after.out (status_of after.outcome)
plain_answered contents bytes_of options colours next was now before after each right run = record {
  paths = run.paths;
  are = run.are;
  text = run.text;
  count = run.count;
  shown = run.whole right (plain_whole options next after each run.ends);
  out = run.out;
  ends = status_is after.outcome (nat_lt 0 run.count) right run.selected;
  opens = run.opens (plain_whole options next after each run.ends) right;
}

-- of what is shown of the inputs a beginning is out
pub run_begun : {W E : Type 0} (contents : W → Option (List ℕ)) (bytes_of : List ℕ → Option (List ℕ)) (options : Options) (colours : Colours) (asked : List AskedPath) (old start answer final : Streams W E)
    → ArePaths (reading_in options) (path_texts bytes_of options) (map (λ (path : AskedPath). path.path) asked)
    → start.out ≡ old.out → string_bytes start.pending ≡ [] → final.out ≡ answer.out
    → Begins contents (AreAllInPart options colours (map (λ (path : AskedPath). path.path) asked) bytes_of) start answer
    → IsAnsweredInPart contents bytes_of options colours old.out final.out
run_begun {W} {E} contents bytes_of options colours asked old start answer final are out empty final_out begun = inr (
  map (λ (path : AskedPath). path.path) asked,
  are,
  begun.0,
  begun.1,
  begun.2,
  subst (λ (o : W). AppendsBeginning (contents o) (contents final.out) begun.0) out (subst (λ (o : W). AppendsBeginning (contents start.out) (contents o) begun.0) (sym final_out)
      (subst (λ (waiting : List ℕ). AppendsBeginning (contents start.out) (contents answer.out) (waiting ++ begun.0)) empty begun.3)),
)

-- the same of a run that ended so
pub run_ended : {W : Type 0} (contents : W → Option (List ℕ)) (bytes_of : List ℕ → Option (List ℕ)) (options : Options) (colours : Colours) (was now : Option (List (List ℕ))) (old start final last : W) (outcome : Outcome) (status : ℕ) → start ≡ old → last ≡ final → status ≡ status_of outcome
    → IsAnswered contents bytes_of options colours was now start final (status_of outcome) → IsAnswered contents bytes_of options colours was now old last status
run_ended {W} contents bytes_of options colours was now old start final last outcome status begins ends is answered =
    subst (λ (o : W). IsAnswered contents bytes_of options colours was now o last status) begins
    (subst (λ (o : W). IsAnswered contents bytes_of options colours was now start o status) (sym ends)
    (subst (λ (n : ℕ). IsAnswered contents bytes_of options colours was now start final n) (sym is) answered))

-- what is so of what is out, as it was before and stayed
pub out_since : {W : Type 0} (Is : W → W → Type 0) (old start final last : W) → start ≡ old → last ≡ final → Is start final → Is old last
out_since {W} Is old start final last begins ends is = subst (λ (o : W). Is o last) begins (subst (Is start) (sym ends) is)
