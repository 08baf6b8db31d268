-- What is sent of inputs, one after the other.
use Rattle.jpq_program.proofs.Words.{IsBetween, IsAside, ◌≡◌, ◌∙◌, ◌+◌, ◌==◌, ◌<◌, ◌||◌, ℕ, Bool, true, false, List, [], ◌∷◌, ◌++◌, None, Option, length, length-append, refl, sym, ap, subst, append-nil, append_assoc, arith, string_bytes, Answering, AreAnswersInPart, IsAnswerInPart, Look, look_of, IsArrayInPart, IsRowInPart, IsShownInPart, first_cells, row_line, is_table, paths_in, JsonPath, builtin_functions, head_by, inl, all_in_part_by, shown_in_part_by, wanted_by, wanted_in_part_by, shown_by, AreEach, AreInputsShown, AreKnown, Answered, AppendsBeginning, Begins, Bor, IsInputShown, IsNamedShown, IsUntil, Next, get_or, get_or-map, has_enough, length-map, look_after, map, nat_lt, suc, take, zero, IsLineShown, OnlyNotes, OnlyRefuses, Sends, Shown, Streams, drop_through, Global, IfSome, Some, MatchBool, if◌then◌else◌, is_array, is_blank, lines_of, strip_last, take_through, with_byte, without_mark, Form, IfWhole, SendsUntil, Ends, drop, is_whole, More, Enough, Found, true≢false}
use Rattle.std.specs.Io.Buffered.{reader_buffer, reader_capacity, reader_inner, reader_remaining}
use Rattle.std.specs.Io.KnownBytes.{prepend_known}
use Rattle.std.specs.declared.io.buffered.BufReader.{BufReader}
use Rattle.jpq_program.proofs.Nodes.{adds_both, begun_after, plus_zero, split_mapped}
use Rattle.jpq_program.proofs.Shown.{answered_as, answered_further, answered_noted, begun_as, begun_further, begun_still, answered_begun, answered_refused, answered_three, each_nothing, each_rest, mapped_begun, mapped_further, none_answered, nothing_answered, nothing_shown, answered_until, mapped_until, if_whole, or_false}

-- a text was sent, and the run goes on, or it shows all
pub goes_on : {W E : Type 0} {silent : Bool} (contents : W → Option (List ℕ)) (form : Form) (most : Option ℕ) (Is IsPart : List ℕ → ℕ → Type 0) (next : Next) (before now : Streams W E) → Ends form most next now → Sends silent contents Is IsPart before now → SendsUntil silent contents form most next Is IsPart before now
goes_on contents form most Is IsPart next before now ends sent = (ends, (if_whole contents Is IsPart next before now sent.0, sent.1))

-- what was sent of a document, and noted after it
pub noted_until : {W E : Type 0} {silent : Bool} (contents : W → Option (List ℕ)) (form : Form) (most : Option ℕ) (Is IsPart Also AlsoPart : List ℕ → ℕ → Type 0) (next : Next) (before old now : Streams W E) → Ends form most next now → OnlyNotes old now → (silent ≡ true → now.err ≡ old.err)
    → ((text : List ℕ) (count : ℕ) → Is text count → Also text count) → ((text : List ℕ) (count : ℕ) → IsPart text count → AlsoPart text count)
    → Sends silent contents Is IsPart before old → SendsUntil silent contents form most next Also AlsoPart before now
noted_until {W} {E} contents form most Is IsPart Also AlsoPart next before old now ends noted quiet also also_part sent = goes_on contents form most Also AlsoPart next before now ends (
  answered_as contents Is IsPart Also AlsoPart before now also also_part (answered_noted contents Is IsPart before old now sent.0 noted (λ silent right. quiet silent)),
  ap (λ (s : Streams W E). string_bytes s.pending) noted ∙ sent.1,
)

pub noted_begun : {W E : Type 0} {silent : Bool} (contents : W → Option (List ℕ)) (Is IsPart AlsoPart : List ℕ → ℕ → Type 0) (before old now : Streams W E) → OnlyNotes old now → ((text : List ℕ) (count : ℕ) → IsPart text count → AlsoPart text count) → Sends silent contents Is IsPart before old → Begins contents AlsoPart before now
noted_begun {W} {E} contents Is IsPart AlsoPart before old now noted also sent =
    begun_as contents IsPart AlsoPart before now also (begun_still contents IsPart before old now (answered_begun contents Is IsPart before old sent.0) (ap (λ (s : Streams W E). s.out) noted))

-- the run goes on where something was refused
pub refused_ends : {W E : Type 0} (form : Form) (most : Option ℕ) (next : Next) (before now : Streams W E) → next ≡ More → has_enough most before.total ≡ false → OnlyRefuses before now → Ends form most next now
refused_ends {W} {E} form most next before now goes_on more kept =
    subst (λ (n : Next). Ends form most n now) (sym goes_on) (ap (λ (s : Streams W E). has_enough most s.total) kept ∙ more)

-- something was refused, and the run goes on
pub refused_until : {W E : Type 0} {silent : Bool} (contents : W → Option (List ℕ)) (form : Form) (most : Option ℕ) (Is IsPart : List ℕ → ℕ → Type 0) (next : Next) (before now : Streams W E) → next ≡ More → has_enough most before.total ≡ false → string_bytes before.pending ≡ [] → IsPart [] 0 → OnlyRefuses before now → now.outcome.refused ≡ true
    → SendsUntil silent contents form most next Is IsPart before now
refused_until {W} {E} contents form most Is IsPart next before now more wanted empty none kept refused = (
  refused_ends form most next before now more wanted kept,
  (nothing_answered contents (IfWhole next Is) IsPart before now none kept refused, ap (λ (s : Streams W E). string_bytes s.pending) kept ∙ empty),
)

-- ---- documents before which there are enough, or not

-- nothing is shown
abbrev NoneShown : List ℕ → ℕ → Type 0
NoneShown text count = (text ≡ []) × (count ≡ 0)

-- more are wanted
pub is_wanted : (most : Option ℕ) (Is : Shown) (name : List ℕ) (number : ℕ) (bytes : List ℕ) (before : ℕ) (text : List ℕ) (count : ℕ) → has_enough most before ≡ false → Is name number bytes before text count → IsUntil most Is name number bytes before text count
is_wanted most Is name number bytes before text count more is = subst (λ (enough : Bool). MatchBool enough ((text ≡ []) × (count ≡ 0)) (Is name number bytes before text count)) (sym more) is

-- there are enough
enough_shown : (most : Option ℕ) (Is : Shown) (name : List ℕ) (number : ℕ) (bytes : List ℕ) (before : ℕ) → has_enough most before ≡ true → IsUntil most Is name number bytes before [] 0
enough_shown most Is name number bytes before enough = subst (λ (enough : Bool). MatchBool enough (NoneShown [] 0) (Is name number bytes before [] 0)) (sym enough) (refl, refl)

-- nothing may be shown, where it may of more
pub none_wanted : (most : Option ℕ) (Is : Shown) (name : List ℕ) (number : ℕ) (bytes : List ℕ) (before : ℕ) → Is name number bytes before [] 0 → IsUntil most Is name number bytes before [] 0
none_wanted most Is name number bytes before none = by_case (has_enough most before)
  where
    by_case : (enough : Bool) → MatchBool enough (NoneShown [] 0) (Is name number bytes before [] 0)
    by_case true = (refl, refl)
    by_case false = none

-- a run that ended with all that is wanted, and does not go on, has enough
pub enough_at : {W E : Type 0} (form : Form) (most : Option ℕ) (next : Next) (now : Streams W E) → Ends form most next now → (next ≡ More → ⊥) → is_whole next ≡ true → has_enough most now.total ≡ true
enough_at form most More now ends ended whole = absurd (ended refl)
enough_at form most Enough now ends ended whole = ends
enough_at form most Found now ends ended whole = absurd (true≢false (sym whole))

-- ---- lines and inputs, as each is shown by how many nodes were before

abbrev EachLine : Shown → List ℕ → ℕ → ℕ → List ℕ → List ℕ → ℕ → Type 0
EachLine Is name number before line text count = IsLineShown Is name number line before text count

abbrev EachNamed : Shown → Bool → (List ℕ → Option (List ℕ)) → ℕ → ℕ → List ℕ → List ℕ → ℕ → Type 0
EachNamed Is lines bytes_of number before name text count = IsNamedShown Is lines bytes_of name before text count

-- ---- the lines of a text

first_by : (byte : ℕ) (bytes : List ℕ) (ends : Bool) → with_byte byte (lines_of bytes) ≡ (byte ∷ take_through 10 bytes) ∷ lines_of (drop_through 10 bytes)
    → (if ends then (byte ∷ []) ∷ lines_of bytes else with_byte byte (lines_of bytes)) ≡ (if ends then byte ∷ [] else byte ∷ take_through 10 bytes) ∷ lines_of (if ends then bytes else drop_through 10 bytes)
first_by byte bytes true rest = refl
first_by byte bytes false rest = rest

-- a text that is not empty is its first line, and the lines of what follows that
first_line : (byte : ℕ) (bytes : List ℕ) → lines_of (byte ∷ bytes) ≡ take_through 10 (byte ∷ bytes) ∷ lines_of (drop_through 10 (byte ∷ bytes))
first_line byte [] = first_by byte [] (byte == 10) refl
first_line byte (next ∷ bytes) = first_by byte (next ∷ bytes) (byte == 10) (ap (with_byte byte) (first_line next bytes))

-- a line that was taken from a text
pub line_taken : (left line later : List ℕ) → line ≡ take_through 10 left → later ≡ drop_through 10 left → 0 < length line → lines_of left ≡ line ∷ lines_of later
line_taken [] line later is drops some =
    let none : 0 < 0 = subst (λ (l : List ℕ). 0 < length l) is some in
    absurd (omega (arith, none))
line_taken (byte ∷ bytes) line later is drops some = first_line byte bytes ∙ ap (λ (l : List ℕ). l ∷ lines_of (drop_through 10 (byte ∷ bytes))) (sym is) ∙ ap (λ (l : List ℕ). line ∷ lines_of l) (sym drops)

-- a blank line has none, so nothing is shown of it
blank_shown : (Is : Shown) (name : List ℕ) (number : ℕ) (line : List ℕ) (before : ℕ) → is_blank line ≡ true → IsLineShown Is name number line before [] 0
blank_shown Is name number line before blank =
    subst (λ (blank : Bool). MatchBool blank (NoneShown [] 0) (Is name number (without_mark (strip_last 10 line)) before [] 0)) (sym blank) (refl, refl)

-- a line that is not blank has a document
pub line_shown : (Is : Shown) (name : List ℕ) (number : ℕ) (line bytes : List ℕ) (before : ℕ) (text : List ℕ) (count : ℕ) → is_blank line ≡ false → bytes ≡ without_mark (strip_last 10 line) → Is name number bytes before text count → IsLineShown Is name number line before text count
line_shown Is name number line bytes before text count some same is =
    subst (λ (blank : Bool). MatchBool blank ((text ≡ []) × (count ≡ 0)) (Is name number (without_mark (strip_last 10 line)) before text count)) (sym some) (subst (λ (own : List ℕ). Is name number own before text count) same is)

-- ---- what may be shown of nothing

-- of a document nothing may be shown, as where it is refused
no_paths : (paths : List JsonPath) (look : Look) (head : ℕ → List ℕ) (bytes : List ℕ) (before : ℕ) → AreAnswersInPart builtin_functions paths look head bytes before [] 0
no_paths paths look head bytes before =
    each_nothing (λ number so_far path. IsAnswerInPart builtin_functions path (look_after look so_far) (nat_lt before so_far) (head number) bytes) before paths (λ number path. inl (refl, refl)) 1

no_all : (array : Bool) (paths : List JsonPath) (look : Look) (head : ℕ → List ℕ) (bytes : List ℕ) (before : ℕ)
    → MatchBool array (IsArrayInPart look.output (AreAnswersInPart builtin_functions paths look head bytes before) [] 0) (AreAnswersInPart builtin_functions paths look head bytes before [] 0)
no_all true paths look head bytes before = inl (refl, refl)
no_all false paths look head bytes before = no_paths paths look head bytes before

pub no_shown : (table : Bool) (paths : List JsonPath) (look : Look) (line : List (List ℕ) → List ℕ) (firsts : List (List ℕ)) (head : ℕ → List ℕ) (bytes : List ℕ) (before : ℕ)
    → MatchBool table (IsRowInPart builtin_functions paths line firsts bytes [] 0) (IsShownInPart builtin_functions paths look head bytes before [] 0)
no_shown true paths look line firsts head bytes before = inl (refl, refl)
no_shown false paths look line firsts head bytes before = no_all (is_array look.output.form) paths look head bytes before

pub no_all_by : (answering : Answering) (name : List ℕ) (number : ℕ) (bytes : List ℕ) (before : ℕ) → all_in_part_by answering name number bytes before [] 0
no_all_by answering name number bytes before = no_all (is_array answering.showing.output.form) (paths_in answering) (look_of answering.showing) (head_by answering.showing.output answering.heads name number) bytes before

pub no_shown_by : (answering : Answering) (name : List ℕ) (number : ℕ) (bytes : List ℕ) (before : ℕ) → shown_in_part_by answering name number bytes before [] 0
no_shown_by answering name number bytes before = no_shown (is_table answering.shown) (paths_in answering) (look_of answering.showing) (row_line answering.shown answering.showing.output.end) (first_cells answering.heads.file answering.heads.line name number) (head_by answering.showing.output answering.heads name number) bytes before

pub no_answer : (answering : Answering) (name : List ℕ) (number : ℕ) (bytes : List ℕ) (before : ℕ) → wanted_in_part_by answering name number bytes before [] 0
no_answer answering name number bytes before = none_wanted answering.showing.most_of_all (shown_in_part_by answering) name number bytes before (no_shown_by answering name number bytes before)

-- nothing is, where there are enough
pub enough_answer : (answering : Answering) (before : ℕ) → has_enough answering.showing.most_of_all before ≡ true → (name : List ℕ) (number : ℕ) (bytes : List ℕ) → wanted_by answering name number bytes before [] 0
enough_answer answering before enough name number bytes = enough_shown answering.showing.most_of_all (shown_by answering) name number bytes before enough

-- of a blank line nothing is
pub blank_sent : {W E : Type 0} {silent : Bool} (contents : W → Option (List ℕ)) (Is IsPart : Shown) (name : List ℕ) (number : ℕ) (line : List ℕ) (streams : Streams W E) → is_blank line ≡ true
    → Answered silent contents (IsLineShown Is name number line streams.total) (IsLineShown IsPart name number line streams.total) streams streams
blank_sent contents Is IsPart name number line streams blank = nothing_shown contents (IsLineShown Is name number line streams.total) (IsLineShown IsPart name number line streams.total) streams
    (blank_shown Is name number line streams.total blank) (blank_shown IsPart name number line streams.total blank)

-- ---- what is known

pub some_known : {P : List ℕ → Type 0} (known : Option (List ℕ)) → ((bytes : List ℕ) → known ≡ Some bytes → P bytes) → IfSome known P
some_known None of = tt
some_known (Some bytes) of = of bytes refl

pub known_at : (P : List ℕ → Type 0) (known : Option (List ℕ)) (bytes : List ℕ) → known ≡ Some bytes → IfSome known P → P bytes
known_at P known bytes is holds = subst (λ (known : Option (List ℕ)). IfSome known P) is holds

-- a reader that has read nothing yet
pub starts_whole : {R : Type 0} (remaining : R → Option (List ℕ)) (reader : BufReader R Global) (input : R) (bytes : List ℕ) → reader_inner reader ≡ input → reader_buffer reader ≡ [] → reader_capacity reader ≡ 8192
    → remaining input ≡ Some bytes → reader_remaining remaining reader ≡ Some bytes
starts_whole remaining reader input bytes inner empty capacity is =
    ap (λ (n : ℕ). if n == 0 then None else prepend_known (reader_buffer reader) (remaining (reader_inner reader))) capacity
    ∙ ap (λ (front : List ℕ). prepend_known front (remaining (reader_inner reader))) empty
    ∙ ap (λ (own : _). prepend_known [] (remaining own)) inner
    ∙ ap (prepend_known []) is

-- ---- lines that were sent

-- of a line, an input or some inputs nothing is shown, where nothing is of their documents
pub no_line : (Is : Shown) (name : List ℕ) (before : ℕ) → ((number : ℕ) (bytes : List ℕ) → Is name number bytes before [] 0) → (number : ℕ) (line : List ℕ) → IsLineShown Is name number line before [] 0
no_line Is name before none number line = by_case (is_blank line) refl
  where
    by_case : (blank : Bool) → is_blank line ≡ blank → IsLineShown Is name number line before [] 0
    by_case true is = blank_shown Is name number line before is
    by_case false is = line_shown Is name number line (without_mark (strip_last 10 line)) before [] 0 is refl (none number (without_mark (strip_last 10 line)))

no_lines : (Is : Shown) (name : List ℕ) (before : ℕ) (lines : List (List ℕ)) → ((number : ℕ) (bytes : List ℕ) → Is name number bytes before [] 0) → (number : ℕ) → AreEach (EachLine Is name) number before lines [] 0
no_lines Is name before lines none = each_nothing (EachLine Is name) before lines (λ number line. no_line Is name before none number line)

pub no_input : (Is : Shown) (lines : Bool) (name bytes : List ℕ) (before : ℕ) → ((number : ℕ) (bytes : List ℕ) → Is name number bytes before [] 0) → IsInputShown Is lines name bytes before [] 0
no_input Is true name bytes before none = no_lines Is name before (lines_of bytes) none 1
no_input Is false name bytes before none = none 1 (without_mark bytes)

-- what may be of documents of an input, wherever they stand
abbrev pub MayBeNone : Shown → List ℕ → Type 0
MayBeNone Is name = (number : ℕ) (bytes : List ℕ) (before : ℕ) → Is name number bytes before [] 0

-- So many lines of a text were sent, and these bytes are left of it.
pub record SentLines {W E : Type 0} (silent : Bool) (contents : W → Option (List ℕ)) (Is IsPart : Shown) (name bytes left : List ℕ) (count : ℕ) (before now : Streams W E) : Type 0 where
  pub done : List (List ℕ)
  pub many : length done ≡ count
  pub whole : lines_of bytes ≡ done ++ lines_of left
  pub sent : Sends silent contents (AreEach (EachLine Is name) 1 before.total done) (AreEach (EachLine IsPart name) 1 before.total done) before now

-- none was yet
pub sent_none : {W E : Type 0} {silent : Bool} (contents : W → Option (List ℕ)) (Is IsPart : Shown) (name bytes : List ℕ) (streams : Streams W E) → string_bytes streams.pending ≡ []
    → SentLines silent contents Is IsPart name bytes bytes 0 streams streams
sent_none contents Is IsPart name bytes streams empty = record {
  done = [];
  many = refl;
  whole = refl;
  sent = (none_answered contents (EachLine Is name) (EachLine IsPart name) 1 streams.total streams, empty);
}

-- one more was
pub sent_further : {W E : Type 0} {silent : Bool} (contents : W → Option (List ℕ)) (Is IsPart : Shown) (name bytes left line later : List ℕ) (count : ℕ) (before old now : Streams W E) → SentLines silent contents Is IsPart name bytes left count before old
    → lines_of left ≡ line ∷ lines_of later → Sends silent contents (IsLineShown Is name (1 + count) line old.total) (IsLineShown IsPart name (1 + count) line old.total) old now → SentLines silent contents Is IsPart name bytes later (count + 1) before now
sent_further {silent = silent} contents Is IsPart name bytes left line later count before old now lines taken second = record {
  done = lines.done ++ line ∷ [];
  many = length_more lines.done line ∙ ap (λ n. n + 1) lines.many;
  whole = lines.whole ∙ ap (λ (l : List (List ℕ)). lines.done ++ l) taken ∙ sym (append_assoc lines.done (line ∷ []) (lines_of later));
  sent = (
    answered_further contents (EachLine Is name) (EachLine IsPart name) 1 lines.done line before old now lines.sent.0
        (subst (λ n. Answered silent contents (IsLineShown Is name n line old.total) (IsLineShown IsPart name n line old.total) old now) (ap (λ n. 1 + n) (sym lines.many)) second.0),
    second.1,
  );
}
  where
    length_more : (lines : List (List ℕ)) (line : List ℕ) → length (lines ++ line ∷ []) ≡ length lines + 1
    length_more lines line = grind (arith, length-append)

-- of one more a beginning is out
pub sent_begun : {W E : Type 0} {silent : Bool} (contents : W → Option (List ℕ)) (Is IsPart : Shown) (name bytes left line later : List ℕ) (count : ℕ) (before old now : Streams W E) → MayBeNone IsPart name
    → SentLines silent contents Is IsPart name bytes left count before old → lines_of left ≡ line ∷ lines_of later → Begins contents (IsLineShown IsPart name (1 + count) line old.total) old now
    → Begins contents (AreEach (EachLine IsPart name) 1 before.total (lines_of bytes)) before now
sent_begun contents Is IsPart name bytes left line later count before old now none lines taken begun =
    subst (λ (all : List (List ℕ)). Begins contents (AreEach (EachLine IsPart name) 1 before.total all) before now) (sym (lines.whole ∙ ap (λ (l : List (List ℕ)). lines.done ++ l) taken))
    (begun_further contents (EachLine Is name) (EachLine IsPart name) 1 lines.done line (lines_of later) before old now (λ n b. no_lines IsPart name b (lines_of later) (λ number bytes. none number bytes b) n) lines.sent.0
    (subst (λ n. Begins contents (IsLineShown IsPart name n line old.total) old now) (ap (λ n. 1 + n) (sym lines.many)) begun))

-- the run ended in one more
pub lines_until : {W E : Type 0} {silent : Bool} (contents : W → Option (List ℕ)) (Is IsPart : Shown) (next : Next) (name bytes left line later : List ℕ) (count : ℕ) (before old now : Streams W E)
    → (is_whole next ≡ true → (number : ℕ) (bytes : List ℕ) → Is name number bytes now.total [] 0) → MayBeNone IsPart name
    → SentLines silent contents Is IsPart name bytes left count before old → lines_of left ≡ line ∷ lines_of later
    → Sends silent contents (IfWhole next (IsLineShown Is name (1 + count) line old.total)) (IsLineShown IsPart name (1 + count) line old.total) old now
    → Sends silent contents (IfWhole next (AreEach (EachLine Is name) 1 before.total (lines_of bytes))) (AreEach (EachLine IsPart name) 1 before.total (lines_of bytes)) before now
lines_until {silent = silent} contents Is IsPart next name bytes left line later count before old now enough none lines taken second = (
  subst (λ (all : List (List ℕ)). Answered silent contents (IfWhole next (AreEach (EachLine Is name) 1 before.total all)) (AreEach (EachLine IsPart name) 1 before.total all) before now) (sym (lines.whole ∙ ap (λ (l : List (List ℕ)). lines.done ++ l) taken))
      (answered_until contents (EachLine Is name) (EachLine IsPart name) next 1 lines.done line (lines_of later) before old now
      (λ whole. no_lines Is name now.total (lines_of later) (enough whole)) (λ n b. no_lines IsPart name b (lines_of later) (λ number bytes. none number bytes b) n) lines.sent.0
      (subst (λ n. Answered silent contents (IfWhole next (IsLineShown Is name n line old.total)) (IsLineShown IsPart name n line old.total) old now) (ap (λ n. 1 + n) (sym lines.many)) second.0)),
  second.1,
)

-- of those that are left nothing is shown
sent_part : {W E : Type 0} {silent : Bool} (contents : W → Option (List ℕ)) (Is IsPart : Shown) (name bytes left : List ℕ) (count : ℕ) (before now : Streams W E) → MayBeNone IsPart name
    → (lines : SentLines silent contents Is IsPart name bytes left count before now) → Answered silent contents (AreEach (EachLine Is name) 1 before.total lines.done) (AreEach (EachLine IsPart name) 1 before.total (lines_of bytes)) before now
sent_part contents Is IsPart name bytes left count before now none lines =
    answered_as contents (AreEach (EachLine Is name) 1 before.total lines.done) (AreEach (EachLine IsPart name) 1 before.total lines.done) (AreEach (EachLine Is name) 1 before.total lines.done) (AreEach (EachLine IsPart name) 1 before.total (lines_of bytes)) before now (λ text count is. is)
    (λ text many part. subst (λ (all : List (List ℕ)). AreEach (EachLine IsPart name) 1 before.total all text many) (sym lines.whole)
    (each_rest (EachLine IsPart name) 1 before.total lines.done (lines_of left) text many (no_lines IsPart name (before.total + many) (lines_of left) (λ number bytes. none number bytes (before.total + many))) part)) lines.sent.0

-- of so many lines, and nothing after them, a beginning is out
pub lines_begun : {W E : Type 0} {silent : Bool} (contents : W → Option (List ℕ)) (Is IsPart : Shown) (name bytes left : List ℕ) (count : ℕ) (before old now : Streams W E) → MayBeNone IsPart name
    → SentLines silent contents Is IsPart name bytes left count before old → now.out ≡ old.out → Begins contents (AreEach (EachLine IsPart name) 1 before.total (lines_of bytes)) before now
lines_begun contents Is IsPart name bytes left count before old now none lines same =
    let all = AreEach (EachLine IsPart name) 1 before.total (lines_of bytes) in
    begun_still contents all before old now (answered_begun contents (AreEach (EachLine Is name) 1 before.total lines.done) all before old (sent_part contents Is IsPart name bytes left count before old none lines)) same

-- the rest was refused
pub lines_refused : {W E : Type 0} {silent : Bool} (contents : W → Option (List ℕ)) (Is IsPart : Shown) (name bytes left : List ℕ) (count : ℕ) (before old now : Streams W E) → MayBeNone IsPart name
    → SentLines silent contents Is IsPart name bytes left count before old → OnlyRefuses old now → now.outcome.refused ≡ true
    → Sends silent contents (AreEach (EachLine Is name) 1 before.total (lines_of bytes)) (AreEach (EachLine IsPart name) 1 before.total (lines_of bytes)) before now
lines_refused {W} {E} contents Is IsPart name bytes left count before old now none lines kept refused = (
  answered_refused contents (AreEach (EachLine Is name) 1 before.total lines.done) (AreEach (EachLine IsPart name) 1 before.total (lines_of bytes)) (AreEach (EachLine Is name) 1 before.total (lines_of bytes)) before old now
      (sent_part contents Is IsPart name bytes left count before old none lines) kept refused,
  ap (λ (s : Streams W E). string_bytes s.pending) kept ∙ lines.sent.1,
)

-- all were, where no byte is left
pub sent_all : {W E : Type 0} {silent : Bool} (contents : W → Option (List ℕ)) (Is IsPart : Shown) (name bytes left : List ℕ) (count : ℕ) (before old now : Streams W E) → SentLines silent contents Is IsPart name bytes left count before old → left ≡ [] → OnlyNotes old now → (old.outcome.refused ≡ false → now.err ≡ old.err)
    → Sends silent contents (AreEach (EachLine Is name) 1 before.total (lines_of bytes)) (AreEach (EachLine IsPart name) 1 before.total (lines_of bytes)) before now
sent_all {W} {E} {silent = silent} contents Is IsPart name bytes left count before old now lines none kept quiet =
    let all : lines.done ≡ lines_of bytes = sym (lines.whole ∙ ap (λ (l : List ℕ). lines.done ++ lines_of l) none ∙ append-nil lines.done) in (
      subst (λ (some : List (List ℕ)). Answered silent contents (AreEach (EachLine Is name) 1 before.total some) (AreEach (EachLine IsPart name) 1 before.total some) before now) all
          (answered_noted contents (AreEach (EachLine Is name) 1 before.total lines.done) (AreEach (EachLine IsPart name) 1 before.total lines.done) before old now lines.sent.0 kept (λ silent right. quiet (sym (ap (λ (s : Streams W E). s.outcome.refused) kept) ∙ right))),
      ap (λ (s : Streams W E). string_bytes s.pending) kept ∙ lines.sent.1,
    )

-- ---- inputs that were sent

pub same_item : {A : Type 0} (items : List A) (index : ℕ) (one other : A) → index < length items → get_or items index one ≡ get_or items index other
same_item [] index one other within = absurd (omega (arith, within))
same_item (item ∷ items) zero one other within = refl
same_item (item ∷ items) (suc index) one other within = same_item items index one other (omega (arith, within))

-- an input of a list, of which the bytes are known
pub known_input : (bytes_of bytes_now : List ℕ → Option (List ℕ)) (names : List (Bor (List ℕ))) (index : ℕ) (none : Bor (List ℕ)) → index < length names → ((name : List ℕ) → bytes_now name ≡ bytes_of name)
    → AreKnown bytes_of (map (λ (name : Bor (List ℕ)). name.now) names) → (bytes : List ℕ) × (bytes_of (get_or names index none).now ≡ Some bytes) × (bytes_now (get_or names index none).now ≡ Some bytes)
known_input bytes_of bytes_now names index none within same known =
    let name = (get_or names index none).now in
    let here = known index (subst (λ n. index < n) (sym (length-map names (λ (name : Bor (List ℕ)). name.now))) within) in
    let is : bytes_of name ≡ Some here.0 = ap bytes_of (sym (get_or-map (λ (name : Bor (List ℕ)). name.now) names index none [] within)) ∙ here.1 in
    (here.0, is, same name ∙ is)

-- of inputs that are left nothing is shown
pub no_named : (Is : Shown) (lines : Bool) (bytes_of : List ℕ → Option (List ℕ)) (names : List (List ℕ)) (before : ℕ) → ((name : List ℕ) (number : ℕ) (bytes : List ℕ) → Is name number bytes before [] 0) → AreKnown bytes_of names
    → (number : ℕ) → AreEach (EachNamed Is lines bytes_of) number before names [] 0
no_named Is lines bytes_of [] before none known number = (refl, refl)
no_named Is lines bytes_of (name ∷ names) before none known number =
    let here = known 0 (omega arith) in (
      [],
      [],
      0,
      0,
      (here.0, here.1, no_input Is lines name here.0 before (none name)),
      subst (λ b. AreEach (EachNamed Is lines bytes_of) (number + 1) b names [] 0) (plus_zero before) (no_named Is lines bytes_of names before none (λ i within. known (suc i) (omega (arith, within))) (number + 1)),
      refl,
      refl,
    )

known_rest : (bytes_of : List ℕ → Option (List ℕ)) (first rest : List (List ℕ)) → AreKnown bytes_of (first ++ rest) → AreKnown bytes_of rest
known_rest bytes_of [] rest known = known
known_rest bytes_of (name ∷ names) rest known = known_rest bytes_of names rest (λ i within. known (suc i) (omega (arith, within)))

-- so are those after one
known_after : (bytes_of : List ℕ → Option (List ℕ)) (names : List (Bor (List ℕ))) (index : ℕ) (name : Bor (List ℕ)) → index < length names → name ≡ get_or names index name → AreKnown bytes_of (map (λ (name : Bor (List ℕ)). name.now) names)
    → AreKnown bytes_of (map (λ (name : Bor (List ℕ)). name.now) (drop (suc index) names))
known_after bytes_of names index name within is known =
    known_rest bytes_of (name.now ∷ []) _ (known_rest bytes_of (map (λ (name : Bor (List ℕ)). name.now) (take index names)) _ (subst (AreKnown bytes_of) (split_mapped (λ (name : Bor (List ℕ)). name.now) names index name within is) known))

-- of another input a beginning is out
pub input_begun : {W E : Type 0} {silent : Bool} (contents : W → Option (List ℕ)) (Is IsPart : Shown) (lines : Bool) (bytes_of bytes_now : List ℕ → Option (List ℕ)) (names : List (Bor (List ℕ))) (index : ℕ) (none : Bor (List ℕ)) (before old now : Streams W E)
    → ((name : List ℕ) → MayBeNone IsPart name)
    → index < length names → ((name : List ℕ) → bytes_now name ≡ bytes_of name) → AreKnown bytes_of (map (λ (name : Bor (List ℕ)). name.now) names)
    → IfSome (bytes_now (get_or names index none).now) (λ bytes. Begins contents (IsInputShown IsPart lines (get_or names index none).now bytes old.total) old now)
    → Answered silent contents (AreInputsShown Is lines bytes_of (map (λ (name : Bor (List ℕ)). name.now) (take index names)) before.total) (AreInputsShown IsPart lines bytes_of (map (λ (name : Bor (List ℕ)). name.now) (take index names)) before.total) before old
    → Begins contents (AreInputsShown IsPart lines bytes_of (map (λ (name : Bor (List ℕ)). name.now) names) before.total) before now
input_begun contents Is IsPart lines bytes_of bytes_now names index none before old now nothing within same known begun first =
    let name = get_or names index none in
    let is = same_item names index none name within in
    let here = known_input bytes_of bytes_now names index none within same known in
    let own = begun_as contents (IsInputShown IsPart lines name.now here.0 old.total) (IsNamedShown IsPart lines bytes_of name.now old.total) old now (λ text count shown. (here.0, here.1, shown))
    (known_at (λ (bytes : List ℕ). Begins contents (IsInputShown IsPart lines name.now bytes old.total) old now) (bytes_now name.now) here.0 here.2 begun) in
    mapped_begun contents (EachNamed Is lines bytes_of) (EachNamed IsPart lines bytes_of) (λ (name : Bor (List ℕ)). name.now)
    names index name before old now (λ n b. no_named IsPart lines bytes_of _ b (λ name number bytes. nothing name number bytes b) (known_after bytes_of names index name within is known) n) within is first own

-- another input was sent
pub input_sent : {W E : Type 0} {silent : Bool} (contents : W → Option (List ℕ)) (form : Form) (most : Option ℕ) (Is IsPart : Shown) (lines : Bool) (bytes_of bytes_now : List ℕ → Option (List ℕ)) (names : List (Bor (List ℕ))) (index : ℕ) (none : Bor (List ℕ)) (next : Next) (before old now : Streams W E)
    → is_whole next ≡ true → index < length names → ((name : List ℕ) → bytes_now name ≡ bytes_of name) → AreKnown bytes_of (map (λ (name : Bor (List ℕ)). name.now) names)
    → IfSome (bytes_now (get_or names index none).now) (λ bytes. SendsUntil silent contents form most next (IsInputShown Is lines (get_or names index none).now bytes old.total) (IsInputShown IsPart lines (get_or names index none).now bytes old.total) old now)
    → Answered silent contents (AreInputsShown Is lines bytes_of (map (λ (name : Bor (List ℕ)). name.now) (take index names)) before.total) (AreInputsShown IsPart lines bytes_of (map (λ (name : Bor (List ℕ)). name.now) (take index names)) before.total) before old
    → Ends form most next now × Sends silent contents (AreInputsShown Is lines bytes_of (map (λ (name : Bor (List ℕ)). name.now) (take (index + 1) names)) before.total) (AreInputsShown IsPart lines bytes_of (map (λ (name : Bor (List ℕ)). name.now) (take (index + 1) names)) before.total) before now
input_sent {silent = silent} contents form most Is IsPart lines bytes_of bytes_now names index none next before old now whole within same known shown first =
    let name = (get_or names index none).now in
    let here = known_input bytes_of bytes_now names index none within same known in
    let sent = known_at (λ (bytes : List ℕ). SendsUntil silent contents form most next (IsInputShown Is lines name bytes old.total) (IsInputShown IsPart lines name bytes old.total) old now) (bytes_now name) here.0 here.2 shown in
    let own = answered_as contents (IfWhole next (IsInputShown Is lines name here.0 old.total)) (IsInputShown IsPart lines name here.0 old.total) (IsNamedShown Is lines bytes_of name old.total) (IsNamedShown IsPart lines bytes_of name old.total) old now
    (λ text count shown. (here.0, here.1, shown whole)) (λ text count shown. (here.0, here.1, shown)) sent.1.0 in (
      sent.0,
      (
        mapped_further contents (EachNamed Is lines bytes_of) (EachNamed IsPart lines bytes_of) (λ (name : Bor (List ℕ)). name.now)
            names index (get_or names index none) before old now within (same_item names index none (get_or names index none) within) first own,
        sent.1.1,
      ),
    )

-- the run ended in another input
pub input_until : {W E : Type 0} {silent : Bool} (contents : W → Option (List ℕ)) (form : Form) (most : Option ℕ) (Is IsPart : Shown) (lines : Bool) (bytes_of bytes_now : List ℕ → Option (List ℕ)) (names : List (Bor (List ℕ))) (index : ℕ) (none : Bor (List ℕ)) (next : Next) (before old now : Streams W E)
    → (is_whole next ≡ true → has_enough most now.total ≡ true → (name : List ℕ) (number : ℕ) (bytes : List ℕ) → Is name number bytes now.total [] 0) → ((name : List ℕ) → MayBeNone IsPart name) → (next ≡ More → ⊥)
    → index < length names → ((name : List ℕ) → bytes_now name ≡ bytes_of name) → AreKnown bytes_of (map (λ (name : Bor (List ℕ)). name.now) names)
    → IfSome (bytes_now (get_or names index none).now) (λ bytes. SendsUntil silent contents form most next (IsInputShown Is lines (get_or names index none).now bytes old.total) (IsInputShown IsPart lines (get_or names index none).now bytes old.total) old now)
    → Answered silent contents (AreInputsShown Is lines bytes_of (map (λ (name : Bor (List ℕ)). name.now) (take index names)) before.total) (AreInputsShown IsPart lines bytes_of (map (λ (name : Bor (List ℕ)). name.now) (take index names)) before.total) before old
    → SendsUntil silent contents form most next (AreInputsShown Is lines bytes_of (map (λ (name : Bor (List ℕ)). name.now) names) before.total) (AreInputsShown IsPart lines bytes_of (map (λ (name : Bor (List ℕ)). name.now) names) before.total) before now
input_until {silent = silent} contents form most Is IsPart lines bytes_of bytes_now names index none next before old now enough nothing ended within same known shown first =
    let name = get_or names index none in
    let is = same_item names index none name within in
    let here = known_input bytes_of bytes_now names index none within same known in
    let sent = known_at (λ (bytes : List ℕ). SendsUntil silent contents form most next (IsInputShown Is lines name.now bytes old.total) (IsInputShown IsPart lines name.now bytes old.total) old now) (bytes_now name.now) here.0 here.2 shown in
    let own = answered_as contents (IfWhole next (IsInputShown Is lines name.now here.0 old.total)) (IsInputShown IsPart lines name.now here.0 old.total) (IfWhole next (IsNamedShown Is lines bytes_of name.now old.total)) (IsNamedShown IsPart lines bytes_of name.now old.total) old now
    (λ text count shown whole. (here.0, here.1, shown whole)) (λ text count shown. (here.0, here.1, shown)) sent.1.0 in
    let left = known_after bytes_of names index name within is known in (
      sent.0,
      (
        mapped_until contents (EachNamed Is lines bytes_of) (EachNamed IsPart lines bytes_of) next (λ (name : Bor (List ℕ)). name.now) names index name before old now
            (λ whole. no_named Is lines bytes_of _ now.total (enough whole (enough_at form most next now sent.0 ended whole)) left)
            (λ n b. no_named IsPart lines bytes_of _ b (λ name number bytes. nothing name number bytes b) left n) within is first own,
        sent.1.1,
      ),
    )

-- ---- what is sent after a first row, and before a sum

-- the row before all shows no node
pub opened_at : {W E : Type 0} {silent : Bool} (contents : W → Option (List ℕ)) (first : List ℕ) (before opened : Streams W E) → before.total ≡ 0 → Sends silent contents (IsAside first) (IsAside first) before opened → opened.total ≡ 0
opened_at contents first before opened fresh head = none opened.total before.total head.0.count head.0.total fresh head.0.part.1
  where
    none : (now start more : ℕ) → now ≡ start + more → start ≡ 0 → more ≡ 0 → now ≡ 0
    none now start more is fresh nothing = grind arith

-- so many nodes are shown after it
closed_at : {W E : Type 0} {silent : Bool} (contents : W → Option (List ℕ)) (Is IsPart : List ℕ → ℕ → Type 0) (opened closed : Streams W E) → opened.total ≡ 0 → (answered : Answered silent contents Is IsPart opened closed) → closed.total ≡ answered.count
closed_at contents Is IsPart opened closed fresh answered = counted closed.total opened.total answered.count answered.total fresh
  where
    counted : (now start more : ℕ) → now ≡ start + more → start ≡ 0 → now ≡ more
    counted now start more is fresh = grind arith

-- a text that shows nodes between two that show none
between : (first : List ℕ) (last : ℕ → List ℕ) (Is : List ℕ → ℕ → Type 0) (head own sum : List ℕ) (none count nothing total : ℕ) → IsAside first head none → Is own count → IsAside (last total) sum nothing → total ≡ count → IsBetween first last Is ((head ++ own) ++ sum) ((none + count) + nothing)
between first last Is head own sum none count nothing total aside is sum_is counted =
    let many = count_of none count nothing aside.1 sum_is.1 in (
      own,
      subst (Is own) (sym many) is,
      ap (λ (t : List ℕ). (t ++ own) ++ sum) aside.0 ∙ ap (λ (t : List ℕ). (first ++ own) ++ t) (sum_is.0 ∙ ap last (counted ∙ sym many)) ∙ append_assoc first own (last ((none + count) + nothing)),
    )
  where
    count_of : (none count nothing : ℕ) → none ≡ 0 → nothing ≡ 0 → (none + count) + nothing ≡ count
    count_of none count nothing is also = grind arith

pub ends_still : {W E : Type 0} (form : Form) (most : Option ℕ) (next : Next) (closed now : Streams W E) → now.total ≡ closed.total → now.outcome.selected ≡ closed.outcome.selected → Ends form most next closed → Ends form most next now
ends_still form most More closed now total selected ends = ap (has_enough most) total ∙ ends
ends_still form most Enough closed now total selected ends = ap (has_enough most) total ∙ ends
ends_still form most Found closed now total selected ends = (ends.0, selected ∙ ends.1)

-- the first row was sent, then what is shown of inputs, and then the sum
pub sends_between : {W E : Type 0} {silent : Bool} (contents : W → Option (List ℕ)) (form : Form) (most : Option ℕ) (first : List ℕ) (last : ℕ → List ℕ) (Is IsPart : ℕ → List ℕ → ℕ → Type 0) (next : Next) (before opened closed now : Streams W E) → before.total ≡ 0
    → Sends silent contents (IsAside first) (IsAside first) before opened → SendsUntil silent contents form most next (Is opened.total) (IsPart opened.total) opened closed → Sends silent contents (IsAside (last closed.total)) (IsAside (last closed.total)) closed now
    → SendsUntil silent contents form most next (IsBetween first last (Is 0)) (IsBetween first last (IsPart 0)) before now
sends_between {silent = silent} contents form most first last Is IsPart next before opened closed now fresh head sent sum =
    let zero = opened_at contents first before opened fresh head in
    let own = sent.1.0 in
    let counted = closed_at contents (IfWhole next (Is opened.total)) (IsPart opened.total) opened closed zero own in (
      ends_still form most next closed now (sum.0.total ∙ ap (λ n. closed.total + n) sum.0.part.1 ∙ sym (plus_zero closed.total)) (sum.0.selected ∙ ap (λ n. closed.outcome.selected || nat_lt 0 n) sum.0.part.1 ∙ sym (or_false closed.outcome.selected)) sent.0,
      (
        answered_three contents (IsAside first) (IsAside first) (IfWhole next (Is opened.total)) (IsPart opened.total) (IsAside (last closed.total)) (IsAside (last closed.total)) (IfWhole next (IsBetween first last (Is 0))) (IsBetween first last (IsPart 0)) before opened closed now head.0 own sum.0
            (λ _ is _ whole. between first last (Is 0) head.0.text own.text sum.0.text head.0.count own.count sum.0.count closed.total head.0.part (subst (λ b. Is b own.text own.count) zero (is whole)) sum.0.part counted)
            (between first last (IsPart 0) head.0.text own.text sum.0.text head.0.count own.count sum.0.count closed.total head.0.part (subst (λ b. IsPart b own.text own.count) zero own.part) sum.0.part counted),
        sum.1,
      ),
    )

-- ---- of what a beginning is out then

begun_with : (out later : Option (List ℕ)) (waiting text more : List ℕ) → AppendsBeginning out later (waiting ++ text) → AppendsBeginning out later (waiting ++ (text ++ more))
begun_with out later waiting text more begun = (begun.0, begun.1 ++ more, sym (append_assoc waiting text more) ∙ ap (λ (t : List ℕ). t ++ more) begun.2 ∙ append_assoc begun.0 begun.1 more, begun.3)

-- of the row alone
pub header_begun : {W E : Type 0} (contents : W → Option (List ℕ)) (first : List ℕ) (last : ℕ → List ℕ) (IsPart : List ℕ → ℕ → Type 0) (before now : Streams W E) → IsPart [] 0 → Begins contents (IsAside first) before now → Begins contents (IsBetween first last IsPart) before now
header_begun contents first last IsPart before now none begun = (
  first ++ last 0,
  0,
  ([], none, refl),
  subst (λ (t : List ℕ). AppendsBeginning (contents before.out) (contents now.out) (string_bytes before.pending ++ (t ++ last 0))) begun.2.0 (begun_with (contents before.out) (contents now.out) (string_bytes before.pending) begun.0 (last 0) begun.3),
)

-- of what is shown of inputs after it
pub inputs_begun : {W E : Type 0} {silent : Bool} (contents : W → Option (List ℕ)) (first : List ℕ) (last : ℕ → List ℕ) (IsPart : ℕ → List ℕ → ℕ → Type 0) (before opened now : Streams W E) → before.total ≡ 0
    → Sends silent contents (IsAside first) (IsAside first) before opened → Begins contents (IsPart opened.total) opened now → Begins contents (IsBetween first last (IsPart 0)) before now
inputs_begun contents first last IsPart before opened now fresh head begun = (
  first ++ (begun.0 ++ last begun.1),
  begun.1,
  (begun.0, subst (λ b. IsPart b begun.0 begun.1) (opened_at contents first before opened fresh head) begun.2, refl),
  subst (λ (t : List ℕ). AppendsBeginning (contents before.out) (contents now.out) (string_bytes before.pending ++ t)) (ap (λ (t : List ℕ). (t ++ begun.0) ++ last begun.1) head.0.part.0 ∙ append_assoc first begun.0 (last begun.1))
      (begun_with (contents before.out) (contents now.out) (string_bytes before.pending) (head.0.text ++ begun.0) (last begun.1)
      (begun_after (contents before.out) (contents opened.out) (contents now.out) (string_bytes before.pending) (string_bytes opened.pending) head.0.text begun.0 head.0.writes begun.3)),
)

-- of the sum after these
pub sum_begun : {W E : Type 0} {silent : Bool} (contents : W → Option (List ℕ)) (form : Form) (most : Option ℕ) (first : List ℕ) (last : ℕ → List ℕ) (Is IsPart : ℕ → List ℕ → ℕ → Type 0) (next : Next) (before opened closed now : Streams W E) → before.total ≡ 0
    → Sends silent contents (IsAside first) (IsAside first) before opened → SendsUntil silent contents form most next (Is opened.total) (IsPart opened.total) opened closed → Begins contents (IsAside (last closed.total)) closed now
    → Begins contents (IsBetween first last (IsPart 0)) before now
sum_begun contents form most first last Is IsPart next before opened closed now fresh head sent begun =
    let zero = opened_at contents first before opened fresh head in
    let own = sent.1.0 in
    let both = adds_both (contents before.out) (contents opened.out) (contents closed.out) (string_bytes before.pending) (string_bytes opened.pending) (string_bytes closed.pending) head.0.text own.text head.0.writes own.writes in (
      (head.0.text ++ own.text) ++ begun.0,
      (head.0.count + own.count) + begun.1,
      between first last (IsPart 0) head.0.text own.text begun.0 head.0.count own.count begun.1 closed.total head.0.part (subst (λ b. IsPart b own.text own.count) zero own.part) begun.2
          (closed_at contents (IfWhole next (Is opened.total)) (IsPart opened.total) opened closed zero own),
      begun_after (contents before.out) (contents closed.out) (contents now.out) (string_bytes before.pending) (string_bytes closed.pending) (head.0.text ++ own.text) begun.0 both begun.3,
    )
