-- What was written of a document is what its paths show.
use Rattle.jpq_program.proofs.Words.{◌≡◌, ◌∙◌, ◌||◌, ℕ, Bool, true, false, List, Option, None, length, nat_lt, refl, sym, ap, subst, inl, inr, arith, common_steps, nat_tests, string_bytes, Located, Data, JsonPath, Selects, builtin_functions, path_tree, with_rule_of, AreLines, AreShown, ArePieces, Look, Form, Count, Nothing, chosen, once, Adds, Answered, FilledNodes, KeepsRest, IsAnswer, IsAnswerInPart, IsAnswerOn, IsAsked, AnswersPath, AppendsBeginning, AreSelected, Begins, BeginsFirst, IfSome, OnlyRefuses, Some, TookFirst, drop, map-append, take-append-drop, take-append-le, true≢false, IsCountIn, AreEach, Counts, OnlyNotes, OnlyWrites, Output, Writes, IfErr, IfOk, Ok, Err, OnOk, Result, Outcome, ShowsAs, Streams, String, Global, Written, has_counts, has_nodes, is_after, has_nodes, look_of, with_most, MatchBool, [], ◌∷◌, ◌++◌, ◌+◌, suc, append-nil, append_assoc, get_or, length-map, length-take-le, map, take, take_all, ◌<◌, ◌≤◌, IfWhole, IsAside, Next, Sends, is_whole}
use Rattle.jpq_program.proofs.Nodes.{adds_begun, adds_both, adds_nothing, appends_nothing, begun_after, further_mapped, none_begun, plus_zero, split_mapped, took_few, zero_plus}

-- nodes are shown each, and others by what their form shows, unless that is summed up
each_in_look : (look : Look) (later : Bool) (head : List ℕ) (nodes : List Located) (text : List ℕ) → has_nodes look.output.form ≡ true → ArePieces look later head (chosen look.output nodes) text → AreShown look later head nodes text
each_in_look look later head nodes text has are = subst (λ (has : Bool). MatchBool has (ArePieces look later head (chosen look.output nodes) text) (MatchBool look.summed (text ≡ []) (AreLines look.output head nodes text))) (sym has) are

by_form : (look : Look) (later : Bool) (head : List ℕ) (nodes : List Located) (text : List ℕ) → has_counts look.output.form ≡ true → MatchBool look.summed (text ≡ []) (AreLines look.output head nodes text) → AreShown look later head nodes text
by_form look later head nodes text counts are = subst (λ (has : Bool). MatchBool has (ArePieces look later head (chosen look.output nodes) text) (MatchBool look.summed (text ≡ []) (AreLines look.output head nodes text))) (sym (no_nodes look.output.form counts)) are
  where
    no_nodes : (form : Form) → has_counts form ≡ true → has_nodes form ≡ false
    no_nodes Count counts = refl
    no_nodes Nothing counts = refl
    no_nodes _ counts = absurd cc

pub or_false : (b : Bool) → b ≡ (b || false)
or_false b = grind (arith, nat_tests, common_steps)

-- a node is shown by one of two counts, or by their sum
pub or_counts : (b : Bool) (m n : ℕ) → ((b || nat_lt 0 m) || nat_lt 0 n) ≡ (b || nat_lt 0 (m + n))
or_counts b m n = grind (arith, nat_tests, common_steps)

pub plus_assoc : (l m n : ℕ) → (l + m) + n ≡ l + (m + n)
plus_assoc l m n = grind arith

-- nodes that are shown are counted
node_count : (form : Form) (ns : List Located) (count : ℕ) → has_nodes form ≡ true → count ≡ length ns → IsCountIn form ns count
node_count Nothing ns count has is = absurd cc
node_count _ ns count has is = is

-- where nothing is refused after it, nothing was before
pub was_right : {W E : Type 0} (after : Written W E) (kept : Streams W E) (before : Written W E) → KeepsRest before after
    → kept ≡ record after.streams.now {
      outcome = record after.streams.now.outcome { selected = after.streams.now.outcome.selected || nat_lt 0 after.count };
      total = after.streams.now.total + after.count;
    }
    → kept.outcome.refused ≡ false → before.streams.now.outcome.refused ≡ false
was_right {W} {E} after kept before rest is refused = sym (ap (λ (o : Outcome). o.refused) rest.outcome) ∙ sym (ap (λ (s : Streams W E). s.outcome.refused) is) ∙ refused

-- what a path shows of the value that is asked, it shows of the document
pub shown_of_asked : (look : Look) (bytes : List ℕ) (value asked : Data) (path : JsonPath) (most : Option ℕ) (later : Bool) (head text : List ℕ) (count : ℕ) → ShowsAs look bytes value path → IsAsked bytes value asked
    → IsAnswer builtin_functions path (with_most look most) later head asked text count → IsAnswerOn builtin_functions path (with_most look most) later head bytes text count
shown_of_asked look bytes value asked path most later head text count shows (inl same) is = shows builtin_functions most later head text count (subst (λ (d : Data). IsAnswer builtin_functions path (with_most look most) later head d text count) same is)
shown_of_asked look bytes value asked path most later head text count shows (inr reads) is = (asked, reads, is)

-- where none of the path was written before, its first is later where an earlier one has a node
from_none : {W E : Type 0} (before : Written W E) (look : Look) (head : List ℕ) (nodes : List Located) (text : List ℕ) → before.count ≡ 0 → ArePieces look (is_after before) head nodes text → ArePieces look before.is_later head nodes text
from_none before look head nodes text none are = subst (λ (later : Bool). ArePieces look later head nodes text) (ap (λ n. before.is_later || nat_lt 0 n) none ∙ still before.is_later) are
  where
    still : (b : Bool) → (b || nat_lt 0 0) ≡ b
    still b = grind (arith, nat_tests, common_steps)

-- nodes are shown alike, however many are wanted
pieces_of_most : (look : Look) (most : Option ℕ) (later : Bool) (head : List ℕ) (ns : List Located) (text : List ℕ) → ArePieces look later head ns text → ArePieces (with_most look most) later head ns text
pieces_of_most look most later head [] text are = are
pieces_of_most look most later head (n ∷ ns) text are = (are.0, are.1, are.2, pieces_of_most look most true head ns are.1 are.3, are.4)

-- a path was answered: the nodes of its result were written
pub path_answered : {W E : Type 0} {silent : Bool} (contents : W → Option (List ℕ)) (path : JsonPath) (bytes : List ℕ) (value asked : Data) (before after : Written W E) (kept : Streams W E) (nodes : List Located)
    → before.count ≡ 0 → after.stop ≡ None → ShowsAs (look_of before.showing.now) bytes value path → IsAsked bytes value asked
    → Selects (with_rule_of path builtin_functions) (path_tree path) asked nodes → FilledNodes contents before (once before.showing.now.output.unique nodes) after
    → has_nodes before.showing.now.output.form ≡ true
    → kept ≡ record after.streams.now {
      outcome = record after.streams.now.outcome { selected = after.streams.now.outcome.selected || nat_lt 0 after.count };
      total = after.streams.now.total + after.count;
    }
    → AnswersPath silent contents path (with_most (look_of before.showing.now) before.limit) before.is_later before.head.now bytes before.streams.now kept
path_answered {W} {E} contents path bytes value asked before after kept nodes none stopped shows of selects filled has is =
    let look = look_of before.showing.now in
    let up = with_most look before.limit in
    let shown = chosen up.output nodes in
    let lines = filled.written none stopped has in
    let each : ArePieces up before.is_later before.head.now shown lines.0 = pieces_of_most look before.limit before.is_later before.head.now shown lines.0 (from_none before look before.head.now shown lines.0 none lines.1) in
    let answer : IsAnswerOn builtin_functions path up before.is_later before.head.now bytes lines.0 after.count = shown_of_asked look bytes value asked path before.limit before.is_later before.head.now lines.0 after.count shows of
    (nodes, selects, each_in_look up before.is_later before.head.now nodes lines.0 has each, node_count up.output.form shown after.count has (filled.count none stopped)) in record {
      text = lines.0;
      count = after.count;
      whole = λ refused. (was_right after kept before filled.rest is refused, answer);
      part = inr (inl answer);
      writes = subst (λ out. Adds (contents before.streams.now.out) (string_bytes before.streams.now.pending) (contents out) (string_bytes kept.pending) lines.0) (sym (ap (λ (s : Streams W E). s.out) is))
          (subst (λ pending. Adds (contents before.streams.now.out) (string_bytes before.streams.now.pending) (contents after.streams.now.out) (string_bytes pending) lines.0) (sym (ap (λ (s : Streams W E). s.pending) is)) lines.2);
      selected = ap (λ (s : Streams W E). s.outcome.selected) is ∙ ap (λ (o : Outcome). o.selected || nat_lt 0 after.count) filled.rest.outcome;
      total = ap (λ (s : Streams W E). s.total) is ∙ ap (λ n. n + after.count) filled.rest.total;
      told = λ silent right. ap (λ (s : Streams W E). s.err) is ∙ filled.rest.err;
    }

-- ---- what is shown of the first nodes

no_first : (first others : List Located) → first ++ others ≡ [] → first ≡ []
no_first [] others none = refl
no_first (n ∷ ns) others none = absurd cc

part_of_first : (look : Look) (limit : Option ℕ) (later : Bool) (head bytes : List ℕ) (value asked : Data) (path : JsonPath) (shown first others : List Located) (text : List ℕ) (count : ℕ) → has_nodes look.output.form ≡ true → count ≡ length first → IfSome limit (λ most. length first ≤ most)
    → ShowsAs look bytes value path → IsAsked bytes value asked → AreSelected builtin_functions path look.output.unique asked shown → shown ≡ first ++ others → ArePieces look later head first text
    → IsAnswerInPart builtin_functions path (with_most look limit) later head bytes text count
part_of_first look limit later head bytes value asked path shown first others text count has many few shows of (inl none) split are =
    let empty : first ≡ [] = no_first first others (sym split ∙ none) in
    inl (subst (λ ns. ArePieces look later head ns text) empty are, many ∙ ap (λ (ns : List Located). length ns) empty)
part_of_first look limit later head bytes value asked path shown first others text count has many few shows of (inr selected) split are =
    let nodes = selected.0 in
    let most = Some (length first) in
    let these : take (length first) (once look.output.unique nodes) ≡ first = ap (take (length first)) (sym selected.2 ∙ split) ∙ take-append-le (length first) first others (omega arith) ∙ take_all (length first) first (omega arith) in
    let pieces = subst (λ ns. ArePieces (with_most look most) later head ns text) (sym these) (pieces_of_most look most later head first text are) in
    inr (inr (
      has,
      length first,
      few,
      shown_of_asked look bytes value asked path most later head text count shows of
          (nodes, selected.1, each_in_look (with_most look most) later head nodes text has pieces, node_count look.output.form (take (length first) (once look.output.unique nodes)) count has (many ∙ ap (λ (ns : List Located). length ns) (sym these))),
    ))

-- what was written first of a path is as many nodes as were counted
first_many : {W E : Type 0} (contents : W → Option (List ℕ)) (before after : Written W E) (shown : List Located) (took : TookFirst contents before shown after) → before.count ≡ 0 → after.count ≡ length took.first
first_many contents before after shown took none = many after.count before.count (length took.first) took.took.count none
  where
    many : (count before more : ℕ) → count ≡ before + more → before ≡ 0 → count ≡ more
    many count before more is none = grind arith

-- a query was refused: its first nodes were written
pub path_refused : {W E : Type 0} {silent : Bool} (contents : W → Option (List ℕ)) (path : JsonPath) (bytes : List ℕ) (value asked : Data) (before after : Written W E) (final : Streams W E) (shown : List Located)
    → before.count ≡ 0 → ShowsAs (look_of before.showing.now) bytes value path → IsAsked bytes value asked
    → AreSelected builtin_functions path before.showing.now.output.unique asked shown → TookFirst contents before shown after → has_nodes before.showing.now.output.form ≡ true
    → final.out ≡ after.streams.now.out → string_bytes final.pending ≡ string_bytes after.streams.now.pending → final.outcome.selected ≡ (after.streams.now.outcome.selected || nat_lt 0 after.count) → final.outcome.refused ≡ true
    → final.total ≡ after.streams.now.total + after.count
    → AnswersPath silent contents path (with_most (look_of before.showing.now) before.limit) before.is_later before.head.now bytes before.streams.now final
path_refused {W} {E} contents path bytes value asked before after final shown none shows of selected took has out pending counted refused total =
    let look = look_of before.showing.now in
    let lines = took.took.written has in
    let few = took_few contents before after took.first took.took none in record {
      text = lines.0;
      count = after.count;
      whole = λ right. absurd (true≢false (sym refused ∙ right));
      part = part_of_first look before.limit before.is_later before.head.now bytes value asked path shown took.first took.others lines.0 after.count has (first_many contents before after shown took none) few shows of selected took.split
          (from_none before look before.head.now took.first lines.0 none lines.1);
      writes = subst (λ (o : W). Adds (contents before.streams.now.out) (string_bytes before.streams.now.pending) (contents o) (string_bytes final.pending) lines.0) (sym out)
          (subst (λ (p : List ℕ). Adds (contents before.streams.now.out) (string_bytes before.streams.now.pending) (contents after.streams.now.out) p lines.0) (sym pending) lines.2);
      selected = counted ∙ ap (λ (o : Outcome). o.selected || nat_lt 0 after.count) took.took.rest.outcome;
      total = total ∙ ap (λ n. n + after.count) took.took.rest.total;
      told = λ silent right. absurd (true≢false (sym refused ∙ right));
    }

-- of the nodes of a path a beginning is out
pub path_begun : {W E : Type 0} (contents : W → Option (List ℕ)) (path : JsonPath) (bytes : List ℕ) (value asked : Data) (before after : Written W E) (final : Streams W E) (shown : List Located)
    → before.count ≡ 0 → ShowsAs (look_of before.showing.now) bytes value path → IsAsked bytes value asked
    → AreSelected builtin_functions path before.showing.now.output.unique asked shown → BeginsFirst contents before shown after → has_nodes before.showing.now.output.form ≡ true → final.out ≡ after.streams.now.out
    → Begins contents (IsAnswerInPart builtin_functions path (with_most (look_of before.showing.now) before.limit) before.is_later before.head.now bytes) before.streams.now final
path_begun {W} contents path bytes value asked before after final shown none shows of selected begins has out =
    let look = look_of before.showing.now in
    let lines = begins.begins.written has in (
      lines.0,
      length begins.first,
      part_of_first look before.limit before.is_later before.head.now bytes value asked path shown begins.first begins.others lines.0 (length begins.first) has refl (begins.few none) shows of selected begins.split
          (from_none before look before.head.now begins.first lines.0 none lines.1),
      subst (λ (o : W). AppendsBeginning (contents before.streams.now.out) (contents o) (string_bytes before.streams.now.pending ++ lines.0)) (sym out) lines.2,
    )

-- ---- counts

-- what is shown of a count, or that nothing is where counts are summed up
counts_shown : (summed : Bool) (output : Output) (head : List ℕ) (nodes : List Located) (text appended : List ℕ) → AreLines output head nodes appended → MatchBool summed (text ≡ []) (text ≡ appended) → MatchBool summed (text ≡ []) (AreLines output head nodes text)
counts_shown true output head nodes text appended are is = is
counts_shown false output head nodes text appended are is = subst (AreLines output head nodes) (sym is) are

-- where counts are summed up nothing is shown of one, and else all
pub sums_up : (summed : Bool) (text appended : List ℕ) → summed ≡ true → text ≡ [] → MatchBool summed (text ≡ []) (text ≡ appended)
sums_up summed text appended sums none = subst (λ (b : Bool). MatchBool b (text ≡ []) (text ≡ appended)) (sym sums) none

pub shows_count : (summed : Bool) (text appended : List ℕ) → summed ≡ false → text ≡ appended → MatchBool summed (text ≡ []) (text ≡ appended)
shows_count summed text appended shows all = subst (λ (b : Bool). MatchBool b (text ≡ []) (text ≡ appended)) (sym shows) all

-- a path was answered: what is shown of its result is pending
pub path_counted : {W E : Type 0} {silent : Bool} (contents : W → Option (List ℕ)) (path : JsonPath) (look : Look) (limit : Option ℕ) (later : Bool) (head bytes : List ℕ) (value asked : Data) (empty appended text : List ℕ) (count : ℕ) (before now : Streams W E)
    → empty ≡ [] → IsAsked bytes value asked → Counts builtin_functions path (record look.output { most = limit }) head asked empty appended count → ShowsAs look bytes value path → has_counts look.output.form ≡ true
    → MatchBool look.summed (text ≡ []) (text ≡ appended)
    → now.out ≡ before.out → string_bytes now.pending ≡ string_bytes before.pending ++ text → now.outcome ≡ record before.outcome { selected = before.outcome.selected || nat_lt 0 count }
    → now.err ≡ before.err → now.total ≡ before.total + count → AnswersPath silent contents path (with_most look limit) later head bytes before now
path_counted {W} {E} contents path look limit later head bytes value asked empty appended text count before now none of counts shows by_count written out pending outcome err total =
    let nodes = counts.0 in
    let is : appended ≡ counts.1 = counts.4 ∙ ap (λ (e : List ℕ). e ++ counts.1) none in
    let are = counts_shown look.summed (record look.output { most = limit }) head nodes text appended (subst (AreLines (record look.output { most = limit }) head nodes) (sym is) counts.3) written in
    let answer : IsAnswerOn builtin_functions path (with_most look limit) later head bytes text count = shown_of_asked look bytes value asked path limit later head text count shows of
    (nodes, counts.2, by_form (with_most look limit) later head nodes text by_count are, counts.5) in record {
      text = text;
      count = count;
      whole = λ refused. (sym (ap (λ (o : Outcome). o.refused) outcome) ∙ refused, answer);
      part = inr (inl answer);
      writes = subst (λ (o : W). Adds (contents before.out) (string_bytes before.pending) (contents o) (string_bytes now.pending) text) (sym out)
          ([], appends_nothing (contents before.out), sym pending);
      selected = ap (λ (o : Outcome). o.selected) outcome;
      total = total;
      told = λ silent right. err;
    }

-- ---- what was refused

-- something was refused, and nothing was written
pub nothing_answered : {W E : Type 0} {silent : Bool} (contents : W → Option (List ℕ)) (Is IsPart : List ℕ → ℕ → Type 0) (before now : Streams W E) → IsPart [] 0 → OnlyRefuses before now → now.outcome.refused ≡ true
    → Answered silent contents Is IsPart before now
nothing_answered {W} {E} contents Is IsPart before now part kept refused = record {
  text = [];
  count = 0;
  whole = λ right. absurd (true≢false (sym refused ∙ right));
  part = part;
  writes = subst (λ (o : W). Adds (contents before.out) (string_bytes before.pending) (contents o) (string_bytes now.pending) []) (sym (ap (λ (s : Streams W E). s.out) kept))
      (subst (λ (p : String Global). Adds (contents before.out) (string_bytes before.pending) (contents before.out) (string_bytes p) []) (sym (ap (λ (s : Streams W E). s.pending) kept)) (adds_nothing (contents before.out) (string_bytes before.pending)));
  selected = ap (λ (s : Streams W E). s.outcome.selected) kept ∙ or_false before.outcome.selected;
  total = ap (λ (s : Streams W E). s.total) kept ∙ plus_zero before.total;
  told = λ silent right. absurd (true≢false (sym refused ∙ right));
}

-- nothing changed, and nothing is shown
pub nothing_shown : {W E : Type 0} {silent : Bool} (contents : W → Option (List ℕ)) (Is IsPart : List ℕ → ℕ → Type 0) (streams : Streams W E) → Is [] 0 → IsPart [] 0 → Answered silent contents Is IsPart streams streams
nothing_shown contents Is IsPart streams is part = record {
  text = [];
  count = 0;
  whole = λ right. (right, is);
  part = part;
  writes = adds_nothing (contents streams.out) (string_bytes streams.pending);
  selected = or_false streams.outcome.selected;
  total = plus_zero streams.total;
  told = λ silent right. refl;
}

-- nothing is out that was not before, of some text, or of none
pub none_begun_of : {W E : Type 0} (contents : W → Option (List ℕ)) (IsPart : List ℕ → ℕ → Type 0) (text : List ℕ) (count : ℕ) (before now : Streams W E) → IsPart text count → now.out ≡ before.out → Begins contents IsPart before now
none_begun_of {W} contents IsPart text count before now part same =
    (text, count, part, subst (λ (o : W). AppendsBeginning (contents before.out) (contents o) (string_bytes before.pending ++ text)) (sym same) (none_begun (contents before.out) (string_bytes before.pending ++ text)))

pub nothing_begun : {W E : Type 0} (contents : W → Option (List ℕ)) (IsPart : List ℕ → ℕ → Type 0) (before now : Streams W E) → IsPart [] 0 → now.out ≡ before.out → Begins contents IsPart before now
nothing_begun contents IsPart before now part same = none_begun_of contents IsPart [] 0 before now part same

-- of what was added a beginning is out
pub answered_begun : {W E : Type 0} {silent : Bool} (contents : W → Option (List ℕ)) (Is IsPart : List ℕ → ℕ → Type 0) (before now : Streams W E) → Answered silent contents Is IsPart before now → Begins contents IsPart before now
answered_begun contents Is IsPart before now answered =
    (answered.text, answered.count, answered.part, adds_begun (contents before.out) (contents now.out) (string_bytes before.pending) (string_bytes now.pending) answered.text answered.writes)

-- what is out stayed so
pub begun_still : {W E : Type 0} (contents : W → Option (List ℕ)) (IsPart : List ℕ → ℕ → Type 0) (before old now : Streams W E) → Begins contents IsPart before old → now.out ≡ old.out → Begins contents IsPart before now
begun_still {W} contents IsPart before old now begun same =
    (begun.0, begun.1, begun.2, subst (λ (o : W). AppendsBeginning (contents before.out) (contents o) (string_bytes before.pending ++ begun.0)) (sym same) begun.3)

-- the same text is also something else
pub begun_as : {W E : Type 0} (contents : W → Option (List ℕ)) (IsPart Also : List ℕ → ℕ → Type 0) (before now : Streams W E) → ((text : List ℕ) (count : ℕ) → IsPart text count → Also text count) → Begins contents IsPart before now
    → Begins contents Also before now
begun_as contents IsPart Also before now step begun = (begun.0, begun.1, step begun.0 begun.1 begun.2, begun.3)

-- nothing changed before that counts
pub begun_since : {W E : Type 0} (contents : W → Option (List ℕ)) (IsPart : List ℕ → ℕ → Type 0) (before start now : Streams W E) → start.out ≡ before.out → start.pending ≡ before.pending → Begins contents IsPart start now → Begins contents IsPart before now
begun_since {W} contents IsPart before start now out pending begun = (
  begun.0,
  begun.1,
  begun.2,
  subst (λ (o : W). AppendsBeginning (contents o) (contents now.out) (string_bytes before.pending ++ begun.0)) out
      (subst (λ (p : String Global). AppendsBeginning (contents start.out) (contents now.out) (string_bytes p ++ begun.0)) pending begun.3),
)

-- of what was added, and then written, a beginning is out
pub written_begun : {W E : Type 0} {silent : Bool} (contents : W → Option (List ℕ)) (Is IsPart : List ℕ → ℕ → Type 0) (before old now : Streams W E) → Answered silent contents Is IsPart before old → AppendsBeginning (contents old.out) (contents now.out) (string_bytes old.pending)
    → Begins contents IsPart before now
written_begun contents Is IsPart before old now answered begun = (
  answered.text,
  answered.count,
  answered.part,
  subst (AppendsBeginning (contents before.out) (contents now.out)) (ap (λ (t : List ℕ). string_bytes before.pending ++ t) (append-nil answered.text))
      (begun_after (contents before.out) (contents old.out) (contents now.out) (string_bytes before.pending) (string_bytes old.pending) answered.text [] answered.writes
      (subst (AppendsBeginning (contents old.out) (contents now.out)) (sym (append-nil (string_bytes old.pending))) begun)),
)

-- ---- what was written of paths, and of another after them

-- what is shown of some items, and of another after them
pub each_both : {A : Type 0} (Is : ℕ → ℕ → A → List ℕ → ℕ → Type 0) (number before : ℕ) (items : List A) (item : A) (text own : List ℕ) (count one : ℕ) → AreEach Is number before items text count → Is (number + length items) (before + count) item own one
    → AreEach Is number before (items ++ item ∷ []) (text ++ own) (count + one)
each_both Is number before [] item text own count one are is = (
  own,
  [],
  one,
  0,
  subst (λ n. Is n before item own one) (sym (plus_zero number)) (subst (λ b. Is (number + 0) b item own one) (ap (λ c. before + c) are.1 ∙ sym (plus_zero before)) is),
  (refl, refl),
  ap (λ (t : List ℕ). t ++ own) are.0 ∙ sym (append-nil own),
  ap (λ c. c + one) are.1 ∙ zero_plus one,
)
each_both Is number before (first ∷ items) item text own count one are is = (
  are.0,
  are.1 ++ own,
  are.2,
  are.3 + one,
  are.4,
  each_both Is (number + 1) (before + are.2) items item are.1 own are.3 one are.5
      (subst (λ n. Is n ((before + are.2) + are.3) item own one) (shifted number (length items))
      (subst (λ b. Is (number + suc (length items)) b item own one) (ap (λ c. before + c) are.7 ∙ sym (plus_assoc before are.2 are.3)) is)),
  ap (λ (t : List ℕ). t ++ own) are.6 ∙ append_assoc are.0 are.1 own,
  ap (λ c. c + one) are.7 ∙ plus_assoc are.2 are.3 one,
)
  where
    shifted : (n k : ℕ) → n + suc k ≡ (n + 1) + k
    shifted n k = grind arith

-- of each item nothing is shown
pub each_nothing : {A : Type 0} (Is : ℕ → ℕ → A → List ℕ → ℕ → Type 0) (before : ℕ) (items : List A) → ((number : ℕ) (item : A) → Is number before item [] 0) → (number : ℕ) → AreEach Is number before items [] 0
each_nothing Is before [] none number = (refl, refl)
each_nothing Is before (item ∷ items) none number =
    ([], [], 0, 0, none number item, subst (λ b. AreEach Is (number + 1) b items [] 0) (plus_zero before) (each_nothing Is before items none (number + 1)), refl, refl)

-- of some items after others nothing is shown
pub each_rest : {A : Type 0} (Is : ℕ → ℕ → A → List ℕ → ℕ → Type 0) (number before : ℕ) (items rest : List A) (text : List ℕ) (count : ℕ) → ((number : ℕ) → AreEach Is number (before + count) rest [] 0) → AreEach Is number before items text count
    → AreEach Is number before (items ++ rest) text count
each_rest Is number before [] rest text count none are =
    subst (λ (t : List ℕ). AreEach Is number before rest t count) (sym are.0) (subst (λ c. AreEach Is number before rest [] c) (sym are.1)
    (subst (λ b. AreEach Is number b rest [] 0) (ap (λ c. before + c) are.1 ∙ sym (plus_zero before)) (none number)))
each_rest Is number before (item ∷ items) rest text count none are = (
  are.0,
  are.1,
  are.2,
  are.3,
  are.4,
  each_rest Is (number + 1) (before + are.2) items rest are.1 are.3 (λ n. subst (λ b. AreEach Is n b rest [] 0) (ap (λ c. before + c) are.7 ∙ sym (plus_assoc before are.2 are.3)) (none n)) are.5,
  are.6,
  are.7,
)

-- of an item after others something is shown, and of the rest nothing
further_rest : {A : Type 0} (Is : ℕ → ℕ → A → List ℕ → ℕ → Type 0) (number before : ℕ) (items : List A) (item : A) (rest : List A) (text own : List ℕ) (count one : ℕ) → ((number : ℕ) → AreEach Is number (before + (count + one)) rest [] 0)
    → AreEach Is number before items text count → Is (number + length items) (before + count) item own one → AreEach Is number before (items ++ (item ∷ rest)) (text ++ own) (count + one)
further_rest {A} Is number before items item rest text own count one none are is =
    subst (λ (all : List A). AreEach Is number before all (text ++ own) (count + one)) (append_assoc items (item ∷ []) rest)
    (each_rest Is number before (items ++ item ∷ []) rest (text ++ own) (count + one) none (each_both Is number before items item text own count one are is))

-- nothing was added yet
pub none_answered : {W E A : Type 0} {silent : Bool} (contents : W → Option (List ℕ)) (Is IsPart : ℕ → ℕ → A → List ℕ → ℕ → Type 0) (number before : ℕ) (streams : Streams W E) → Answered silent contents (AreEach Is number before []) (AreEach IsPart number before []) streams streams
none_answered contents Is IsPart number before streams = nothing_shown contents (AreEach Is number before []) (AreEach IsPart number before []) streams (refl, refl) (refl, refl)

-- one text was added after another
pub answered_both : {W E : Type 0} {silent : Bool} (contents : W → Option (List ℕ)) (Is IsPart Own OwnPart Both BothPart : List ℕ → ℕ → Type 0) (before old now : Streams W E) (first : Answered silent contents Is IsPart before old) (second : Answered silent contents Own OwnPart old now)
    → (Is first.text first.count → Own second.text second.count → Both (first.text ++ second.text) (first.count + second.count)) → BothPart (first.text ++ second.text) (first.count + second.count) → Answered silent contents Both BothPart before now
answered_both contents Is IsPart Own OwnPart Both BothPart before old now first second step part = record {
  text = first.text ++ second.text;
  count = first.count + second.count;
  whole = λ right.
      let own = second.whole right in
      let earlier = first.whole own.0 in
      (earlier.0, step earlier.1 own.1);
  part = part;
  writes = adds_both (contents before.out) (contents old.out) (contents now.out) (string_bytes before.pending) (string_bytes old.pending) (string_bytes now.pending) first.text second.text first.writes second.writes;
  selected = second.selected ∙ ap (λ (b : Bool). b || nat_lt 0 second.count) first.selected ∙ or_counts before.outcome.selected first.count second.count;
  total = second.total ∙ ap (λ n. n + second.count) first.total ∙ plus_assoc before.total first.count second.count;
  told = λ silent right. second.told silent right ∙ first.told silent (second.whole right).0;
}

-- and another after both
pub answered_three : {W E : Type 0} {silent : Bool} (contents : W → Option (List ℕ)) (Is IsPart Own OwnPart Last LastPart All AllPart : List ℕ → ℕ → Type 0) (before old later now : Streams W E)
    → (first : Answered silent contents Is IsPart before old) (second : Answered silent contents Own OwnPart old later) (third : Answered silent contents Last LastPart later now)
    → (Is first.text first.count → Own second.text second.count → Last third.text third.count → All ((first.text ++ second.text) ++ third.text) ((first.count + second.count) + third.count))
    → AllPart ((first.text ++ second.text) ++ third.text) ((first.count + second.count) + third.count) → Answered silent contents All AllPart before now
unfolding answered_both
answered_three contents Is IsPart Own OwnPart Last LastPart All AllPart before old later now first second third step part =
    let Both : List ℕ → ℕ → Type 0 = λ text count. Is first.text first.count × Own second.text second.count in
    let BothPart : List ℕ → ℕ → Type 0 = λ text count. IsPart first.text first.count × OwnPart second.text second.count in
    let both = answered_both contents Is IsPart Own OwnPart Both BothPart before old later first second (λ is own. (is, own)) (first.part, second.part) in
    answered_both contents Both BothPart Last LastPart All AllPart before later now both third (λ own last. step own.0 own.1 last) part

-- one more item was answered
pub answered_further : {W E A : Type 0} {silent : Bool} (contents : W → Option (List ℕ)) (Is IsPart : ℕ → ℕ → A → List ℕ → ℕ → Type 0) (number : ℕ) (items : List A) (item : A) (before old now : Streams W E)
    → Answered silent contents (AreEach Is number before.total items) (AreEach IsPart number before.total items) before old → Answered silent contents (Is (number + length items) old.total item) (IsPart (number + length items) old.total item) old now
    → Answered silent contents (AreEach Is number before.total (items ++ item ∷ [])) (AreEach IsPart number before.total (items ++ item ∷ [])) before now
answered_further contents Is IsPart number items item before old now first second =
    answered_both contents (AreEach Is number before.total items) (AreEach IsPart number before.total items) (Is (number + length items) old.total item) (IsPart (number + length items) old.total item)
    (AreEach Is number before.total (items ++ item ∷ [])) (AreEach IsPart number before.total (items ++ item ∷ [])) before old now first second
    (λ are is. each_both Is number before.total items item first.text second.text first.count second.count are (subst (λ b. Is (number + length items) b item second.text second.count) first.total is))
    (each_both IsPart number before.total items item first.text second.text first.count second.count first.part (subst (λ b. IsPart (number + length items) b item second.text second.count) first.total second.part))

-- the run ended in an item after those that were answered; of the rest nothing is shown where all is
pub answered_until : {W E A : Type 0} {silent : Bool} (contents : W → Option (List ℕ)) (Is IsPart : ℕ → ℕ → A → List ℕ → ℕ → Type 0) (next : Next) (number : ℕ) (items : List A) (item : A) (rest : List A) (before old now : Streams W E)
    → (is_whole next ≡ true → (number : ℕ) → AreEach Is number now.total rest [] 0) → ((number before : ℕ) → AreEach IsPart number before rest [] 0)
    → Answered silent contents (AreEach Is number before.total items) (AreEach IsPart number before.total items) before old
    → Answered silent contents (IfWhole next (Is (number + length items) old.total item)) (IsPart (number + length items) old.total item) old now
    → Answered silent contents (IfWhole next (AreEach Is number before.total (items ++ (item ∷ rest)))) (AreEach IsPart number before.total (items ++ (item ∷ rest))) before now
answered_until contents Is IsPart next number items item rest before old now none none_part first second =
    answered_both contents (AreEach Is number before.total items) (AreEach IsPart number before.total items) (IfWhole next (Is (number + length items) old.total item)) (IsPart (number + length items) old.total item)
    (IfWhole next (AreEach Is number before.total (items ++ (item ∷ rest)))) (AreEach IsPart number before.total (items ++ (item ∷ rest))) before old now first second
    (λ are is whole. further_rest Is number before.total items item rest first.text second.text first.count second.count
    (λ n. subst (λ b. AreEach Is n b rest [] 0) (second.total ∙ ap (λ t. t + second.count) first.total ∙ plus_assoc before.total first.count second.count) (none whole n)) are
    (subst (λ b. Is (number + length items) b item second.text second.count) first.total (is whole)))
    (further_rest IsPart number before.total items item rest first.text second.text first.count second.count (λ n. none_part n (before.total + (first.count + second.count))) first.part
    (subst (λ b. IsPart (number + length items) b item second.text second.count) first.total second.part))

-- of an item after those that were answered a beginning is out, and of the rest nothing
pub begun_further : {W E A : Type 0} {silent : Bool} (contents : W → Option (List ℕ)) (Is IsPart : ℕ → ℕ → A → List ℕ → ℕ → Type 0) (number : ℕ) (items : List A) (item : A) (rest : List A) (before old now : Streams W E) → ((number before : ℕ) → AreEach IsPart number before rest [] 0)
    → Answered silent contents (AreEach Is number before.total items) (AreEach IsPart number before.total items) before old → Begins contents (IsPart (number + length items) old.total item) old now
    → Begins contents (AreEach IsPart number before.total (items ++ (item ∷ rest))) before now
begun_further contents Is IsPart number items item rest before old now none first begun = (
  first.text ++ begun.0,
  first.count + begun.1,
  further_rest IsPart number before.total items item rest first.text begun.0 first.count begun.1 (λ n. none n (before.total + (first.count + begun.1))) first.part (subst (λ b. IsPart (number + length items) b item begun.0 begun.1) first.total begun.2),
  begun_after (contents before.out) (contents old.out) (contents now.out) (string_bytes before.pending) (string_bytes old.pending) first.text begun.0 first.writes begun.3,
)

number_of : {A B : Type 0} (f : A → B) (items : List A) (index : ℕ) → index < length items → index + 1 ≡ 1 + length (map f (take index items))
number_of f items index within = plus_one index ∙ ap (λ n. 1 + n) (sym (length-map (take index items) f ∙ length-take-le index items (omega (arith, within))))
  where
    plus_one : (n : ℕ) → n + 1 ≡ 1 + n
    plus_one n = grind arith

-- one more of what a function makes of some items was answered
pub mapped_further : {W E A B : Type 0} {silent : Bool} (contents : W → Option (List ℕ)) (Is IsPart : ℕ → ℕ → B → List ℕ → ℕ → Type 0) (f : A → B) (items : List A) (index : ℕ) (item : A) (before old now : Streams W E)
    → index < length items → item ≡ get_or items index item → Answered silent contents (AreEach Is 1 before.total (map f (take index items))) (AreEach IsPart 1 before.total (map f (take index items))) before old
    → Answered silent contents (Is (index + 1) old.total (f item)) (IsPart (index + 1) old.total (f item)) old now
    → Answered silent contents (AreEach Is 1 before.total (map f (take (index + 1) items))) (AreEach IsPart 1 before.total (map f (take (index + 1) items))) before now
mapped_further {B = B} {silent = silent} contents Is IsPart f items index item before old now within is first second =
    subst (λ (made : List B). Answered silent contents (AreEach Is 1 before.total made) (AreEach IsPart 1 before.total made) before now) (sym (further_mapped f items index item within is))
    (answered_further contents Is IsPart 1 (map f (take index items)) (f item) before old now first
    (subst (λ n. Answered silent contents (Is n old.total (f item)) (IsPart n old.total (f item)) old now) (number_of f items index within) second))

-- of one more a beginning is out
pub mapped_begun : {W E A B : Type 0} {silent : Bool} (contents : W → Option (List ℕ)) (Is IsPart : ℕ → ℕ → B → List ℕ → ℕ → Type 0) (f : A → B) (items : List A) (index : ℕ) (item : A) (before old now : Streams W E) → ((number before : ℕ) → AreEach IsPart number before (map f (drop (suc index) items)) [] 0)
    → index < length items → item ≡ get_or items index item → Answered silent contents (AreEach Is 1 before.total (map f (take index items))) (AreEach IsPart 1 before.total (map f (take index items))) before old
    → Begins contents (IsPart (index + 1) old.total (f item)) old now → Begins contents (AreEach IsPart 1 before.total (map f items)) before now
mapped_begun {B = B} contents Is IsPart f items index item before old now none within is first begun =
    subst (λ (all : List B). Begins contents (AreEach IsPart 1 before.total all) before now) (sym (split_mapped f items index item within is))
    (begun_further contents Is IsPart 1 (map f (take index items)) (f item) (map f (drop (suc index) items)) before old now none first (subst (λ n. Begins contents (IsPart n old.total (f item)) old now) (number_of f items index within) begun))

-- the run ended in one more
pub mapped_until : {W E A B : Type 0} {silent : Bool} (contents : W → Option (List ℕ)) (Is IsPart : ℕ → ℕ → B → List ℕ → ℕ → Type 0) (next : Next) (f : A → B) (items : List A) (index : ℕ) (item : A) (before old now : Streams W E)
    → (is_whole next ≡ true → (number : ℕ) → AreEach Is number now.total (map f (drop (suc index) items)) [] 0) → ((number before : ℕ) → AreEach IsPart number before (map f (drop (suc index) items)) [] 0) → index < length items → item ≡ get_or items index item
    → Answered silent contents (AreEach Is 1 before.total (map f (take index items))) (AreEach IsPart 1 before.total (map f (take index items))) before old
    → Answered silent contents (IfWhole next (Is (index + 1) old.total (f item))) (IsPart (index + 1) old.total (f item)) old now
    → Answered silent contents (IfWhole next (AreEach Is 1 before.total (map f items))) (AreEach IsPart 1 before.total (map f items)) before now
mapped_until {B = B} {silent = silent} contents Is IsPart next f items index item before old now none none_part within is first second =
    subst (λ (all : List B). Answered silent contents (IfWhole next (AreEach Is 1 before.total all)) (AreEach IsPart 1 before.total all) before now) (sym (split_mapped f items index item within is))
    (answered_until contents Is IsPart next 1 (map f (take index items)) (f item) (map f (drop (suc index) items)) before old now none none_part first
    (subst (λ n. Answered silent contents (IfWhole next (Is n old.total (f item))) (IsPart n old.total (f item)) old now) (number_of f items index within) second))

-- of those that are left nothing is shown
pub rest_begun : {W E A B : Type 0} {silent : Bool} (contents : W → Option (List ℕ)) (Is IsPart : ℕ → ℕ → B → List ℕ → ℕ → Type 0) (f : A → B) (items : List A) (index : ℕ) (before now : Streams W E) → ((number before : ℕ) (item : B) → IsPart number before item [] 0)
    → Answered silent contents (AreEach Is 1 before.total (map f (take index items))) (AreEach IsPart 1 before.total (map f (take index items))) before now → Begins contents (AreEach IsPart 1 before.total (map f items)) before now
rest_begun {B = B} contents Is IsPart f items index before now none answered =
    let begun = answered_begun contents (AreEach Is 1 before.total (map f (take index items))) (AreEach IsPart 1 before.total (map f (take index items))) before now answered in (
      begun.0,
      begun.1,
      subst (λ (all : List B). AreEach IsPart 1 before.total all begun.0 begun.1) (sym (ap (map f) (sym (take-append-drop index items)) ∙ map-append f (take index items) (drop index items)))
          (each_rest IsPart 1 before.total (map f (take index items)) (map f (drop index items)) begun.0 begun.1 (each_nothing IsPart (before.total + begun.1) (map f (drop index items)) (λ number item. none number (before.total + begun.1) item)) begun.2),
      begun.3,
    )

-- all were answered
pub all_answered : {W E A B : Type 0} {silent : Bool} (contents : W → Option (List ℕ)) (Is IsPart : ℕ → ℕ → B → List ℕ → ℕ → Type 0) (f : A → B) (items : List A) (index : ℕ) (before now : Streams W E)
    → length items ≤ index → Answered silent contents (AreEach Is 1 before.total (map f (take index items))) (AreEach IsPart 1 before.total (map f (take index items))) before now
    → Answered silent contents (AreEach Is 1 before.total (map f items)) (AreEach IsPart 1 before.total (map f items)) before now
all_answered {A = A} {silent = silent} contents Is IsPart f items index before now done some =
    subst (λ (these : List A). Answered silent contents (AreEach Is 1 before.total (map f these)) (AreEach IsPart 1 before.total (map f these)) before now) (take_all index items done) some

-- what was pending went out
pub answered_sent : {W E : Type 0} {silent : Bool} (contents : W → Option (List ℕ)) (Is IsPart : List ℕ → ℕ → Type 0) (before old now : Streams W E) → Answered silent contents Is IsPart before old → OnlyWrites old now → Writes contents old now []
    → Answered silent contents Is IsPart before now
answered_sent {W} {E} contents Is IsPart before old now answered kept sent = record {
  text = answered.text;
  count = answered.count;
  whole = λ right. answered.whole (sym (ap (λ (s : Streams W E). s.outcome.refused) kept) ∙ right);
  part = answered.part;
  writes = subst (Adds (contents before.out) (string_bytes before.pending) (contents now.out) (string_bytes now.pending)) (append-nil answered.text)
      (adds_both (contents before.out) (contents old.out) (contents now.out) (string_bytes before.pending) (string_bytes old.pending) (string_bytes now.pending) answered.text [] answered.writes sent);
  selected = ap (λ (s : Streams W E). s.outcome.selected) kept ∙ answered.selected;
  total = ap (λ (s : Streams W E). s.total) kept ∙ answered.total;
  told = λ silent right. ap (λ (s : Streams W E). s.err) kept ∙ answered.told silent (sym (ap (λ (s : Streams W E). s.outcome.refused) kept) ∙ right);
}

-- a text was pending that shows no node, and went out
pub aside_sent : {W E : Type 0} {silent : Bool} (contents : W → Option (List ℕ)) (own : List ℕ) (before pushed now : Streams W E) → pushed ≡ record before { pending = pushed.pending } → string_bytes pushed.pending ≡ string_bytes before.pending ++ own
    → OnlyWrites pushed now → Writes contents pushed now [] → string_bytes now.pending ≡ [] → Sends silent contents (IsAside own) (IsAside own) before now
aside_sent {W} {E} {silent = silent} contents own before pushed now kept is written sent empty = (answered_sent contents (IsAside own) (IsAside own) before pushed now aside written sent, empty)
  where
    aside : Answered silent contents (IsAside own) (IsAside own) before pushed
    aside = record {
      text = own;
      count = 0;
      whole = λ right. (sym (ap (λ (s : Streams W E). s.outcome.refused) kept) ∙ right, (refl, refl));
      part = (refl, refl);
      writes = subst (λ (o : W). Adds (contents before.out) (string_bytes before.pending) (contents o) (string_bytes pushed.pending) own) (sym (ap (λ (s : Streams W E). s.out) kept)) ([], appends_nothing (contents before.out), sym is);
      selected = ap (λ (s : Streams W E). s.outcome.selected) kept ∙ or_false before.outcome.selected;
      total = ap (λ (s : Streams W E). s.total) kept ∙ plus_zero before.total;
      told = λ silent right. ap (λ (s : Streams W E). s.err) kept;
    }

-- the same text is also something else
pub answered_as : {W E : Type 0} {silent : Bool} (contents : W → Option (List ℕ)) (Is IsPart Also AlsoPart : List ℕ → ℕ → Type 0) (before now : Streams W E) → ((text : List ℕ) (count : ℕ) → Is text count → Also text count)
    → ((text : List ℕ) (count : ℕ) → IsPart text count → AlsoPart text count) → Answered silent contents Is IsPart before now → Answered silent contents Also AlsoPart before now
answered_as contents Is IsPart Also AlsoPart before now step part answered = record {
  text = answered.text;
  count = answered.count;
  whole = λ right. let own = answered.whole right in (own.0, step answered.text answered.count own.1);
  part = part answered.text answered.count answered.part;
  writes = answered.writes;
  selected = answered.selected;
  total = answered.total;
  told = answered.told;
}

-- what was added is so where all is shown, and where all is shown it is so
pub if_whole : {W E : Type 0} {silent : Bool} (contents : W → Option (List ℕ)) (Is IsPart : List ℕ → ℕ → Type 0) (next : Next) (before now : Streams W E) → Answered silent contents Is IsPart before now → Answered silent contents (IfWhole next Is) IsPart before now
if_whole contents Is IsPart next before now answered = answered_as contents Is IsPart (IfWhole next Is) IsPart before now (λ text count is whole. is) (λ text count part. part) answered

pub of_whole : {W E : Type 0} {silent : Bool} (contents : W → Option (List ℕ)) (Is IsPart : List ℕ → ℕ → Type 0) (next : Next) (before now : Streams W E) → is_whole next ≡ true → Answered silent contents (IfWhole next Is) IsPart before now → Answered silent contents Is IsPart before now
of_whole contents Is IsPart next before now whole answered = answered_as contents (IfWhole next Is) IsPart Is IsPart before now (λ text count is. is whole) (λ text count part. part) answered

-- nothing changed before that counts
pub answered_since : {W E : Type 0} {silent : Bool} (contents : W → Option (List ℕ)) (Is IsPart : List ℕ → ℕ → Type 0) (before start now : Streams W E) → start.out ≡ before.out → start.pending ≡ before.pending → start.outcome ≡ before.outcome → start.total ≡ before.total → (silent ≡ true → start.err ≡ before.err)
    → Answered silent contents Is IsPart start now → Answered silent contents Is IsPart before now
answered_since {W} {E} contents Is IsPart before start now out pending outcome total err answered = record {
  text = answered.text;
  count = answered.count;
  whole = λ right. let own = answered.whole right in (sym (ap (λ (o : Outcome). o.refused) outcome) ∙ own.0, own.1);
  part = answered.part;
  writes = subst (λ (o : W). Adds (contents o) (string_bytes before.pending) (contents now.out) (string_bytes now.pending) answered.text) out
      (subst (λ (p : String Global). Adds (contents start.out) (string_bytes p) (contents now.out) (string_bytes now.pending) answered.text) pending answered.writes);
  selected = answered.selected ∙ ap (λ (o : Outcome). o.selected || nat_lt 0 answered.count) outcome;
  total = answered.total ∙ ap (λ n. n + answered.count) total;
  told = λ silent right. answered.told silent right ∙ err silent;
}

-- nothing changed after it that counts, but that something may be refused
pub answered_still : {W E : Type 0} {silent : Bool} (contents : W → Option (List ℕ)) (Is IsPart : List ℕ → ℕ → Type 0) (before old now : Streams W E) → Answered silent contents Is IsPart before old → now.out ≡ old.out → now.pending ≡ old.pending
    → now.outcome.selected ≡ old.outcome.selected → (now.outcome.refused ≡ false → old.outcome.refused ≡ false) → now.total ≡ old.total → (silent ≡ true → now.outcome.refused ≡ false → now.err ≡ old.err) → Answered silent contents Is IsPart before now
answered_still {W} {E} contents Is IsPart before old now answered out pending selected right total err = record {
  text = answered.text;
  count = answered.count;
  whole = λ still. answered.whole (right still);
  part = answered.part;
  writes = subst (λ (o : W). Adds (contents before.out) (string_bytes before.pending) (contents o) (string_bytes now.pending) answered.text) (sym out)
      (subst (λ (p : String Global). Adds (contents before.out) (string_bytes before.pending) (contents old.out) (string_bytes p) answered.text) (sym pending) answered.writes);
  selected = selected ∙ answered.selected;
  total = total ∙ answered.total;
  told = λ silent still. err silent still ∙ answered.told silent (right still);
}

-- something was refused
pub answered_refused : {W E : Type 0} {silent : Bool} (contents : W → Option (List ℕ)) (Is IsPart Other : List ℕ → ℕ → Type 0) (before old now : Streams W E) → Answered silent contents Is IsPart before old → OnlyRefuses old now → now.outcome.refused ≡ true
    → Answered silent contents Other IsPart before now
answered_refused {W} {E} {silent = silent} contents Is IsPart Other before old now answered kept refused = record {
  text = still.text;
  count = still.count;
  whole = λ right. absurd (true≢false (sym refused ∙ right));
  part = still.part;
  writes = still.writes;
  selected = still.selected;
  total = still.total;
  told = still.told;
}
  where
    still : Answered silent contents Is IsPart before now
    still = answered_still contents Is IsPart before old now answered (ap (λ (s : Streams W E). s.out) kept) (ap (λ (s : Streams W E). s.pending) kept) (ap (λ (s : Streams W E). s.outcome.selected) kept)
        (λ right. absurd (true≢false (sym refused ∙ right))) (ap (λ (s : Streams W E). s.total) kept) (λ silent right. absurd (true≢false (sym refused ∙ right)))

-- something was noted
pub answered_noted : {W E : Type 0} {silent : Bool} (contents : W → Option (List ℕ)) (Is IsPart : List ℕ → ℕ → Type 0) (before old now : Streams W E) → Answered silent contents Is IsPart before old → OnlyNotes old now → (silent ≡ true → now.outcome.refused ≡ false → now.err ≡ old.err) → Answered silent contents Is IsPart before now
answered_noted {W} {E} contents Is IsPart before old now answered kept err = answered_still contents Is IsPart before old now answered (ap (λ (s : Streams W E). s.out) kept) (ap (λ (s : Streams W E). s.pending) kept)
    (ap (λ (s : Streams W E). s.outcome.selected) kept) (λ right. sym (ap (λ (s : Streams W E). s.outcome.refused) kept) ∙ right) (ap (λ (s : Streams W E). s.total) kept) err

-- two facts of a call that went well
pub if_both : {A E : Type 0} (r : Result A E) (P Q R : Type 0) → OnOk r P → OnOk r Q → (P → Q → R) → OnOk r R
if_both (Ok x) P Q R p q step = step p q
if_both (Err e) P Q R p q step = tt

pub on_ok_as : {A E : Type 0} (r : Result A E) (P Q : Type 0) → (P → Q) → OnOk r P → OnOk r Q
on_ok_as (Ok x) P Q step p = step p
on_ok_as (Err e) P Q step p = tt

-- what follows where a call goes well
pub on_ok_then : {A E : Type 0} (r : Result A E) (P : Type 0) (Q : A → Type 0) → OnOk r P → (P → (x : A) → Q x) → IfOk r Q
on_ok_then (Ok x) P Q p step = step p x
on_ok_then (Err e) P Q p step = tt

-- what is so of each error
pub of_any_error : {A E : Type 0} (r : Result A E) (P : E → Type 0) → ((e : E) → P e) → IfErr r P
of_any_error (Ok x) P all = tt
of_any_error (Err e) P all = all e

pub of_ok : {A E : Type 0} (P : A → Type 0) (r : Result A E) (x : A) → r ≡ Ok x → IfOk r P → P x
of_ok {A} {E} P r x is holds = subst (λ (r : Result A E). IfOk r P) is holds
