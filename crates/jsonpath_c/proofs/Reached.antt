-- What is known of a document, by what is read of it for a path.
use Rattle.jsonpath_c.proofs.Words.{◌≡◌, ◌∙◌, ◌⊎◌, inl, inr, ℕ, Bool, false, true, Result, Ok, Err, IfOk, IfErr, List, [], ◌∷◌, ◌++◌, length, map, refl, sym, ap, subst, arith, string_bytes, Data, Located, Step, IsLine, IsLineOfEach, compact_lines, normal, Form, Location, AnswersLinesOf, AreFirstLines, AreLinesFrom, ArePut, IsBeyond, IsReached, Limits, Compiled, FirstLines, ReadsAs, SelectsFrom, TellsFault, TellsSome, functions_of, path_tree}

-- the locations of nodes
abbrev pub places : List Located → List (List Step)
places nodes = map (λ n. n.location) nodes

-- a form shows nodes alike: they are the same, or have the same locations where locations alone are shown
abbrev pub AreAlike : Form → List Located → List Located → Type 0
AreAlike Location nodes others = places nodes ≡ places others
AreAlike form nodes others = nodes ≡ others

-- the bytes are a document from which the path selects nodes that the form shows alike
abbrev pub SelectsAlike : Form → Compiled → List ℕ → List Located → Type 0
SelectsAlike form c bytes nodes = (d : Data) × ReadsAs bytes d × ((others : List Located) × SelectsFrom c d others × AreAlike form nodes others)

pub selects_alike : (form : Form) (c : Compiled) (bytes : List ℕ) (value : Data) (nodes : List Located) → IsReached form c bytes value → SelectsFrom c value nodes → SelectsAlike form c bytes nodes
selects_alike Location c bytes value nodes read selects =
    let found = (read.1.2 (functions_of c) (path_tree c.path.value) (places nodes) (inl refl)).1 (nodes, selects, refl) in
    (read.1.0, (read.0, read.1.1), (found.0, found.1, sym found.2))
selects_alike form c bytes value nodes read selects =
    (read.1.0, (read.0, read.1.1), (nodes, (read.1.2 (functions_of c) (path_tree c.path.value) nodes (inl refl)).1 selects, refl))

-- the whole document is read for a path, in whatever form
pub whole_reached : (form : Form) (c : Compiled) (bytes : List ℕ) (value : Data) → ReadsAs bytes value → IsReached form c bytes value
whole_reached Location c bytes value reads = (reads.0, (value, reads.1, λ F q places i. ((λ h. h), (λ h. h))))
whole_reached form c bytes value reads = (reads.0, (value, reads.1, λ F q nodes i. ((λ h. h), (λ h. h))))

-- ---- lines of locations

-- a list is cut where one at the same locations is
record AreCutAlike (shown more others : List Located) : Type 0 where
  pub front : List Located
  pub later : List Located
  pub cut : others ≡ front ++ later
  pub same_front : places shown ≡ places front
  pub same_later : places more ≡ places later

cut_alike : (shown more others : List Located) → places (shown ++ more) ≡ places others → AreCutAlike shown more others
cut_alike [] more others same = record { front = []; later = others; cut = refl; same_front = refl; same_later = same }
cut_alike (n ∷ ns) more [] same = absurd cc
cut_alike (n ∷ ns) more (o ∷ os) same =
    let place : n.location ≡ o.location = cc in
    let rest : places (ns ++ more) ≡ places os = cc in
    let further = cut_alike ns more os rest in
    let front = further.same_front in
    record {
      front = o ∷ further.front;
      later = further.later;
      cut = cc further.cut;
      same_front = cc;
      same_later = further.same_later;
    }

same_length : (nodes others : List Located) → places nodes ≡ places others → length nodes ≡ length others
same_length [] [] same = refl
same_length [] (o ∷ os) same = absurd cc
same_length (n ∷ ns) [] same = absurd cc
same_length (n ∷ ns) (o ∷ os) same = let rest : places ns ≡ places os = cc in omega (arith, same_length ns os rest)

line_alike : (n o : Located) (line : List ℕ) → n.location ≡ o.location → IsLine (compact_lines Location) [] n line
    → IsLine (compact_lines Location) [] o line
line_alike n o line place h = (h.0, subst (λ (l : List Step). h.0 ≡ normal l) place h.1, h.2)

lines_alike : (nodes others : List Located) (text : List ℕ) → places nodes ≡ places others → IsLineOfEach (compact_lines Location) [] nodes text → IsLineOfEach (compact_lines Location) [] others text
lines_alike [] [] text same lines = lines
lines_alike [] (o ∷ os) text same lines = absurd cc
lines_alike (n ∷ ns) [] text same lines = absurd cc
lines_alike (n ∷ ns) (o ∷ os) text same h =
    let place : n.location ≡ o.location = cc in
    let later : places ns ≡ places os = cc in
    (h.0, h.1, line_alike n o h.0 place h.2, lines_alike ns os h.1 later h.3, h.4)

beyond_alike : (limits : Limits) (shown others : List Located) (text : List ℕ) (n o : Located) → length shown ≡ length others → n.location ≡ o.location
    → IsBeyond Location limits shown text n → IsBeyond Location limits others text o
beyond_alike limits shown others text n o many place (inl full) = inl (omega arith)
beyond_alike limits shown others text n o many place (inr h) = inr (h.0, line_alike n o h.0 place h.1, h.2)

first_of_places : (limits : Limits) (nodes others : List Located) (text : List ℕ) (all : Bool) → places nodes ≡ places others → AreFirstLines Location limits nodes text all
    → AreFirstLines Location limits others text all
first_of_places limits nodes others text all same first =
    let split = cut_alike first.shown first.more others (ap places (sym first.first) ∙ same) in
    let many = same_length first.shown split.front split.same_front in
    record {
      shown = split.front;
      more = split.later;
      first = split.cut;
      lines = lines_alike first.shown split.front text split.same_front first.lines;
      few = omega (arith, first.few, many);
      short = first.short;
      complete = λ e. none split.later (ap places (sym (first.complete e)) ∙ split.same_later);
      cut = λ e. let (next, later, is, full) = first.cut e in cut_at next later full split.later (ap places (sym is) ∙ split.same_later) split.front many;
    }
  where
    none : (later : List Located) → places [] ≡ places later → later ≡ []
    none [] same = refl
    none (o ∷ os) same = absurd cc

    cut_at : (next : Located) (later : List Located) (full : IsBeyond Location limits first.shown text next) (found : List Located) → places (next ∷ later) ≡ places found → (front : List Located) → length first.shown ≡ length front
        → (o : Located) × (os : List Located) × (found ≡ o ∷ os) × IsBeyond Location limits front text o
    cut_at next later full [] same front many = absurd cc
    cut_at next later full (o ∷ os) same front many =
        let place : next.location ≡ o.location = cc in
        (o, os, refl, beyond_alike limits first.shown front text next o many place full)

-- lines of nodes are those of nodes that the form shows alike
pub first_alike : (form : Form) (limits : Limits) (nodes others : List Located) (text : List ℕ) (all : Bool) → AreAlike form nodes others → AreFirstLines form limits nodes text all
    → AreFirstLines form limits others text all
first_alike Location limits nodes others text all same first = first_of_places limits nodes others text all same first
first_alike form limits nodes others text all same first = subst (λ (n : List Located). AreFirstLines form limits n text all) same first

-- where the position is kept, a status of a query tells no fault of bytes
pub no_fault : (bytes : List ℕ) (old_position new_position status : ℕ) → new_position ≡ old_position → (status ≡ 3) ⊎ (status ≡ 4) → TellsFault bytes old_position new_position status
no_fault bytes old_position new_position status kept which = record {
  refused = λ e. absurd (omega (arith, which, e));
  too_deep = λ e. absurd (omega (arith, which));
  not_too_deep = λ e. absurd (omega (arith, which));
  position = λ e. absurd (omega (arith, which, e));
  kept_position = λ not_refused not_deep. kept;
}

-- ---- counts

pub length_alike : (count : ℕ) (nodes others : List Located) → places nodes ≡ places others → count ≡ length nodes → count ≡ length others
length_alike count nodes others same is = is ∙ same_length nodes others same

pub some_alike : (some : ℕ) (nodes others : List Located) → places nodes ≡ places others → TellsSome some nodes → TellsSome some others
some_alike some [] [] same tells = tells
some_alike some [] (o ∷ os) same tells = absurd cc
some_alike some (n ∷ ns) [] same tells = absurd cc
some_alike some (n ∷ ns) (o ∷ os) same (inl one) = inl (one.0, λ e. cc)
some_alike some (n ∷ ns) (o ∷ os) same (inr none) = let no = none.1 in absurd cc

-- What is put of what is read for a path tells of the document that the bytes are, where it hangs on the locations of nodes alone.
pub put_reached : (Tells : ℕ → List Located → Type 0) → ((answer : ℕ) (nodes others : List Located) → places nodes ≡ places others → Tells answer nodes → Tells answer others)
    → (c : Compiled) (bytes : List ℕ) (found : Result ℕ ℕ) (out status : ℕ) → IfOk found (λ answer. (value : Data) × IsReached Location c bytes value × ((nodes : List Located) × SelectsFrom c value nodes × Tells answer nodes))
    → IfErr found (λ e. (e ≡ 2) ⊎ (e ≡ 3) ⊎ (e ≡ 4) ⊎ (e ≡ 9)) → IfOk found (λ answer. (status ≡ 0) × (out ≡ answer)) → (status ≡ 0 → IfErr found (λ e. e ≡ 0))
    → status ≡ 0 → (d : Data) × ReadsAs bytes d × ((nodes : List Located) × SelectsFrom c d nodes × Tells out nodes)
put_reached Tells alike c bytes (Ok answer) out status known refused put none done =
    let found = selects_alike Location c bytes known.0 known.2.0 known.1 known.2.1 in
    (found.0, found.1, (found.2.0, found.2.1, subst (λ a. Tells a found.2.0) (sym put.1) (alike answer known.2.0 found.2.0 found.2.2 known.2.2)))
put_reached Tells alike c bytes (Err e) out status known refused put none done = absurd (omega (arith, refused, none done))

-- ---- what is answered of lines

-- the lines of a path and a document are put
pub lines_answered : (form : Form) (limits : Limits) (c : Compiled) (d : Data) (lines : FirstLines) (old_out new_out : List ℕ) (old_size new_size status : ℕ)
    → AreLinesFrom form limits c d lines → ArePut lines old_out new_out new_size status → AnswersLinesOf form limits c d old_out new_out old_size new_size status
lines_answered form limits c d lines old_out new_out old_size new_size status are put = record {
  statuses = statuses put.statuses;
  done = λ e. let p = put.done e in (are.0, string_bytes lines.text, are.1, shown true p.0, p.1);
  cut = λ e. let p = put.cut e in (are.0, string_bytes lines.text, are.1, shown false p.0, p.1);
  no_room = λ e. let p = put.no_room e in (are.0, string_bytes lines.text, lines.all, are.1, are.2, p.0);
  pattern_refused = λ e. absurd (omega (arith, put.statuses));
  kept_out = λ not_done not_cut. (put.no_room (omega (arith, put.statuses))).1;
  kept_size = λ not_done short not_cut. absurd (omega (arith, put.statuses));
}
  where
    shown : (all : Bool) → lines.all ≡ all → AreFirstLines form limits are.0 (string_bytes lines.text) all
    shown all is = subst (λ (a : Bool). AreFirstLines form limits are.0 (string_bytes lines.text) a) is are.2

    statuses : (status ≡ 0) ⊎ (status ≡ 5) ⊎ (status ≡ 8) → (status ≡ 0) ⊎ (status ≡ 3) ⊎ (status ≡ 4) ⊎ (status ≡ 5) ⊎ (status ≡ 8)
    statuses which = grind arith

-- the lines of what is read for a path are those of the document that the bytes are
pub lines_reached : (form : Form) (limits : Limits) (c : Compiled) (bytes : List ℕ) (value : Data) (lines : FirstLines) → IsReached form c bytes value → AreLinesFrom form limits c value lines
    → (d : Data) × ReadsAs bytes d × AreLinesFrom form limits c d lines
lines_reached form limits c bytes value lines read are =
    let found = selects_alike form c bytes value are.0 read are.1 in
    (found.0, found.1, (found.2.0, found.2.1, first_alike form limits are.0 found.2.0 (string_bytes lines.text) lines.all found.2.2 are.2))
