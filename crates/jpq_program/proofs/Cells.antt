-- Rows of tables, cell by cell.
use Rattle.jpq_program.proofs.Words.{◌&&◌, header_by, header_cells, texts_asked, ◌≡◌, ◌∙◌, ◌||◌, ◌+◌, ◌<◌, ◌++◌, ◌∷◌, ℕ, Bool, true, false, List, [], Option, None, Some, String, Global, length, nat_lt, map, refl, sym, ap, subst, inl, inr, suc, ◌-◌, Ok, Result, arith, is_some, length-append, length-map, length-take-le, nat_tests, take-append-le, take_all, append-nil, append_assoc, append_cancel_right, codes, flat_map, flat_map-append, if◌then◌else◌, string_bytes, true≢false, Adds, Answered, AreCells, Compact, Data, Finds, FunctionSet, IsAnswer, IsAsked, IsCellInPart, IsCellOf, IsCellOn, IsFirstOf, ArePieces, IsRowInPart, IsRowOn, IsText, Answering, AnswersAll, AnswersAs, AnswersBy, AnswersRow, AreShownAs, Begins, Csv, MatchBool, Nodes, OptionShown, Tsv, all_by, all_in_part_by, asked_look, is_table, look_of, row_by, row_in_part_by, shown_in_part_by, JsonPath, LineEnd, Located, OnlyRefuses, Outcome, Raw, Selects, Shown, ShowsAs, Streams, builtin_functions, cell_look, cell_text, get_or, path_tree, row_line, row_text, take, with_most, with_rule_of}
use Rattle.jpq_program.specs.Inside.{separated, separator_in}
use Rattle.jpq_program.specs.declared.rows.Separator.{Separator}
use Rattle.jpq_program.specs.declared.rows.Separator.TheVariants.{Comma, Tab}
use Rattle.jpq_program.proofs.Dressed.{bare_line}
use Rattle.jpq_program.proofs.Nodes.{appends_nothing, further_mapped, plus_zero, zero_plus}
use Rattle.jpq_program.proofs.Shown.{or_counts, or_false, plus_assoc, shown_of_asked}

-- ---- texts

-- one more cell after so many
row_after : (cells : List (List ℕ)) (cell : List ℕ) (index : ℕ) → length cells ≡ index → row_text (cells ++ cell ∷ []) ≡ row_text cells ++ ((if nat_lt 0 index then codes "\t" else []) ++ cell_text cell)
row_after [] cell index many = append-nil (cell_text cell) ∙ ap (λ (i : ℕ). (if nat_lt 0 i then codes "\t" else []) ++ cell_text cell) many
row_after (first ∷ cells) cell index many =
    let tabbed : List ℕ → List ℕ = λ next. codes "\t" ++ cell_text next in
    ap (λ (t : List ℕ). cell_text first ++ t) (flat_map-append tabbed cells (cell ∷ []) ∙ ap (λ (t : List ℕ). flat_map tabbed cells ++ t) (append-nil (tabbed cell)))
    ∙ sym (append_assoc (cell_text first) (flat_map tabbed cells) (tabbed cell))
    ∙ ap (λ (later : Bool). row_text (first ∷ cells) ++ ((if later then codes "\t" else []) ++ cell_text cell)) (sym (some index many))
  where
    some : (index : ℕ) → suc (length cells) ≡ index → nat_lt 0 index ≡ true
    some index many = grind (arith, nat_tests)

pub row_further : (cells : List (String Global)) (index : ℕ) (item : String Global) (start old between now : List ℕ) → index < length cells → item ≡ get_or cells index item → old ≡ start ++ row_text (map string_bytes (take index cells))
    → between ≡ old ++ (if nat_lt 0 index then codes "\t" else []) → now ≡ between ++ cell_text (string_bytes item) → now ≡ start ++ row_text (map string_bytes (take (index + 1) cells))
row_further cells index item start old between now within is so_far tab own =
    let before = map string_bytes (take index cells) in
    let tabs : List ℕ = if nat_lt 0 index then codes "\t" else [] in
    let many : length before ≡ index = length-map (take index cells) string_bytes ∙ length-take-le index cells (omega (arith, within)) in
    own ∙ ap (λ (t : List ℕ). t ++ cell_text (string_bytes item)) (tab ∙ ap (λ (t : List ℕ). t ++ tabs) so_far)
    ∙ append_assoc (start ++ row_text before) tabs (cell_text (string_bytes item)) ∙ append_assoc start (row_text before) (tabs ++ cell_text (string_bytes item))
    ∙ ap (λ (t : List ℕ). start ++ t) (sym (row_after before (string_bytes item) index many) ∙ ap row_text (sym (further_mapped string_bytes cells index item within is)))

-- ---- cells

-- one more cell, of one more path
cells_further : (Is : JsonPath → List ℕ → ℕ → Type 0) (paths : List JsonPath) (path : JsonPath) (cells : List (List ℕ)) (cell : List ℕ) (count one : ℕ) → AreCells Is paths cells count → Is path cell one → AreCells Is (paths ++ path ∷ []) (cells ++ cell ∷ []) (count + one)
cells_further Is [] path cells cell count one are is =
    (cell, [], one, 0, is, (refl, refl), ap (λ (cs : List (List ℕ)). cs ++ cell ∷ []) are.0, ap (λ c. c + one) are.1 ∙ zero_plus one)
cells_further Is (first ∷ paths) path cells cell count one are is = (
  are.0,
  are.1 ++ cell ∷ [],
  are.2,
  are.3 + one,
  are.4,
  cells_further Is paths path are.1 cell are.3 one are.5 is,
  ap (λ (cs : List (List ℕ)). cs ++ cell ∷ []) are.6,
  ap (λ c. c + one) are.7 ∙ plus_assoc are.2 are.3 one,
)

-- ---- the first node

-- the text of a cell, as a line
abbrev line_of : List ℕ → ℕ → List ℕ
line_of cell count = if nat_lt 0 count then cell ++ codes "\n" else []

first_shown : (n : Located) (cell : List ℕ) → IsText Raw Compact n cell → ArePieces cell_look false [] (n ∷ []) (cell ++ codes "\n")
first_shown n cell is = (cell ++ codes "\n", [], (cell ++ codes "\n", cell ++ codes "\n", (cell, is, refl), sym (bare_line cell_look n.value (cell ++ codes "\n") refl refl), refl), refl, sym (append-nil (cell ++ codes "\n")))

cell_answers : (F : FunctionSet) (path : JsonPath) (d : Data) (nodes : List Located) (cell : List ℕ) (count : ℕ) → Selects (with_rule_of path F) (path_tree path) d nodes → IsCellOf nodes cell count → IsAnswer F path (with_most cell_look (Some 1)) false [] d (line_of cell count) count
cell_answers F path d [] cell count selects is = ([], selects, ap (line_of cell) is.1, is.1)
cell_answers F path d (n ∷ ns) cell count selects is =
    (n ∷ ns, selects, subst (λ c. ArePieces cell_look false [] (n ∷ []) (line_of cell c)) (sym is.1) (first_shown n cell is.0), is.1)

cell_answered : (nodes : List Located) (cell : List ℕ) (count : ℕ) → (count ≡ 0 → cell ≡ []) → ArePieces cell_look false [] (take 1 nodes) (line_of cell count) → count ≡ length (take 1 nodes) → IsCellOf nodes cell count
cell_answered [] cell count none are is = (none is, is)
cell_answered (n ∷ ns) cell count none are is =
    let lines = subst (λ c. ArePieces cell_look false [] (n ∷ []) (line_of cell c)) is are in
    let own = lines.2 in
    let text : cell ++ codes "\n" ≡ own.2.0 ++ codes "\n" = lines.4 ∙ ap (λ (t : List ℕ). lines.0 ++ t) lines.3 ∙ append-nil lines.0 ∙ own.4 ∙ own.3 ∙ bare_line cell_look n.value own.0 refl refl ∙ own.2.2 in
    (subst (IsText Raw Compact n) (sym (append_cancel_right cell own.2.0 (codes "\n") text)) own.2.1, is)

-- the cell of what was read of a document is that of the document
cell_on : (bytes : List ℕ) (value asked : Data) (path : JsonPath) (nodes : List Located) (cell : List ℕ) (count : ℕ) → ShowsAs cell_look bytes value path → IsAsked bytes value asked → Selects (with_rule_of path builtin_functions) (path_tree path) asked nodes → IsCellOf nodes cell count
    → IsCellOn builtin_functions bytes path cell count
cell_on bytes value asked path nodes cell count shows of selects is =
    let shown = shown_of_asked cell_look bytes value asked path (Some 1) false [] (line_of cell count) count shows of (cell_answers builtin_functions path asked nodes cell count selects is) in
    (shown.0, shown.1, (shown.2.0, shown.2.1, cell_answered shown.2.0 cell count (no_cell nodes is) shown.2.2 shown.2.3))
  where
    no_cell : (nodes : List Located) → IsCellOf nodes cell count → count ≡ 0 → cell ≡ []
    no_cell [] is none = is.0
    no_cell (n ∷ ns) is none = absurd (omega (arith, is.1, none))

-- what is taken of a line, without its end
pub cut_line : (text line whole cut : List ℕ) (len : ℕ) → line ≡ text ++ codes "\n" → whole ≡ line → len ≡ length whole → cut ≡ take (len - 1) whole → cut ≡ text
cut_line text line whole cut len is same many taken =
    taken ∙ ap (λ (n : ℕ). take (n - 1) whole) many ∙ ap (λ (l : List ℕ). take (length l - 1) l) (same ∙ is) ∙ ap (λ (n : ℕ). take n (text ++ codes "\n")) one_less
    ∙ take-append-le (length text) text (codes "\n") (omega arith) ∙ take_all (length text) text (omega arith)
  where
    one_less : length (text ++ codes "\n") - 1 ≡ length text
    one_less = omega (arith, length-append text (codes "\n"))

-- the first node, once it was taken, and as it is taken
pub first_kept : (nodes more : List Located) (cell : Option (String Global)) → is_some cell ≡ true → IsFirstOf nodes cell → IsFirstOf (nodes ++ more) cell
first_kept [] more cell has first = absurd (true≢false (sym has ∙ ap is_some first))
first_kept (n ∷ ns) more cell has first = first

pub first_taken : (nodes : List Located) (n : Located) (old : Option (String Global)) (text : String Global) → is_some old ≡ false → IsFirstOf nodes old → IsText Raw Compact n (string_bytes text) → IsFirstOf (nodes ++ n ∷ []) (Some text)
first_taken [] n old text none first is = (text, refl, is)
first_taken (m ∷ ms) n old text none first is = absurd (true≢false (sym (ap is_some first.1) ∙ none))

-- what a call gave is one or the other
pub of_either : {E : Type 0} {P : Type 0} (r : Result Bool E) (b : Bool) → r ≡ Ok b → (r ≡ Ok true → P) → (r ≡ Ok false → P) → P
of_either r true is one other = one is
of_either r false is one other = other is

-- the cell of nodes of which the first was looked for
pub some_cell : (nodes : List Located) (cell : String Global) → IsFirstOf nodes (Some cell) → IsCellOf nodes (string_bytes cell) 1
some_cell [] cell is = absurd cc
some_cell (n ∷ ns) cell is = (subst (λ (c : String Global). IsText Raw Compact n (string_bytes c)) (sym (same_text is.0 is.1)) is.2, refl)
  where
    same_text : (text : String Global) → Some cell ≡ Some text → cell ≡ text
    same_text text same = cc

pub no_node : (nodes : List Located) → IsFirstOf nodes None → IsCellOf nodes [] 0
no_node [] is = (refl, refl)
no_node (n ∷ ns) is = absurd (no_text is.0 is.1)
  where
    no_text : (text : String Global) → None ≡ Some text → ⊥
    no_text text same = absurd cc

-- a cell was found
pub cell_found : {W E : Type 0} {silent : Bool} (bytes : List ℕ) (value asked : Data) (path : JsonPath) (nodes : List Located) (cell : List ℕ) (count : ℕ) (before now : Streams W E) → ShowsAs cell_look bytes value path → IsAsked bytes value asked
    → Selects (with_rule_of path builtin_functions) (path_tree path) asked nodes → IsCellOf nodes cell count → now.out ≡ before.out → now.pending ≡ before.pending → now.outcome ≡ record before.outcome { selected = before.outcome.selected || nat_lt 0 count }
    → now.total ≡ before.total + count → (silent ≡ true → now.err ≡ before.err) → Finds silent (IsCellOn builtin_functions bytes path cell) (IsCellInPart builtin_functions bytes path cell) before now
cell_found bytes value asked path nodes cell count before now shows of selects is out pending outcome total told =
    let found = cell_on bytes value asked path nodes cell count shows of selects is in record {
      count = count;
      whole = λ right. (sym (ap (λ (o : Outcome). o.refused) outcome) ∙ right, found);
      part = inr found;
      out = out;
      pending = pending;
      selected = ap (λ (o : Outcome). o.selected) outcome;
      total = total;
      told = λ silent right. told silent;
    }

-- the query was refused, and the cell is empty
pub cell_refused : {W E : Type 0} {silent : Bool} (bytes : List ℕ) (path : JsonPath) (cell : List ℕ) (before now : Streams W E) → cell ≡ [] → OnlyRefuses before now → now.outcome.refused ≡ true
    → Finds silent (IsCellOn builtin_functions bytes path cell) (IsCellInPart builtin_functions bytes path cell) before now
cell_refused {W} {E} bytes path cell before now empty kept refused = record {
  count = 0;
  whole = λ right. absurd (true≢false (sym refused ∙ right));
  part = inl (empty, refl);
  out = ap (λ (s : Streams W E). s.out) kept;
  pending = ap (λ (s : Streams W E). s.pending) kept;
  selected = ap (λ (s : Streams W E). s.outcome.selected) kept ∙ or_false before.outcome.selected;
  total = ap (λ (s : Streams W E). s.total) kept ∙ plus_zero before.total;
  told = λ silent right. absurd (true≢false (sym refused ∙ right));
}

-- ---- the cells of a row

-- the cells of paths were found
abbrev pub FindsCells : {W E : Type 0} → Bool → List ℕ → List JsonPath → List (List ℕ) → Streams W E → Streams W E → Type 0
FindsCells silent bytes paths cells before now = Finds silent (AreCells (IsCellOn builtin_functions bytes) paths cells) (AreCells (IsCellInPart builtin_functions bytes) paths cells) before now

-- none was yet
pub no_cells : {W E : Type 0} {silent : Bool} (bytes : List ℕ) (streams : Streams W E) → FindsCells silent bytes [] [] streams streams
no_cells bytes streams = record {
  count = 0;
  whole = λ right. (right, (refl, refl));
  part = (refl, refl);
  out = refl;
  pending = refl;
  selected = or_false streams.outcome.selected;
  total = plus_zero streams.total;
  told = λ silent right. refl;
}

-- one more was
pub cells_found : {W E : Type 0} {silent : Bool} (bytes : List ℕ) (paths : List JsonPath) (path : JsonPath) (cells : List (List ℕ)) (cell : List ℕ) (before old now : Streams W E) → FindsCells silent bytes paths cells before old
    → Finds silent (IsCellOn builtin_functions bytes path cell) (IsCellInPart builtin_functions bytes path cell) old now → FindsCells silent bytes (paths ++ path ∷ []) (cells ++ cell ∷ []) before now
cells_found bytes paths path cells cell before old now first second = record {
  count = first.count + second.count;
  whole = λ right.
      let own = second.whole right in
      let earlier = first.whole own.0 in
      (earlier.0, cells_further (IsCellOn builtin_functions bytes) paths path cells cell first.count second.count earlier.1 own.1);
  part = cells_further (IsCellInPart builtin_functions bytes) paths path cells cell first.count second.count first.part second.part;
  out = second.out ∙ first.out;
  pending = second.pending ∙ first.pending;
  selected = second.selected ∙ ap (λ (b : Bool). b || nat_lt 0 second.count) first.selected ∙ or_counts before.outcome.selected first.count second.count;
  total = second.total ∙ ap (λ n. n + second.count) first.total ∙ plus_assoc before.total first.count second.count;
  told = λ silent right. second.told silent right ∙ first.told silent (second.whole right).0;
}

-- those of all paths, and their row was added
pub row_answered : {W E : Type 0} {silent : Bool} (contents : W → Option (List ℕ)) (paths : List JsonPath) (line : List (List ℕ) → List ℕ) (firsts cells : List (List ℕ)) (bytes : List ℕ) (before old now : Streams W E) → FindsCells silent bytes paths cells before old
    → now ≡ record old { pending = now.pending } → string_bytes now.pending ≡ string_bytes old.pending ++ line (firsts ++ cells)
    → Answered silent contents (IsRowOn builtin_functions paths line firsts bytes) (IsRowInPart builtin_functions paths line firsts bytes) before now
row_answered {W} {E} contents paths line firsts cells bytes before old now found kept pushed = record {
  text = text;
  count = found.count;
  whole = λ right.
      let own = found.whole (sym (ap (λ (s : Streams W E). s.outcome.refused) kept) ∙ right) in
      (own.0, (cells, own.1, refl));
  part = inr (cells, found.part, refl);
  writes = subst (λ (o : W). Adds (contents before.out) (string_bytes before.pending) (contents o) (string_bytes now.pending) text) (sym (ap (λ (s : Streams W E). s.out) kept ∙ found.out))
      ([], appends_nothing (contents before.out), sym (pushed ∙ ap (λ (p : String Global). string_bytes p ++ text) found.pending));
  selected = ap (λ (s : Streams W E). s.outcome.selected) kept ∙ found.selected;
  total = ap (λ (s : Streams W E). s.total) kept ∙ found.total;
  told = λ silent right. ap (λ (s : Streams W E). s.err) kept ∙ found.told silent (sym (ap (λ (s : Streams W E). s.outcome.refused) kept) ∙ right);
}
  where
    text : List ℕ
    text = line (firsts ++ cells)

-- ---- what is shown of a document

-- what is shown of a document, in a row or not
abbrev InRow : Bool → Answering → Shown
InRow table answering name number bytes before text count = MatchBool table (row_by answering name number bytes before text count) (all_by answering name number bytes before text count)

abbrev InRowInPart : Bool → Answering → Shown
InRowInPart table answering name number bytes before text count = MatchBool table (row_in_part_by answering name number bytes before text count) (all_in_part_by answering name number bytes before text count)

-- what is shown in a row, or of all paths, is what is asked to be shown
pub as_row : {W E : Type 0} (contents : W → Option (List ℕ)) (answering : Answering) (name : List ℕ) (number : ℕ) (bytes : List ℕ) (before now : Streams W E) → is_table answering.shown ≡ true
    → AnswersRow contents answering name number bytes before now → AnswersBy contents answering name number bytes before now
as_row contents answering name number bytes before now table answered = subst (λ (t : Bool). AnswersAs contents answering (InRow t answering) (InRowInPart t answering) name number bytes before now) (sym table) answered

pub as_all : {W E : Type 0} (contents : W → Option (List ℕ)) (answering : Answering) (name : List ℕ) (number : ℕ) (bytes : List ℕ) (before now : Streams W E) → is_table answering.shown ≡ false
    → AnswersAll contents answering name number bytes before now → AnswersBy contents answering name number bytes before now
as_all contents answering name number bytes before now table answered = subst (λ (t : Bool). AnswersAs contents answering (InRow t answering) (InRowInPart t answering) name number bytes before now) (sym table) answered

pub begun_as_all : {W E : Type 0} (contents : W → Option (List ℕ)) (answering : Answering) (name : List ℕ) (number : ℕ) (bytes : List ℕ) (before now : Streams W E) → is_table answering.shown ≡ false
    → Begins contents (all_in_part_by answering name number bytes before.total) before now → Begins contents (shown_in_part_by answering name number bytes before.total) before now
begun_as_all contents answering name number bytes before now table begun = subst (λ (t : Bool). Begins contents (InRowInPart t answering name number bytes before.total) before now) (sym table) begun

-- the nodes are looked at so
pub looked_at : (answering : Answering) (bytes : List ℕ) (value : Data) (table : Bool) → is_table answering.shown ≡ table → AreShownAs (asked_look answering) bytes value answering.paths.now
    → AreShownAs (if table then cell_look else look_of answering.showing) bytes value answering.paths.now
looked_at answering bytes value table is are = subst (λ (t : Bool). AreShownAs (if t then cell_look else look_of answering.showing) bytes value answering.paths.now) is are

-- rows are shown where something stands between their cells, and then they have this line
pub shows_rows : (shown : OptionShown) (separator : Separator) → separator_in shown ≡ Some separator → is_table shown ≡ true
shows_rows (Nodes form) separator is = absurd cc
shows_rows Tsv separator is = refl
shows_rows Csv separator is = refl

pub shows_none : (shown : OptionShown) → separator_in shown ≡ None → is_table shown ≡ false
shows_none (Nodes form) is = refl
shows_none Tsv is = absurd cc
shows_none Csv is = absurd cc

pub line_is : (shown : OptionShown) (separator : Separator) (end : LineEnd) (cells : List (List ℕ)) → separator_in shown ≡ Some separator → separated separator end cells ≡ row_line shown end cells
line_is (Nodes form) separator end cells is = absurd cc
line_is Tsv separator end cells is = ap (λ (s : Separator). separated s end cells) (of_some separator Tab is)
  where
    of_some : (s t : Separator) → Some t ≡ Some s → s ≡ t
    of_some s t same = cc
line_is Csv separator end cells is = ap (λ (s : Separator). separated s end cells) (of_some separator Comma is)
  where
    of_some : (s t : Separator) → Some t ≡ Some s → s ≡ t
    of_some s t same = cc

-- the first row, where it is asked for
pub header_is : (answering : Answering) (separator : Separator) (wanted : Bool) → wanted ≡ true → separator_in answering.shown ≡ Some separator
    → separated separator answering.showing.output.end (header_cells answering.heads.file answering.heads.line (texts_asked answering.paths.now)) ≡ header_by answering wanted
header_is answering separator wanted is rows =
    line_is answering.shown separator answering.showing.output.end cells rows
    ∙ sym (ap (λ (w : Bool). if w && is_table answering.shown then row else []) is ∙ ap (λ (t : Bool). if true && t then row else []) (shows_rows answering.shown separator rows))
  where
    cells : List (List ℕ)
    cells = header_cells answering.heads.file answering.heads.line (texts_asked answering.paths.now)

    row : List ℕ
    row = row_line answering.shown answering.showing.output.end cells
