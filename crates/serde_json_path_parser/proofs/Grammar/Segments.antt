-- Selectors, brackets with them, and segments: what is read is in the grammar, what is in the grammar is read, where a refusal stands.
use Rattle.serde_json_path_parser.proofs.Words.{common_steps, Numbers, ℤ, ◌==◌, append-nil, Slice, Selector, slice, index, IsBound, IsSliceStep, IsSlice, false_from_ne_true, begins, is_blank, is_digit, IsBlank, IsInt, Parsed, past_blanks, begins_int, read_bound, read_step, read_slice, read_index_or_slice, read_selector, None, name, wildcard, filter, IsQuote, read_quoted, read_string, Signature, codes, SegmentKind, long_hand, Selectors, no_selectors, selector, ExpectedClosingBracket, ReadSelectors, ReadMoreSelectors, dots_before_bracket, read_next_selector, read_selectors, selector_list, read_bracket, Deeper, AreTypedSelectors, selectors_depth, is_at, length-append, child, descendant, Segments, no_segments, segment, Segment, dot_name, dot_wildcard, is_name_first, is_name_char, IsName, Joined, opens, dots_before_name, many, after_dot, read_name, read_dotted, read_descendant, read_after_dot, read_segment, opens_next, read_next_segment, read_segments, segment_list, ◌≡◌, ◌≤◌, ℕ, inl, inr, true, false, List, [], ◌∷◌, ◌++◌, drop, Option, Some, Ok, refl, sym, ap, subst, ◌∙◌, append_assoc, arith, ◌<◌, length, LongHand, read_filter, Context}
use Rattle.serde_json_path_parser.proofs.Reading.{begins_where, blanks_of, spread, differs, no_blank, past_end, no_longer, begins_not, some_begun, begins_front, begins_differs, whole, front_each, front_begins, front_all, past_run, Spaced, after_one, many_again, Plain, Inner, Outcome, gives, choose, weaker, past_text, past_spaced, along, onward, after_spaced, remade, with_blanks, after_sign, made_spaced, inner, guarded, after, read_spaced, made, many_outcome, Consumes, past_through, begins_other}
use Rattle.serde_json_path_parser.proofs.Grammar.LogicalForms.{DeeperLaws, IsSelectorText, IsSegmentText, ends_selectors, ends_selector, filter_outcome, filter_again, AreSegmentsText}
use Rattle.serde_json_path_parser.proofs.Grammar.Numbers.{int_outcome, int_again, int_not, int_no_blank, int_first}
use Rattle.serde_json_path_parser.proofs.Grammar.Strings.{string_outcome, string_again, of_quote}
use Rattle.serde_json_path_parser.proofs.Rows.{Follows, AreRows, RowLaw, next_consumes, row_outcome, row_again}

-- ---- slices: what a reading gives

pub bound_outcome : (cs : List ℕ) → Outcome (λ t i. IsBound i t) Plain cs (read_bound cs)
bound_outcome cs =
    choose (λ _. onward (int_outcome cs) (λ i _ r. let s = with_blanks IsInt cs i r in gives (Some i.0, past_blanks i.1) (record { text = s.text; is_so = s.is_so; split = s.split }))) (λ _.
    gives (None, cs) (record { text = []; is_so = refl; split = refl }))

-- a bound after a second colon
step_is : (t k : List ℕ) (i : Option ℤ) → IsBlank k → IsBound i t → Spaced (λ t i. IsSliceStep i t) (58 ∷ (k ++ t)) i
step_is t k None blank e = (58 ∷ [], k, inr refl, blank, ap (λ (l : List ℕ). 58 ∷ (k ++ l)) e ∙ ap (λ (l : List ℕ). 58 ∷ l) (append-nil k))
step_is t k (Some i) blank b =
    (58 ∷ (k ++ b.0), b.1, (k, b.0, blank, b.2, refl), b.3, ap (λ (l : List ℕ). 58 ∷ (k ++ l)) b.4 ∙ sym (append_assoc (58 ∷ k) b.0 b.1))

step_outcome : (cs : List ℕ) → Outcome (Spaced (λ t i. IsSliceStep i t)) Plain cs (read_step cs)
step_outcome cs =
    choose (λ e. past_text (58 ∷ blanks_of (drop 1 cs)) (after_sign 58 cs e) (weaker (λ t i b. step_is t (blanks_of (drop 1 cs)) i (front_each is_blank (drop 1 cs)) b) (bound_outcome (past_blanks (drop 1 cs))))) (λ _.
    gives (None, cs) (record { text = []; is_so = ([], [], inl refl, tt, refl); split = refl }))

-- after the first bound and the colon
pub slice_outcome : (start : Option ℤ) (a cs : List ℕ) → IsBound start a → Outcome (Spaced (λ t s. IsSlice s t)) Plain (a ++ (58 ∷ cs)) (read_slice start cs)
slice_outcome start a cs first =
    let k = blanks_of cs in
    past_spaced (a ++ (58 ∷ k)) (ap (λ (l : List ℕ). a ++ (58 ∷ l)) (whole is_blank cs) ∙ sym (append_assoc a (58 ∷ k) (past_blanks cs))) (after_spaced (bound_outcome (past_blanks cs)) (λ end _ b.
    remade (λ step. record { start = start; end = end.0; step = step }) (λ c step h. (a, k, b.text, c, first, front_each is_blank cs, b.is_so, h, append_assoc a (58 ∷ k) (b.text ++ c))) (step_outcome end.1)))

pub position_outcome : (rule : Numbers) (signature : List ℕ → Option Signature) (n : ℕ) (cs : List ℕ) → Outcome (Spaced (IsSelectorText rule signature n)) Plain cs (read_index_or_slice cs)
position_outcome rule signature n cs = onward (int_outcome cs) (λ i _ r.
    let rest = past_blanks i.1 in
    let s = with_blanks IsInt cs i r in
    choose (λ e. along (s.split ∙ ap (λ (l : List ℕ). s.text ++ l) (after_one 58 rest e)) (remade (λ s. slice s) (λ t s is. ((tt, omega arith), is)) (slice_outcome (Some i.0) s.text (drop 1 rest) s.is_so))) (λ _.
    gives _ (record { text = s.text; is_so = (s.is_so.0, s.is_so.1, ((tt, omega arith), s.is_so.2), s.is_so.3, s.is_so.4); split = s.split })))

-- ---- each is read again

-- after the blanks stands no integer
abbrev Ends : List ℕ → Type 0
Ends rest = begins begins_int (past_blanks rest) ≡ false

closed_ends : (rest : List ℕ) → Follows ends_selector rest → Ends rest
closed_ends rest h = begins_where ends_selector begins_int false (past_blanks rest) (λ c e. grind (arith, e)) h

no_colon : (rest : List ℕ) → Follows ends_selector rest → begins (λ c. c == 58) (past_blanks rest) ≡ false
no_colon rest h = begins_where ends_selector (λ c. c == 58) false (past_blanks rest) (λ c e. grind (arith, e)) h

-- no digit stands at once after an integer
ends_digits : (rest : List ℕ) → Ends rest → begins is_digit rest ≡ false
ends_digits rest h1 = grind (arith, differs, false_from_ne_true, no_blank)

bound_again : (e : Option ℤ) (t rest : List ℕ) → IsBound e t → Ends rest → read_bound (past_blanks (t ++ rest)) ≡ Ok (e, past_blanks rest)
bound_again e t rest b ends = grind (arith, common_steps, append_assoc, past_end, int_no_blank, ends_digits, past_through, int_first, int_again)

step_again : (e : Option ℤ) (t rest : List ℕ) → IsSliceStep e t → Follows ends_selector rest → read_step (past_blanks (t ++ rest)) ≡ Ok (e, past_blanks rest)
step_again None t rest (inl e) closes = rw (e, no_colon rest closes) refl
step_again None t rest (inr e) closes = rw e (bound_again None [] rest refl (closed_ends rest closes))
step_again (Some i) t rest (k, a, blank, is, e) closes =
    rw (e, append_assoc k a rest, past_through is_blank k (a ++ rest) blank) (bound_again (Some i) a rest (a, [], is, tt, sym (append-nil a)) (closed_ends rest closes))

step_ends : (e : Option ℤ) (t rest : List ℕ) → IsSliceStep e t → Follows ends_selector rest → Ends (t ++ rest)
step_ends e t rest h1 h2 = grind (arith, closed_ends)

-- after the first colon
parts_again : (start end step : Option ℤ) (k b c rest : List ℕ) → IsBlank k → IsBound end b → IsSliceStep step c → Follows ends_selector rest
    → read_slice start (k ++ (b ++ (c ++ rest))) ≡ Ok (record { start = start; end = end; step = step }, past_blanks rest)
parts_again start end step k b c rest blank second third closes = grind (arith, bound_again, past_through, step_again, step_ends)

begun_again : (t k : List ℕ) (i : ℤ) (rest : List ℕ) (s : Slice) (after : List ℕ) → IsInt t i → IsBlank k → read_slice (Some i) rest ≡ Ok (s, after) → read_index_or_slice (t ++ (k ++ (58 ∷ rest))) ≡ Ok (slice s, after)
begun_again t k i rest s after is blank read = grind (arith, past_through, int_again, ends_digits)

-- no blank begins a slice
pub slice_no_blank : (t : List ℕ) (s : Slice) (rest : List ℕ) → IsSlice s t → begins is_blank (t ++ rest) ≡ false
slice_no_blank t s rest h1 = grind (arith, append_assoc, int_no_blank)

-- the same as selectors
module _ (read_filter : List ℕ → Parsed Selector) where
  at_position : (t : List ℕ) (i : ℤ) (rest : List ℕ) → IsInt t i → read_selector read_filter (t ++ rest) ≡ read_index_or_slice (t ++ rest)
  at_position t i rest is = rw (int_not 39 t i rest refl is, int_not 34 t i rest refl is, int_not 42 t i rest refl is, int_not 58 t i rest refl is, int_not 63 t i rest refl is) refl

  pub index_again : (t : List ℕ) (i : ℤ) (rest : List ℕ) → IsInt t i → Follows ends_selector rest → read_selector read_filter (t ++ rest) ≡ Ok (index i, past_blanks rest)
  index_again t i rest is closes = at_position t i rest is ∙ rw (int_again t i rest is (ends_digits rest (closed_ends rest closes)), no_colon rest closes) refl

  pub slice_again : (t : List ℕ) (s : Slice) (rest : List ℕ) → IsSlice s t → Follows ends_selector rest → read_selector read_filter (t ++ rest) ≡ Ok (slice s, past_blanks rest)
  slice_again t s rest (a, k, b, c, first, blank, second, third, e) closes = by_start s.start refl first
    where
      parts : (start : Option ℤ) → s.start ≡ start → read_slice start (k ++ (b ++ (c ++ rest))) ≡ Ok (s, past_blanks rest)
      parts start same = subst (λ start. read_slice start (k ++ (b ++ (c ++ rest))) ≡ Ok (s, past_blanks rest)) same (parts_again s.start s.end s.step k b c rest blank second third closes)

      regroup : (a : List ℕ) → (a ++ (58 ∷ (k ++ (b ++ c)))) ++ rest ≡ a ++ (58 ∷ (k ++ (b ++ (c ++ rest))))
      regroup a = simp append_assoc refl

      here : t ++ rest ≡ a ++ (58 ∷ (k ++ (b ++ (c ++ rest))))
      here = ap (λ (l : List ℕ). l ++ rest) e ∙ regroup a

      by_start : (start : Option ℤ) → s.start ≡ start → IsBound start a → read_selector read_filter (t ++ rest) ≡ Ok (slice s, past_blanks rest)
      by_start None same none =
          ap (read_selector read_filter) (here ∙ ap (λ (l : List ℕ). l ++ (58 ∷ (k ++ (b ++ (c ++ rest))))) none) ∙ rw (parts None same) refl
      by_start (Some i) same (n, j, is, gap, text) =
          let tail = 58 ∷ (k ++ (b ++ (c ++ rest))) in
          let begun : t ++ rest ≡ n ++ (j ++ tail) = here ∙ ap (λ (l : List ℕ). l ++ tail) text ∙ append_assoc n j tail in
          ap (read_selector read_filter) begun ∙ at_position n i (j ++ tail) is ∙ begun_again n j i (k ++ (b ++ (c ++ rest))) s (past_blanks rest) is gap (parts (Some i) same)

-- ---- member names

name_outcome : (at : Context) (cs : List ℕ) → Outcome IsName Plain cs (read_name at cs)
name_outcome at cs = grind (arith, guarded, front_begins, front_each, gives, whole)

name_again : (here : Context) (t n rest : List ℕ) → IsName t n → begins is_name_char rest ≡ false → read_name here (t ++ rest) ≡ Ok (n, rest)
name_again here t n rest h e = rw (begins_front is_name_first true t rest (some_begun is_name_first t h.first) h.first, front_all is_name_char t rest h.passes e, past_run is_name_char t rest h.passes e, ← h.bytes_of) refl

-- a name begins with no character that may not begin it
name_begins_not : (k : ℕ) (t n rest : List ℕ) → is_name_first k ≡ false → IsName t n → begins (λ c. c == k) (t ++ rest) ≡ false
name_begins_not k t n rest none h = begins_differs is_name_first k (t ++ rest) none (begins_front is_name_first true t rest (some_begun is_name_first t h.first) h.first)

dotted_again : (here : Context) (t n rest : List ℕ) → IsName t n → begins is_name_char rest ≡ false → read_dotted here (t ++ rest) ≡ Ok (dot_name n, rest)
dotted_again here t n rest h e = rw (name_begins_not 42 t n rest refl h, name_again here t n rest h e) refl

abbrev pub segments_in : Segments → List (SegmentKind × Segment)
segments_in no_segments = []
segments_in (segment kind seg more) = (kind, seg) ∷ segments_in more

pub same_segments : (segs : Segments) → segment_list (segments_in segs) ≡ segs
same_segments no_segments = refl
same_segments (segment kind seg more) = ap (segment kind seg) (same_segments more)

-- ---- selectors and brackets: what a reading gives

module _ (rule : Numbers) (signature : List ℕ → Option Signature) (n : ℕ) (deeper : Deeper) (laws : DeeperLaws rule signature n deeper) where
  abbrev filters : List ℕ → Parsed Selector
  filters cs = read_filter rule signature deeper cs

  quoted_outcome : (quote : ℕ) (cs : List ℕ) → IsQuote quote → begins (λ c. c == quote) cs ≡ true → Outcome (Spaced (IsSelectorText rule signature n)) (Inner signature) cs (read_quoted quote (drop 1 cs))
  unfolding read_quoted
  quoted_outcome quote cs is e =
      inner (along (after_one quote cs e) (made_spaced (λ bytes. name bytes) (λ t bytes h. ((tt, omega arith), h)) (string_outcome quote is (drop 1 cs))))

  pub selector_outcome : (cs : List ℕ) → Outcome (Spaced (IsSelectorText rule signature n)) (Inner signature) cs (read_selector filters cs)
  selector_outcome cs =
      choose (quoted_outcome 39 cs (inl refl)) (λ _.
      choose (quoted_outcome 34 cs (inr refl)) (λ _.
      choose (λ e. read_spaced (wildcard, drop 1 cs) (record { text = 42 ∷ []; is_so = ((tt, omega arith), refl); split = after_one 42 cs e })) (λ _.
      choose (λ e. inner (along (after_one 58 cs e) (remade (λ s. slice s) (λ t s is. ((tt, omega arith), is)) (slice_outcome None [] (drop 1 cs) refl)))) (λ _.
      choose (filter_outcome rule signature n deeper laws cs) (λ _. inner (position_outcome rule signature n cs))))))

  -- ---- each selector is read

  quoted_again : (quote : ℕ) (cs bytes rest : List ℕ) → IsQuote quote → read_string quote cs ≡ Ok (bytes, rest) → read_selector filters (quote ∷ cs) ≡ Ok (name bytes, past_blanks rest)
  unfolding read_quoted
  quoted_again quote cs bytes rest is e = of_quote (λ q. read_string q cs ≡ Ok (bytes, rest) → read_selector filters (q ∷ cs) ≡ Ok (name bytes, past_blanks rest)) (λ e. rw e refl) (λ e. rw e refl) quote is e

  pub selector_again : (t : List ℕ) (sel : Selector) (rest : List ℕ) → IsSelectorText rule signature n t sel → Follows ends_selector rest → read_selector filters (t ++ rest) ≡ Ok (sel, past_blanks rest)
  selector_again t (name bytes) rest h e =
      let s = string_again t bytes rest h.1 in
      rw s.3 (quoted_again s.0 (s.1 ++ rest) bytes rest s.2 s.4)
  selector_again t wildcard rest h e = ap (λ (l : List ℕ). read_selector filters (l ++ rest)) h.1
  selector_again t (index i) rest h e = index_again filters t i rest h.1 e
  selector_again t (slice s) rest h e = slice_again filters t s rest h.1 e
  selector_again t (filter f) rest (good, (k, a, blank, is, same)) e =
      ap (λ (l : List ℕ). read_selector filters (l ++ rest)) same ∙ ap (λ (l : List ℕ). filters (l ++ rest)) (sym same) ∙ filter_again rule signature n deeper laws t f rest (good, (k, a, blank, is, same)) e

  begins_no_blank : (t : List ℕ) (sel : Selector) (rest : List ℕ) → IsSelectorText rule signature n t sel → begins is_blank (t ++ rest) ≡ false
  begins_no_blank t (name bytes) rest h = grind (arith, common_steps, string_again, of_quote)
  begins_no_blank t wildcard rest h = ap (λ (l : List ℕ). begins is_blank (l ++ rest)) h.1
  begins_no_blank t (index i) rest h = int_no_blank t i rest h.1
  begins_no_blank t (slice s) rest h = slice_no_blank t s rest h.1
  begins_no_blank t (filter f) rest h = ap (λ (l : List ℕ). begins is_blank (l ++ rest)) h.1.4

  -- ---- the selectors of a bracket

  selector_row : RowLaw signature 44 [] (IsSelectorText rule signature n) (read_selector filters) ends_selectors
  selector_row = record { outcome = selector_outcome; again = selector_again; starts = begins_no_blank; sign_no_blank = refl; sign_no_end = refl }

  pub next_selector_consumes : Consumes (is_at ",") (read_next_selector filters)
  next_selector_consumes = next_consumes selector_row

  abbrev AreTyped : Selectors → Type 0
  AreTyped sels = AreTypedSelectors signature sels × (selectors_depth sels ≤ n)

  more_selectors : (sels : List Selector) (t : List ℕ) → AreRows (codes ",") (IsSelectorText rule signature n) t sels → AreTyped (selector_list sels) × ReadMoreSelectors rule (selector_list sels) t
  more_selectors [] t h = ((tt, omega arith), h)
  more_selectors (sel ∷ sels) t (s, a, c, sign, is, rest, e) =
      let more = more_selectors sels c rest in
      (((is.0.0, more.0.0), omega (arith, is.0.1, more.0.1)), (s, a, c, sign, is.1, more.1, e))

  selectors_outcome : (cs : List ℕ) → Outcome (Spaced (λ t sels. AreTyped (selector_list sels) × ReadSelectors rule (selector_list sels) t)) (Inner signature) (past_blanks cs) (read_selectors filters cs)
  selectors_outcome cs = onward (selector_outcome (past_blanks cs)) (λ s _ first.
      row_outcome selector_row (λ sels. sels) (λ sel sels t c is rows.
      let more = more_selectors sels c rows in
      (((is.0.0, more.0.0), omega (arith, is.0.1, more.0.1)), (t, c, is.1, more.1, refl))) (past_blanks cs) s first)

  selector_rows : (sels : Selectors) (t : List ℕ) → AreTyped sels → ReadMoreSelectors rule sels t → (xs : List Selector) × (selector_list xs ≡ sels) × AreRows (codes ",") (IsSelectorText rule signature n) t xs
  selector_rows no_selectors t good h = ([], refl, h)
  selector_rows (selector sel more) t good (s, a, c, sign, is, others, e) =
      let rest = selector_rows more c (good.0.1, omega (arith, good.1)) others in
      (sel ∷ rest.0, ap (selector sel) rest.1, (s, a, c, sign, ((good.0.0, omega (arith, good.1)), is), rest.2, e))

  -- ---- the bracket

  pub bracket_outcome : (kind : SegmentKind) (cs : List ℕ) → Outcome (IsSegmentText rule signature n kind) (Inner signature) (dots_before_bracket kind ++ (91 ∷ cs)) (read_bracket filters cs)
  bracket_outcome kind cs =
      let dots = dots_before_bracket kind in
      let j = blanks_of cs in
      past_text (dots ++ (91 ∷ j)) (ap (λ (l : List ℕ). dots ++ (91 ∷ l)) (whole is_blank cs) ∙ sym (append_assoc dots (91 ∷ j) (past_blanks cs))) (after (selectors_outcome cs) (λ ss _ r.
      let a = r.is_so.0 in
      let k = r.is_so.1 in
      guarded ExpectedClosingBracket LongHand (inl refl) (λ e. gives (long_hand (selector_list ss.0), drop 1 ss.1) (record {
        text = 93 ∷ [];
        is_so = (
          r.is_so.2.0,
          (
            j,
            a,
            k,
            front_each is_blank cs,
            r.is_so.2.1,
            r.is_so.3,
            ap (λ (l : List ℕ). (dots ++ (91 ∷ j)) ++ (l ++ 93 ∷ [])) r.is_so.4 ∙ append_assoc dots (91 ∷ j) ((a ++ k) ++ 93 ∷ []) ∙ ap (λ (l : List ℕ). dots ++ (91 ∷ (j ++ l))) (append_assoc a k (93 ∷ [])),
          ),
        );
        split = after_one 93 ss.1 e;
      }))))

  -- after `[`
  pub bracket_again : (sels : Selectors) (j t k rest : List ℕ) → IsBlank j → ReadSelectors rule sels t → IsBlank k → AreTyped sels → read_bracket filters ((j ++ (t ++ (k ++ 93 ∷ []))) ++ rest) ≡ Ok (long_hand sels, rest)
  bracket_again no_selectors j t k rest before is after good = absurd is
  bracket_again (selector sel more) j t k rest before (a, c, is, others, e) after good =
      let closing = k ++ (93 ∷ rest) in
      let closed : past_blanks closing ≡ 93 ∷ rest = past_run is_blank k (93 ∷ rest) after refl in
      let first : IsSelectorText rule signature n a sel = ((good.0.0, omega (arith, good.1)), is) in
      let rows = selector_rows more c (good.0.1, omega (arith, good.1)) others in
      let begun : past_blanks (j ++ (t ++ closing)) ≡ t ++ closing =
      rw (e, append_assoc a c closing) (past_run is_blank j (a ++ (c ++ closing)) before (begins_no_blank a sel (c ++ closing) first)) in
      let read = row_again selector_row (λ sels. sels) sel rows.0 t a c closing first rows.2 e (ap (begins ends_selectors) closed) in
      ap (read_bracket filters) (spread j t k (codes "]") rest) ∙ rw (begun, read, closed, rows.1) refl

  -- ---- segments that stand here

  module _ (here : Context) where
    -- ---- after the dots

    dotted_outcome : (kind : SegmentKind) (at : Context) (cs : List ℕ) → Outcome (IsSegmentText rule signature n kind) Plain (dots_before_name kind ++ cs) (read_dotted at cs)
    dotted_outcome kind at cs =
        past_text (dots_before_name kind) refl
        (choose (λ e. gives (dot_wildcard, drop 1 cs) (record { text = 42 ∷ []; is_so = ((tt, omega arith), refl); split = after_one 42 cs e })) (λ _. made (λ n. dot_name n) (λ t n is. ((tt, omega arith), (t, is, refl))) (name_outcome at cs)))

    descendant_outcome : (cs : List ℕ) → Outcome (IsSegmentText rule signature n descendant) (Inner signature) (46 ∷ 46 ∷ cs) (read_descendant filters here cs)
    descendant_outcome cs =
        choose (λ e. along (ap (λ (l : List ℕ). 46 ∷ 46 ∷ l) (after_one 91 cs e)) (bracket_outcome descendant (drop 1 cs))) (λ _. inner (dotted_outcome descendant here cs))

    -- ---- segments

    -- a segment of its kind
    abbrev pub IsItem : List ℕ → (SegmentKind × Segment) → Type 0
    IsItem t x = IsSegmentText rule signature n x.0 t x.1

    dot_outcome : (cs : List ℕ) → Outcome IsItem (Inner signature) (46 ∷ cs) (read_after_dot filters here cs)
    dot_outcome cs =
        choose (λ e. along (ap (λ (l : List ℕ). 46 ∷ l) (after_one 46 cs e)) (made (λ s. (descendant, s)) (λ t s is. is) (descendant_outcome (drop 1 cs)))) (λ _.
        made (λ s. (child, s)) (λ t s is. is) (inner (dotted_outcome child (after_dot here) cs)))

    segment_outcome : (cs : List ℕ) → begins opens cs ≡ true → Outcome IsItem (Inner signature) cs (read_segment filters here cs)
    segment_outcome cs o =
        choose (λ e. along (after_one 46 cs e) (dot_outcome (drop 1 cs))) (λ e.
        along (after_one 91 cs (begins_other 46 91 cs o e)) (made (λ s. (child, s)) (λ t s is. is) (bracket_outcome child (drop 1 cs))))

    -- blanks and a segment
    abbrev pub IsNextItem : List ℕ → (SegmentKind × Segment) → Type 0
    IsNextItem t x = (k a : List ℕ) × IsBlank k × IsItem a x × (t ≡ k ++ a)

    next_segment_outcome : (cs : List ℕ) → opens_next cs ≡ true → Outcome IsNextItem (Inner signature) cs (read_next_segment filters here cs)
    next_segment_outcome cs o = past_text (blanks_of cs) (whole is_blank cs) (weaker (λ t x is. (blanks_of cs, t, front_each is_blank cs, is, refl)) (segment_outcome (past_blanks cs) o))

    -- ---- how a segment's text begins

    item_begins : (t : List ℕ) (x : SegmentKind × Segment) (rest : List ℕ) → IsItem t x → begins opens (t ++ rest) ≡ true
    item_begins t (child, dot_name n) rest h = ap (λ (l : List ℕ). begins opens (l ++ rest)) h.1.2
    item_begins t (descendant, dot_name n) rest h = ap (λ (l : List ℕ). begins opens (l ++ rest)) h.1.2
    item_begins t (child, dot_wildcard) rest h = ap (λ (l : List ℕ). begins opens (l ++ rest)) h.1
    item_begins t (descendant, dot_wildcard) rest h = ap (λ (l : List ℕ). begins opens (l ++ rest)) h.1
    item_begins t (child, long_hand sels) rest h = ap (λ (l : List ℕ). begins opens (l ++ rest)) h.1.6
    item_begins t (descendant, long_hand sels) rest h = ap (λ (l : List ℕ). begins opens (l ++ rest)) h.1.6

    past_next : (t : List ℕ) (x : SegmentKind × Segment) (rest : List ℕ) → (h : IsNextItem t x) → past_blanks (t ++ rest) ≡ h.1 ++ rest
    past_next t x rest (k, a, blank, is, e) =
        ap (λ (l : List ℕ). past_blanks (l ++ rest)) e ∙ ap past_blanks (append_assoc k a rest)
        ∙ past_run is_blank k (a ++ rest) blank (begins_where opens is_blank false (a ++ rest) (λ c o. no_blank opens c refl refl refl refl o) (item_begins a x rest is))

    next_segment_begins : (t : List ℕ) (x : SegmentKind × Segment) (rest : List ℕ) → IsNextItem t x → opens_next (t ++ rest) ≡ true
    next_segment_begins t x rest h = ap (begins opens) (past_next t x rest h) ∙ item_begins h.1 x rest h.3

    -- a member name ends before it
    next_stops : (t : List ℕ) (x : SegmentKind × Segment) (rest : List ℕ) → IsNextItem t x → begins is_name_char (t ++ rest) ≡ false
    next_stops t x rest (k, a, blank, is, e) =
        ap (λ (l : List ℕ). begins is_name_char (l ++ rest)) e ∙ ap (begins is_name_char) (append_assoc k a rest)
        ∙ begins_not is_name_char k (a ++ rest) (λ c w. let small : c < 33 = grind (arith, w) in grind (arith, small)) blank (begins_where opens is_name_char false (a ++ rest) (λ c o. grind (arith, o)) (item_begins a x rest is))

    -- ---- each segment is read

    segment_again : (t : List ℕ) (x : SegmentKind × Segment) (rest : List ℕ) → IsItem t x → begins is_name_char rest ≡ false → read_segment filters here (t ++ rest) ≡ Ok (x, rest)
    segment_again t (child, dot_name n) rest h e = rw (h.1.2, name_begins_not 46 h.1.0 n rest refl h.1.1, dotted_again (after_dot here) h.1.0 n rest h.1.1 e) refl
    segment_again t (descendant, dot_name n) rest h e = rw (h.1.2, name_begins_not 91 h.1.0 n rest refl h.1.1, dotted_again here h.1.0 n rest h.1.1 e) refl
    segment_again t (child, dot_wildcard) rest h e = rw h.1 refl
    segment_again t (descendant, dot_wildcard) rest h e = rw h.1 refl
    segment_again t (child, long_hand sels) rest h e = rw (h.1.6, bracket_again sels h.1.0 h.1.1 h.1.2 rest h.1.3 h.1.4 h.1.5 h.0) refl
    segment_again t (descendant, long_hand sels) rest h e = rw (h.1.6, bracket_again sels h.1.0 h.1.1 h.1.2 rest h.1.3 h.1.4 h.1.5 h.0) refl

    next_again : (t : List ℕ) (x : SegmentKind × Segment) (rest : List ℕ) → IsNextItem t x → begins is_name_char rest ≡ false → read_next_segment filters here (t ++ rest) ≡ Ok (x, rest)
    next_again t x rest h e = ap (read_segment filters here) (past_next t x rest h) ∙ segment_again h.1 x rest h.3 e

    -- ---- all segments

    pub segment_shorter : (cs rest : List ℕ) (x : SegmentKind × Segment) → begins opens cs ≡ true → read_segment filters here cs ≡ Ok (x, rest) → length rest < length cs
    segment_shorter cs rest x o e =
        let r = (segment_outcome cs o).reads (x, rest) e in
        omega (arith, ap length r.split, length-append r.text rest, some_begun opens (r.text ++ []) (item_begins r.text x [] r.is_so), length-append r.text [])

    pub next_segment_consumes : Consumes opens_next (read_next_segment filters here)
    next_segment_consumes = record {
      shorter = λ cs rest x o e. omega (arith, segment_shorter (past_blanks cs) rest x o e, no_longer cs);
      some = λ cs o. omega (arith, some_begun opens (past_blanks cs) o, no_longer cs);
    }

    listed : (t : List ℕ) (ss : List (SegmentKind × Segment)) → Joined IsNextItem t ss → AreSegmentsText rule signature n t (segment_list ss)
    listed t [] h = ((tt, omega arith), h)
    listed t (x ∷ ss) h =
        let rest = listed h.1 ss h.3 in
        let first = h.2 in grind (arith, common_steps, append_assoc)

    pub segments_outcome : (cs : List ℕ) → Outcome (λ t (ss : List (SegmentKind × Segment)). AreSegmentsText rule signature n t (segment_list ss)) (Inner signature) cs (read_segments filters here cs)
    unfolding many
    segments_outcome cs = weaker listed (many_outcome IsNextItem (Inner signature) opens_next (read_next_segment filters here) next_segment_outcome (length cs) cs)

    are_joined : (t : List ℕ) (segs : Segments) → AreSegmentsText rule signature n t segs → Joined IsNextItem t (segments_in segs)
    are_joined t no_segments h = h.1
    are_joined t (segment kind seg more) (good, (k, a, b, blank, is, rest, e)) =
        (k ++ a, b, (k, a, blank, ((good.0.0, omega (arith, good.1)), is), refl), are_joined b more ((good.0.1, omega (arith, good.1)), rest), e ∙ sym (append_assoc k a b))

    pub segments_again : (t : List ℕ) (segs : Segments) (rest : List ℕ) → AreSegmentsText rule signature n t segs → begins is_name_char rest ≡ false → opens_next rest ≡ false → read_segments filters here (t ++ rest) ≡ Ok (segments_in segs, rest)
    segments_again t segs rest h s e =
        many_again (record { consumes = next_segment_consumes; again = next_again; starts = next_segment_begins; failures = next_stops }) t (segments_in segs) rest (are_joined t segs h) s e
