-- Whole paths, and the promises of a parse.
use Rattle.serde_json_path_parser.proofs.Words.{common_steps, Numbers, ◌==◌, encode_utf8_all, all_scalars, chars, IsUtf8, IsCharBoundary, append-nil, length-append, nil_from_length, eqb-true, SegmentKind, Segments, Segment, deepest, Signature, ParseErrorKind, ExpectedRoot, UndefinedFunction, TextAfterPath, NoMemory, IsUndeclared, is_at, begins, Parsed, refusal, read_segments, segment_list, opens_after_root, level, read_path, encodes-chars, encodes-append, scalars-chars, IsCharBoundary-at_seam, take-append_seam, drop-append_seam, IsCharBoundary-start, chars-encodes, Query, query, root, greatest_usize, Refusal, Failure, tree_of, rule_of, signatures_of, AreCalled, Reports, reported, Fails, IsRefused, IsWithin, error_of, is_dollar, NeedsNoMemory, ParsedQuery, IsParse, checked_view, eq-eqb, length-le-encodes, ◌≡◌, ◌≢◌, ℕ, ◌≤◌, ◌↔◌, true, false, List, [], ◌∷◌, ◌++◌, length, drop, Option, Ok, refl, sym, ap, subst, ◌∙◌, arith, ◌+◌, ◌-◌, ◌<◌, take, Some, Err, read_filter, Memory, Refused, Path, OneTreeAtMost}
use Rattle.serde_json_path_parser.proofs.Grammar.LogicalForms.{AreSegmentsText}
use Rattle.serde_json_path_parser.proofs.Grammar.Calls.{level_laws}
use Rattle.serde_json_path_parser.proofs.Grammar.Segments.{segments_outcome, segments_again, same_segments}
use Rattle.serde_json_path_parser.proofs.Printing.QuotedTexts.{scalars_of}
use Rattle.serde_json_path_parser.proofs.Reading.{ok_is, after_one, is_plain, Inner, Stands, IsOutcome, gives, refuses, choose, onward, past_run, stands_so, many_end}
use Rattle.serde_json_path_syntax.specs.declared.checked.Checked.{Checked}
use Rattle.serde_json_path_parser.specs.Accepted.{IsAccepted}

-- ---- whole paths: what is read is well-typed and at most 128 deep, each of those is read, and where a refusal stands

-- where no byte is left, no character is
pub all_read : (rest : List ℕ) (bytes : ℕ) → bytes ≡ length (encode_utf8_all rest) → bytes ≡ 0 → (length rest == 0) ≡ true
all_read rest bytes is none = eq-eqb (length rest) 0 (omega (arith, is, none, length-le-encodes rest))

module _ (rule : Numbers) (signature : List ℕ → Option Signature) where
  -- the segments of a path
  abbrev pub read_path_segments : List ℕ → Parsed (List (SegmentKind × Segment))
  read_path_segments cs = read_segments (read_filter rule signature (level rule signature deepest)) Path cs

  -- where no segment begins after `$`, none is read
  pub none_read : (cs ds rest : List ℕ) (c : ℕ) (ss : List (SegmentKind × Segment)) → begins (λ d. d == 36) cs ≡ true → cs ≡ c ∷ ds → read_path_segments ds ≡ Ok (ss, rest) → opens_after_root cs ≡ false → ss ≡ []
  none_read cs ds rest c ss sign split read none = grind (arith, many_end, ok_is)

  -- ---- each path is read

  pub path_again : (t a : List ℕ) (segs : Segments) → AreSegmentsText rule signature deepest a segs → t ≡ 36 ∷ a → read_path rule signature t ≡ Ok segs
  unfolding read_path
  path_again t a segs h e =
      let again = segments_again rule signature deepest (level rule signature deepest) (level_laws rule signature deepest) Path a segs [] h refl refl in
      let all = ap read_path_segments (sym (append-nil a)) ∙ again in
      ap (read_path rule signature) e ∙ rw all (ap (λ (ss : Segments). Ok ss) (same_segments segs))

-- ---- what a reading gives

-- what is reported of a segment is neither that the sign is missing, nor text after the path, nor want of memory
inner_differs : (signature : List ℕ → Option Signature) (kind other : ParseErrorKind) (rest : List ℕ) → is_plain other ≡ false → UndefinedFunction ≢ other → Inner signature kind rest → kind ≡ other → ⊥
inner_differs signature kind other rest h1 h2 h3 h4 = grind (arith)

module _ (rule : Numbers) (signature : List ℕ → Option Signature) where
  -- what a kind tells of the whole text, and of its rest from the refusal on
  pub record PathTells (cs : List ℕ) (kind : ParseErrorKind) (rest : List ℕ) : Type 0 where
    pub no_memory : kind ≢ NoMemory
    pub root_missing : (kind ≡ ExpectedRoot) ↔ (is_at "$" cs ≡ false)
    pub after : kind ≡ TextAfterPath → (path : List ℕ) × (segs : Segments) × AreSegmentsText rule signature deepest path segs × (cs ≡ 36 ∷ (path ++ rest))
    pub undefined : kind ≡ UndefinedFunction → IsUndeclared signature rest

  in_segment : (cs : List ℕ) (kind : ParseErrorKind) (rest : List ℕ) → is_at "$" cs ≡ true → Inner signature kind rest → PathTells cs kind rest
  in_segment cs kind rest rooted h = grind (arith, inner_differs)

  pub path_outcome : (cs : List ℕ) → IsOutcome (λ segs. (a : List ℕ) × AreSegmentsText rule signature deepest a segs × (cs ≡ 36 ∷ a)) (Stands (PathTells cs) cs) (read_path rule signature cs)
  unfolding read_path
  path_outcome cs = choose (λ sign.
      let begun = after_one 36 cs sign in
      let segments = segments_outcome rule signature deepest (level rule signature deepest) (level_laws rule signature deepest) Path (drop 1 cs) in
      onward (stands_so (λ r s. record { before = 36 ∷ s.before; rest = s.rest; split = begun ∙ ap (λ (l : List ℕ). 36 ∷ l) s.split; left = s.left; tells = in_segment cs r.kind s.rest sign s.tells }) segments) (λ ss _ r.
      let split : cs ≡ 36 ∷ (r.text ++ ss.1) = begun ∙ ap (λ (l : List ℕ). 36 ∷ l) r.split in
      choose (λ e. gives (segment_list ss.0) (r.text, r.is_so, split ∙ ap (λ (l : List ℕ). 36 ∷ (r.text ++ l)) (nil_from_length ss.1 (eqb-true (length ss.1) 0 e)) ∙ ap (λ (l : List ℕ). 36 ∷ l) (append-nil r.text))) (λ e.
      refuses (refusal TextAfterPath Path ss.1) (record {
        before = 36 ∷ r.text;
        rest = ss.1;
        split = split;
        left = refl;
        tells = grind (arith, common_steps);
      })))) (λ none.
      refuses (refusal ExpectedRoot Path cs) (grind (arith, common_steps)))

-- ---- the place in bytes

-- where so many bytes are left a character begins
pub boundary : (text before rest : List ℕ) (left : ℕ) → IsUtf8 text → chars text ≡ before ++ rest → left ≡ length (encode_utf8_all rest)
    → (left ≤ length text) × IsCharBoundary text (length text - left) × (text ≡ encode_utf8_all before ++ encode_utf8_all rest) × (length text - left ≡ length (encode_utf8_all before))
boundary text before rest left u split is =
    let whole : text ≡ encode_utf8_all before ++ encode_utf8_all rest = sym (encodes-chars text u) ∙ ap encode_utf8_all split ∙ encodes-append before rest in
    let scalars : all_scalars rest ≡ true = (scalars_of (chars text) before rest (scalars-chars text u) split).1 in
    let seam : IsCharBoundary text (length (encode_utf8_all before)) = IsCharBoundary-at_seam text (encode_utf8_all before) (encode_utf8_all rest) whole (rest, (scalars, refl)) in
    let sum : length text ≡ length (encode_utf8_all before) + left = ap length whole ∙ length-append (encode_utf8_all before) (encode_utf8_all rest) ∙ ap (λ (n : ℕ). length (encode_utf8_all before) + n) (sym is) in
    (omega (arith, sum), subst (IsCharBoundary text) (omega (arith, sum)) seam, whole, omega (arith, sum))

-- ---- what the whole reading says of a text: the promises of a parse

-- what is read is accepted
accepted : (rule : Numbers) (signature : List ℕ → Option Signature) (cs a : List ℕ) (segs : Segments) → cs ≡ 36 ∷ a → AreSegmentsText rule signature deepest a segs → IsAccepted rule signature cs (query root segs)
accepted rule signature cs a segs e h = record { reads = (a, h.1, e); from_root = refl; typed = h.0.0; within_depth = h.0.1 }

-- an accepted tree is what is read
accepted_read : (rule : Numbers) (signature : List ℕ → Option Signature) (cs : List ℕ) (q : Query) → IsAccepted rule signature cs q
    → (segs : Segments) × (q ≡ query root segs) × (read_path rule signature cs ≡ Ok segs)
accepted_read rule signature cs q h1 = grind (arith, path_again)

-- a text is accepted with one tree at most
pub one_tree_at_most : OneTreeAtMost
one_tree_at_most rule signature text p q h g = grind (arith, accepted_read, ok_is)

-- ---- what needs no memory

-- where nothing is to be kept no segment begins after `$`
needs_none : (cs : List ℕ) → NeedsNoMemory cs → opens_after_root cs ≡ false
needs_none cs h1 = grind (arith, past_run)

-- ---- the text before text that stands after a path

path_before : (text path rest : List ℕ) (left : ℕ) → IsUtf8 text → chars text ≡ 36 ∷ (path ++ rest) → left ≡ length (encode_utf8_all rest)
    → chars (take (length text - left) text) ≡ 36 ∷ path
path_before text path rest left u split is =
    let b = boundary text (36 ∷ path) rest left u split is in
    let front : take (length text - left) text ≡ encode_utf8_all (36 ∷ path) =
    ap (λ (n : ℕ). take n text) b.3 ∙ ap (take (length (encode_utf8_all (36 ∷ path)))) b.2 ∙ take-append_seam (encode_utf8_all (36 ∷ path)) (encode_utf8_all rest) in
    ap chars front ∙ chars-encodes (36 ∷ path) (scalars_of (chars text) (36 ∷ path) rest (scalars-chars text u) split).0

-- ---- the text from a refusal on

text_from : (text before rest : List ℕ) (left : ℕ) → IsUtf8 text → chars text ≡ before ++ rest → left ≡ length (encode_utf8_all rest) → chars (drop (length text - left) text) ≡ rest
text_from text before rest left u split is =
    let b = boundary text before rest left u split is in
    let after : drop (length text - left) text ≡ encode_utf8_all rest =
    ap (λ (n : ℕ). drop n text) b.3 ∙ ap (drop (length (encode_utf8_all before))) b.2 ∙ drop-append_seam (encode_utf8_all before) (encode_utf8_all rest) in
    ap chars after ∙ chars-encodes rest (scalars_of (chars text) before rest (scalars-chars text u) split).1

-- ---- what holds of a refusal

record IsRight (rule : Numbers) (signature : List ℕ → Option Signature) (text : List ℕ) (r : Refusal) : Type 0 where
  no_memory : r.kind ≢ NoMemory
  root_missing : (r.kind ≡ ExpectedRoot) ↔ (begins is_dollar (chars text) ≡ false)
  after : r.kind ≡ TextAfterPath → (q : Query) × IsAccepted rule signature (chars (take (length text - r.left) text)) q
  undefined : r.kind ≡ UndefinedFunction → IsUndeclared signature (chars (drop (length text - r.left) text))
  placed : (r.left ≤ length text) × IsCharBoundary text (length text - r.left)

module _ (rule : Numbers) (signature : List ℕ → Option Signature) (text : List ℕ) (u : IsUtf8 text) where
  right : (r : Refusal) → read_path rule signature (chars text) ≡ Err r → IsRight rule signature text r
  right r e =
      let s = (path_outcome rule signature (chars text)).stands r e in
      let b = boundary text s.before s.rest r.left u s.split s.left in
      record {
        no_memory = s.tells.no_memory;
        root_missing = s.tells.root_missing;
        after = λ e.
            let h = s.tells.after e in (
              query root h.1,
              subst (λ (cs : List ℕ). IsAccepted rule signature cs (query root h.1)) (sym (path_before text h.0 s.rest r.left u h.3 s.left)) (accepted rule signature (36 ∷ h.0) h.0 h.1 refl h.2),
            );
        undefined = λ e. subst (IsUndeclared signature) (sym (text_from text s.before s.rest r.left u s.split s.left)) (s.tells.undefined e);
        placed = (b.0, b.1);
      }

  -- where the refusal stands
  pub within : (s : Failure) (total : ℕ) → total ≡ length text → Fails s (read_path rule signature (chars text)) → IsWithin s total
  within Memory total t h = tt
  within (Refused r) total t h = let k = (right r h).placed.0 in omega (arith, t, k)

  -- ---- the three ends of a parse

  -- want of memory, where something has to be stored
  unstored : (length text < greatest_usize → NeedsNoMemory (chars text) → ⊥) → IsParse rule signature text (Err (error_of Memory 0))
  unstored stores = grind (arith, common_steps, accepted)

  pub too_long : length text ≡ greatest_usize → IsParse rule signature text (Err (error_of Memory 0))
  too_long long = unstored (λ less none. omega (arith, long))

  pub parsed : (short : length text < greatest_usize) (segs : Segments) (checked : Checked) → tree_of checked ≡ query root segs → AreCalled (signatures_of checked) (query root segs) → rule_of checked ≡ rule → read_path rule signature (chars text) ≡ Ok segs → IsParse rule signature text (Ok (checked_view checked))
  parsed short segs checked tree kept ruled e =
      let s = (path_outcome rule signature (chars text)).reads segs e in
      record {
        accepted = subst (IsAccepted rule signature (chars text)) (sym tree) (accepted rule signature (chars text) s.0 segs s.2 s.1);
        kept = subst (AreCalled (signatures_of checked)) (sym tree) kept;
        ruled = ruled;
        only = λ q a. one_tree_at_most rule signature (chars text) q (tree_of checked) a (subst (IsAccepted rule signature (chars text)) (sym tree) (accepted rule signature (chars text) s.0 segs s.2 s.1));
        refused = tt;
        memory = tt;
        spares_memory = λ less none. tt;
        too_long = λ long. absurd (omega (arith, long));
      }

  pub refused : (short : length text < greatest_usize) (s : Failure) (total : ℕ) → Fails s (read_path rule signature (chars text)) → (opens_after_root (chars text) ≡ false → IsRefused s)
      → IsParse rule signature text (Err (error_of s total))
  refused short Memory total h spares = unstored (λ less none. spares (needs_none (chars text) none))
  refused short (Refused r) total h spares = record {
    accepted = tt;
    kept = tt;
    ruled = tt;
    only = tt;
    refused = λ other q a. let f = accepted_read rule signature (chars text) q a in let e : Ok f.0 ≡ Err r = sym f.2 ∙ h in cc;
    memory = λ e. absurd ((right r h).no_memory e);
    spares_memory = λ less none. (right r h).no_memory;
    too_long = λ long. absurd (omega (arith, long));
  }

  -- ---- what is reported at each

  unstored_reported : (length text < greatest_usize → NeedsNoMemory (chars text) → ⊥) → Reports rule signature text (Err (error_of Memory 0))
  unstored_reported stores = grind (arith, IsCharBoundary-start)

  pub too_long_reported : length text ≡ greatest_usize → Reports rule signature text (Err (error_of Memory 0))
  too_long_reported long = unstored_reported (λ less none. omega (arith, long))

  pub parsed_reported : (read : ParsedQuery) (segs : Segments) → read_path rule signature (chars text) ≡ Ok segs → Reports rule signature text (Ok read)
  parsed_reported read segs e =
      let s = (path_outcome rule signature (chars text)).reads segs e in
      (grind (arith, common_steps))

  pub refused_reported : (short : length text < greatest_usize) (s : Failure) (total : ℕ) → total ≡ length text → Fails s (read_path rule signature (chars text)) → (opens_after_root (chars text) ≡ false → IsRefused s)
      → Reports rule signature text (Err (error_of s total))
  refused_reported short Memory total t h spares = unstored_reported (λ less none. spares (needs_none (chars text) none))
  refused_reported short (Refused r) total t h spares =
      let k = right r h in
      let cut : (total - r.left + 1) - 1 ≡ length text - r.left = omega (arith, t) in
      record {
        first = λ other. ap (reported (length text)) h ∙ ap (λ (n : ℕ). Some (record { kind = r.kind; context = r.context; position = n - r.left + 1 })) (sym t);
        missing_root = ((λ e. (short, k.root_missing.0 e)), (λ g. k.root_missing.1 g.1));
        text_after = λ e. subst (λ (n : ℕ). (q : Query) × IsAccepted rule signature (chars (take n text)) q) (sym cut) (k.after e);
        undefined = λ e. subst (λ (n : ℕ). IsUndeclared signature (chars (drop n text))) (sym cut) (k.undefined e);
        position = (omega arith, subst (IsCharBoundary text) (sym cut) k.placed.1);
      }

-- what a parse gives and reports
pub ruleset of_parses = (too_long, parsed, refused, too_long_reported, parsed_reported, refused_reported, within)
