-- What is good at a level, and its texts: what may follow an operand or an expression, how each begins, and filters by what holds one level deeper.
use Rattle.serde_json_path_parser.proofs.Words.{common_steps, Numbers, comparable_is, ◌==◌, ◌||◌, Segments, no_segments, segment, Segment, Selector, filter, LogicalOr, Signature, is_at, begins, ReadsSelector, past_blanks, Query, query, child, descendant, Call, call, Arguments, IsSingularSegment, AreSingular, IsSingular, and_parts, IsTyped, AreTypedSegments, IsTypedSegment, IsTypedSelector, IsTypedOr, IsTypedCall, depth, segments_depth, segment_depth, selector_depth, or_depth, call_depth, IsBlank, IsFunctionName, IsLiteral, Reads, ReadsOr, ReadsCall, ReadArguments, byte_count, Operand, literal, called, is_singular_segment, are_singular, is_singular, Deeper, IsTypedComparable, IsTypedAnd, ReadsAnd, IsTypedBasic, ReadsOperand, operand_depth, basic_depth, LogicalAnd, ReadsBasic, Basic, and_depth, root, current, no_or, or, no_and, and, paren, relation, test, queried, Literal, is_blank, is_digit, is_small_letter, SegmentKind, ReadSegments, ReadsSegment, ◌≡◌, ℕ, true, List, [], ◌++◌, Option, Ok, ◌+◌, ◌≤◌, Bool, ◌∷◌, refl, arith, false, ap, ◌∙◌, append_assoc, drop, read_filter, begins_test, IsTypedOperand, Kind, of_logical}
use Rattle.serde_json_path_parser.proofs.Reading.{Inner, Outcome, Past, remade, after_sign, Spaced, some_begun, begins_front, begins_where, no_blank, blanks_of, past_run, front_each}
use Rattle.serde_json_path_parser.proofs.Rows.{Follows}
use Rattle.serde_json_path_parser.proofs.Grammar.Numerals.{number_first}
use Rattle.serde_json_path_parser.proofs.Grammar.Strings.{string_again, of_quote}

-- ---- what may follow, after blanks

-- the selectors of a bracket: `]`
abbrev pub ends_selectors : ℕ → Bool
ends_selectors c = c == 93

-- a selector: `,` too
abbrev pub ends_selector : ℕ → Bool
ends_selector c = c == 44 || ends_selectors c

-- an expression: `)`, `,` or `]`
abbrev pub ends_or : ℕ → Bool
ends_or c = c == 41 || c == 44 || c == 93

-- what is joined by `&&`: `||` too
abbrev pub ends_and : ℕ → Bool
ends_and c = c == 124 || ends_or c

-- a basic expression: `&&` too
abbrev pub ends_basic : ℕ → Bool
ends_basic c = c == 38 || ends_and c

-- an operand: a comparison operator too
abbrev pub ends_operand : ℕ → Bool
ends_operand c = c == 61 || c == 33 || c == 60 || c == 62 || ends_basic c

-- ---- what is good, at a level where so many filters, parentheses and calls may stand within each other

module _ (signature : List ℕ → Option Signature) (n : ℕ) where
  -- in a filter or a parenthesis
  abbrev pub IsGoodInside : LogicalOr → Type 0
  IsGoodInside e = IsTypedOr signature e × (or_depth e + 1 ≤ n)

  abbrev pub IsGoodQuery : Query → Type 0
  IsGoodQuery q = IsTyped signature q × (depth q ≤ n)

  abbrev pub IsGoodCall : Call → Type 0
  IsGoodCall c = IsTypedCall signature c × (call_depth c ≤ n)

  abbrev pub IsGoodOperand : Operand → Type 0
  IsGoodOperand (literal l) = Unit {0}
  IsGoodOperand (queried q) = IsGoodQuery q
  IsGoodOperand (called c) = IsGoodCall c

  -- what some parameter takes is good
  pub typed_good : (o : Operand) (kind : Kind) → IsTypedOperand signature o kind → operand_depth o ≤ n → IsGoodOperand o
  typed_good o kind h1 h2 = grind (arith)

-- ---- texts of what is good

module _ (rule : Numbers) (signature : List ℕ → Option Signature) (n : ℕ) where
  abbrev pub IsOperandText : List ℕ → Operand → Type 0
  IsOperandText t o = IsGoodOperand signature n o × ReadsOperand rule o t

  abbrev pub IsComparableText : List ℕ → Operand → Type 0
  IsComparableText t a = (IsTypedComparable signature a × (operand_depth a ≤ n)) × ReadsOperand rule a t

  abbrev pub IsBasicText : List ℕ → Basic → Type 0
  IsBasicText t b = (IsTypedBasic signature b × (basic_depth b ≤ n)) × ReadsBasic rule b t

  abbrev pub IsAndText : List ℕ → LogicalAnd → Type 0
  IsAndText t e = (IsTypedAnd signature e × (and_depth e ≤ n)) × ReadsAnd rule e t

  abbrev pub IsOrText : List ℕ → LogicalOr → Type 0
  IsOrText t e = (IsTypedOr signature e × (or_depth e ≤ n)) × ReadsOr rule e t

  abbrev pub IsSelectorText : List ℕ → Selector → Type 0
  IsSelectorText t sel = (IsTypedSelector signature sel × (selector_depth sel ≤ n)) × ReadsSelector rule sel t

  abbrev pub IsSegmentText : SegmentKind → List ℕ → Segment → Type 0
  IsSegmentText kind t seg = (IsTypedSegment signature seg × (segment_depth seg ≤ n)) × ReadsSegment rule seg kind t

  abbrev pub AreSegmentsText : List ℕ → Segments → Type 0
  AreSegmentsText t segs = (AreTypedSegments signature segs × (segments_depth segs ≤ n)) × ReadSegments rule segs t

  abbrev pub IsInsideText : List ℕ → LogicalOr → Type 0
  IsInsideText t e = IsGoodInside signature n e × ReadsOr rule e t

  abbrev pub IsCallText : List ℕ → Call → Type 0
  IsCallText t c = IsGoodCall signature n c × ReadsCall rule c t

-- ---- how filters, parentheses and calls are read at such a level

-- What is read is good and in the grammar, and a refusal stands from where they begin on; and what is good is read.
pub record DeeperLaws (rule : Numbers) (signature : List ℕ → Option Signature) (n : ℕ) (deeper : Deeper) : Type 0 where
  pub inside_outcome : (before start cs : List ℕ) → start ≡ before ++ cs → Outcome (Spaced (Past before (IsInsideText rule signature n))) (Inner signature) start (deeper.expression (byte_count start) cs)
  pub inside_again : (start t : List ℕ) (e : LogicalOr) (rest : List ℕ) → IsGoodInside signature n e → ReadsOr rule e t → Follows ends_or rest → deeper.expression (byte_count start) (t ++ rest) ≡ Ok (e, past_blanks rest)
  pub call_outcome : (start f cs : List ℕ) → IsFunctionName f f → start ≡ f ++ (40 ∷ cs) → Outcome (Spaced (IsCallText rule signature n)) (Inner signature) start (deeper.call_of (byte_count start) f cs)
  pub call_again : (start f : List ℕ) (args : Arguments) (j a k rest : List ℕ) → IsGoodCall signature n (call f args) → IsBlank j → ReadArguments rule args a → IsBlank k
      → deeper.call_of (byte_count start) f ((j ++ (a ++ (k ++ 41 ∷ []))) ++ rest) ≡ Ok (call f args, past_blanks rest)

-- ---- singular queries

singular_is : (seg : Segment) → is_singular_segment seg ≡ true → IsSingularSegment seg
singular_is seg h1 = grind (arith)

singular_segments : (segs : Segments) → are_singular segs ≡ true → AreSingular segs
singular_segments no_segments e = tt
singular_segments (segment child seg more) e = let h = and_parts _ _ e in (singular_is seg h.0, singular_segments more h.1)
singular_segments (segment descendant seg more) e = absurd cc

pub singular_query : (q : Query) → is_singular q ≡ true → IsSingular q
singular_query (query kind segs) e = singular_segments segs e

pub query_singular : (q : Query) → IsSingular q → is_singular q ≡ true
query_singular q h = comparable_is (queried q) h

-- ---- how operands and logical expressions begin

-- a quote, `@`, `$`, a small letter, a digit or `-`
abbrev pub begins_operand : ℕ → Bool
begins_operand c = c == 39 || c == 34 || c == 64 || c == 36 || is_small_letter c || c == 45 || is_digit c

-- `(` and `!` too
abbrev pub begins_expression : ℕ → Bool
begins_expression c = c == 40 || c == 33 || begins_operand c

literal_begins : (rule : Numbers) (l : Literal) (t rest : List ℕ) → IsLiteral rule l t → begins begins_operand (t ++ rest) ≡ true
literal_begins rule l t rest h1 = grind (arith, number_first, of_quote, string_again)

query_begins : (rule : Numbers) (q : Query) (t rest : List ℕ) → Reads rule q t → begins begins_test (t ++ rest) ≡ true
query_begins rule (query root segs) t rest h = ap (λ (x : List ℕ). begins begins_test (x ++ rest)) h.2
query_begins rule (query current segs) t rest h = ap (λ (x : List ℕ). begins begins_test (x ++ rest)) h.2

call_begins : (rule : Numbers) (c : Call) (t rest : List ℕ) → ReadsCall rule c t → begins begins_test (t ++ rest) ≡ true
call_begins rule (call f args) t rest (n, j, a, k, is_name, before, is, after, e) =
    grind (arith, common_steps, begins_where, append_assoc, begins_front, some_begun)

-- what may be tested
pub test_begins : (rule : Numbers) (signature : List ℕ → Option Signature) (o : Operand) (t rest : List ℕ) → IsTypedOperand signature o of_logical → ReadsOperand rule o t → begins begins_test (t ++ rest) ≡ true
test_begins rule signature (literal l) t rest typed h = absurd typed
test_begins rule signature (queried q) t rest typed h = query_begins rule q t rest h
test_begins rule signature (called c) t rest typed h = call_begins rule c t rest h

as_operand : (cs : List ℕ) → begins begins_test cs ≡ true → begins begins_operand cs ≡ true
as_operand cs e = begins_where begins_test begins_operand true cs (λ c e. grind (arith, e)) e

pub operand_begins : (rule : Numbers) (o : Operand) (t rest : List ℕ) → ReadsOperand rule o t → begins begins_operand (t ++ rest) ≡ true
operand_begins rule (literal l) t rest h = literal_begins rule l t rest h
operand_begins rule (queried q) t rest h = as_operand (t ++ rest) (query_begins rule q t rest h)
operand_begins rule (called c) t rest h = as_operand (t ++ rest) (call_begins rule c t rest h)

pub as_expression : (cs : List ℕ) → begins begins_operand cs ≡ true → begins begins_expression cs ≡ true
as_expression cs e = begins_where begins_operand begins_expression true cs (λ c e. grind (arith, e)) e

pub basic_begins : (rule : Numbers) (b : Basic) (t rest : List ℕ) → ReadsBasic rule b t → begins begins_expression (t ++ rest) ≡ true
basic_begins rule (paren false e) t rest h = ap (λ (x : List ℕ). begins begins_expression (x ++ rest)) h.6
basic_begins rule (relation left op right) t rest h =
    ap (λ (x : List ℕ). begins begins_expression (x ++ rest)) h.6 ∙ ap (begins begins_expression) (append_assoc h.0 _ rest) ∙ as_expression (h.0 ++ ((h.1 ++ h.2) ++ rest)) (operand_begins rule left h.0 ((h.1 ++ h.2) ++ rest) h.3)
basic_begins rule (test false o) t rest h = as_expression (t ++ rest) (operand_begins rule o t rest h)
basic_begins rule _ t rest h = ap (λ (x : List ℕ). begins begins_expression (x ++ rest)) h.4

pub and_begins : (rule : Numbers) (e : LogicalAnd) (t rest : List ℕ) → ReadsAnd rule e t → begins begins_expression (t ++ rest) ≡ true
and_begins rule no_and t rest h = absurd h
and_begins rule (and b more) t rest h =
    ap (λ (x : List ℕ). begins begins_expression (x ++ rest)) h.4 ∙ ap (begins begins_expression) (append_assoc h.0 h.1 rest) ∙ basic_begins rule b h.0 (h.1 ++ rest) h.2

pub or_begins : (rule : Numbers) (e : LogicalOr) (t rest : List ℕ) → ReadsOr rule e t → begins begins_expression (t ++ rest) ≡ true
or_begins rule no_or t rest h = absurd h
or_begins rule (or a more) t rest h =
    ap (λ (x : List ℕ). begins begins_expression (x ++ rest)) h.4 ∙ ap (begins begins_expression) (append_assoc h.0 h.1 rest) ∙ and_begins rule a h.0 (h.1 ++ rest) h.2

-- none begins with a blank
pub no_blank_begins : (cs : List ℕ) → begins begins_expression cs ≡ true → begins is_blank cs ≡ false
no_blank_begins cs e = begins_where begins_expression is_blank false cs (λ c e. no_blank begins_expression c refl refl refl refl e) e

-- ---- what is read as a filter is a good one, each is read, and a refusal stands in its text, by what holds one level deeper

module _ (rule : Numbers) (signature : List ℕ → Option Signature) (n : ℕ) (deeper : Deeper) (laws : DeeperLaws rule signature n deeper) where
  pub filter_outcome : (cs : List ℕ) → is_at "?" cs ≡ true → Outcome (Spaced (IsSelectorText rule signature n)) (Inner signature) cs (read_filter rule signature deeper cs)
  filter_outcome cs mark =
      let j = blanks_of (drop 1 cs) in
      remade (λ e. filter e) (λ t e h. (h.1.0, (j, h.0, front_each is_blank (drop 1 cs), h.1.1, h.2))) (laws.inside_outcome (63 ∷ j) cs (past_blanks (drop 1 cs)) (after_sign 63 cs mark))

  pub filter_again : (t : List ℕ) (e : LogicalOr) (rest : List ℕ) → IsSelectorText rule signature n t (filter e) → Follows ends_selector rest → read_filter rule signature deeper (t ++ rest) ≡ Ok (filter e, past_blanks rest)
  filter_again t e rest h1 h2 = grind (arith, append_assoc, begins_where, no_blank_begins, or_begins, past_run)
