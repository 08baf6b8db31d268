-- Reading a path from left to right by one character of look-ahead: what the parser computes, on
-- lists of characters.
use Rattle.std.specs.Prelude.{ℕ, zero, suc, ℤ, pos, negsuc, ◌||◌, ◌&&◌, Bool, List, [], ◌∷◌, drop, Option, Some, None, Ok, Err, nat_le, if◌then◌else◌}
use Rattle.serde_json_path_parser.specs.Imports.{encode_utf8_all, largest, SegmentKind, child, descendant, Segments, no_segments, segment, Segment, dot_name, dot_wildcard, long_hand, Selectors, selector, no_selectors, Selector, name, wildcard, index, slice, Slice, code}
use Rattle.serde_json_path_parser.specs.declared.error.ParseErrorKind.TheVariants.{BadMemberName, ExpectedClosingBracket, ExpectedSelector, IntegerOutOfRange}
use Rattle.serde_json_path_parser.specs.declared.error.Context as declared
use Rattle.serde_json_path_parser.specs.declared.error.Context.TheVariants as context
use Rattle.serde_json_path_parser.specs.Lexical.{◌∈◌, between, is_at, begins, is_digit, is_name_first, is_name_char, value_from, opens}
use Rattle.serde_json_path_parser.specs.Parsed.{Parsed, ◌>>=◌, refusal, front, past, past_blanks, many, refusal_at, byte_count}
use Rattle.serde_json_path_parser.specs.Strings.{read_string}

-- ---- names and integers

abbrev pub read_name : declared.Context → List ℕ → Parsed (List ℕ)
read_name here cs =
    if begins is_name_first cs then
    Ok (encode_utf8_all (front is_name_char cs), past is_name_char cs)
    else Err (refusal BadMemberName here cs)

-- a digit that may stand first, after `-` too
abbrev pub is_first_digit : ℕ → Bool
is_first_digit c = between "1" "9" c

-- the digits of an integer, at whose first character start bytes are left; they are read whole
-- before their range is judged
abbrev pub read_digits : ℕ → List ℕ → Parsed ℕ
read_digits start cs =
    if nat_le (value_from 0 (front is_digit cs)) largest then
    Ok (value_from 0 (front is_digit cs), past is_digit cs)
    else Err (refusal_at IntegerOutOfRange context.LongHand start)

-- -n
abbrev pub negative : ℕ → ℤ
negative zero = pos 0
negative (suc n) = negsuc n

abbrev pub read_int : List ℕ → Parsed ℤ
read_int cs =
    if is_at "-" cs then
    (if begins is_first_digit (drop 1 cs) then
    (read_digits (byte_count cs) (drop 1 cs) >>= λ n. Ok (negative n.0, n.1))
    else Err (refusal ExpectedSelector context.LongHand cs))
    else if is_at "0" cs then Ok (pos 0, drop 1 cs)
    else if begins is_first_digit cs then
    (read_digits (byte_count cs) cs >>= λ n. Ok (pos n.0, n.1))
    else Err (refusal ExpectedSelector context.LongHand cs)

-- ---- slices and selectors, each with the blanks after it

abbrev pub begins_int : ℕ → Bool
begins_int c = c ∈ "-" || is_digit c

-- a part of a slice, or nothing
abbrev pub read_bound : List ℕ → Parsed (Option ℤ)
read_bound cs =
    if begins begins_int cs then (read_int cs >>= λ i. Ok (Some i.0, past_blanks i.1))
    else Ok (None, cs)

-- a second colon and a step, or nothing
abbrev pub read_step : List ℕ → Parsed (Option ℤ)
read_step cs = if is_at ":" cs then read_bound (past_blanks (drop 1 cs)) else Ok (None, cs)

-- after a slice's start and its first colon
abbrev pub read_slice : Option ℤ → List ℕ → Parsed Slice
read_slice start cs = do
  end ← read_bound (past_blanks cs)
  step ← read_step end.1
  Ok (record { start = start; end = end.0; step = step.0 }, step.1)

-- an index, or a slice that begins with an integer
abbrev pub read_index_or_slice : List ℕ → Parsed Selector
read_index_or_slice cs = read_int cs >>= λ i.
    if is_at ":" (past_blanks i.1) then
    (read_slice (Some i.0) (drop 1 (past_blanks i.1)) >>= λ s. Ok (slice s.0, s.1))
    else Ok (index i.0, past_blanks i.1)

-- after the opening quote
unfoldable pub read_quoted : ℕ → List ℕ → Parsed Selector
read_quoted quote cs = read_string quote cs >>= λ text. Ok (name text.0, past_blanks text.1)

-- a segment begins after blanks
abbrev pub opens_next : List ℕ → Bool
opens_next cs = begins opens (past_blanks cs)

abbrev pub selector_list : List Selector → Selectors
selector_list [] = no_selectors
selector_list (s ∷ ss) = selector s (selector_list ss)

abbrev pub segment_list : List (SegmentKind × Segment) → Segments
segment_list [] = no_segments
segment_list (s ∷ ss) = segment s.0 s.1 (segment_list ss)

-- where a refusal of a member name after one dot stands
abbrev pub after_dot : declared.Context → declared.Context
after_dot context.Path = context.DotMemberName
after_dot here = here

-- a segment and its kind
abbrev pub of_kind : SegmentKind → Parsed Segment → Parsed (SegmentKind × Segment)
of_kind kind read = read >>= λ s. Ok ((kind, s.0), s.1)

-- after `.` or `..`
abbrev pub read_dotted : declared.Context → List ℕ → Parsed Segment
read_dotted here cs =
    if is_at "*" cs then Ok (dot_wildcard, drop 1 cs)
    else (read_name here cs >>= λ n. Ok (dot_name n.0, n.1))

-- how a filter is read, at its `?`
module _ (read_filter : List ℕ → Parsed Selector) where
  abbrev pub read_selector : List ℕ → Parsed Selector
  read_selector cs =
      if is_at "'" cs then read_quoted (code "'") (drop 1 cs)
      else if is_at "\"" cs then read_quoted (code "\"") (drop 1 cs)
      else if is_at "*" cs then Ok (wildcard, past_blanks (drop 1 cs))
      else if is_at ":" cs then (read_slice None (drop 1 cs) >>= λ s. Ok (slice s.0, s.1))
      else if is_at "?" cs then read_filter cs
      else read_index_or_slice cs

  -- at a comma
  abbrev pub read_next_selector : List ℕ → Parsed Selector
  read_next_selector cs = read_selector (past_blanks (drop 1 cs))

  abbrev pub read_selectors : List ℕ → Parsed (List Selector)
  read_selectors cs = do
    s ← read_selector (past_blanks cs)
    ss ← many (is_at ",") read_next_selector s.1
    Ok (s.0 ∷ ss.0, ss.1)

  -- after `[`
  abbrev pub read_bracket : List ℕ → Parsed Segment
  read_bracket cs = read_selectors cs >>= λ ss.
      if is_at "]" ss.1 then Ok (long_hand (selector_list ss.0), drop 1 ss.1)
      else Err (refusal ExpectedClosingBracket context.LongHand ss.1)

-- segments that stand here
module _ (read_filter : List ℕ → Parsed Selector) (here : declared.Context) where
  -- after `..`
  abbrev pub read_descendant : List ℕ → Parsed Segment
  read_descendant cs =
      if is_at "[" cs then read_bracket read_filter (drop 1 cs) else read_dotted here cs

  -- after `.`
  abbrev pub read_after_dot : List ℕ → Parsed (SegmentKind × Segment)
  read_after_dot cs =
      if is_at "." cs then of_kind descendant (read_descendant (drop 1 cs))
      else of_kind child (read_dotted (after_dot here) cs)

  -- at `.` or `[`
  abbrev pub read_segment : List ℕ → Parsed (SegmentKind × Segment)
  read_segment cs =
      if is_at "." cs then read_after_dot (drop 1 cs)
      else of_kind child (read_bracket read_filter (drop 1 cs))

  -- blanks and a segment
  abbrev pub read_next_segment : List ℕ → Parsed (SegmentKind × Segment)
  read_next_segment cs = read_segment (past_blanks cs)

  abbrev pub read_segments : List ℕ → Parsed (List (SegmentKind × Segment))
  read_segments cs = many opens_next read_next_segment cs

-- a segment begins after `$` and blanks
abbrev pub opens_after_root : List ℕ → Bool
opens_after_root cs = is_at "$" cs && opens_next (drop 1 cs)
