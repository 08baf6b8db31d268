-- A text is read along: what follows so much of it makes a document where it completes one from where the reader stands.
use Rattle.std.proofs.Common.{take_all, take-append-drop, take-take, ap₂, not, ◌&&◌, ◌||◌, refl, zero, suc, inl, inr, ◌≡◌, ℕ, ◌+◌, ◌-◌, ◌<◌, ◌≤◌, Bool, true, false, List, [], ◌∷◌, ◌++◌, length, take, drop, get_or, get_or-drop, length-drop, Option, Some, None, sym, ap, ◌∙◌, subst, arith, if◌then◌else◌, append_assoc}
use Rattle.std.proofs.lemmas.List.{take_more}
use Rattle.std.proofs.lemmas.Bool.{not-true, and_parts, cases_Bool, cases_lt, eqb-true, false_from_ne_true, leb-true, false≢true, ltb-true, true≢false}
use Rattle.std.specs.List.{starts_with}
use Rattle.std.specs.Option.{is_some}
use Rattle.std.specs.Prelude.{nat_eq, slice_range}
use Rattle.serde_json.specs.Read.{read}
use Rattle.jsonpath_document.specs.Document.{BeginsNone, IsBeginning, IsDocument}
use Rattle.jsonpath_document.proofs.Beginnings.{blanks_begin}
use Rattle.std.specs.Str.{IsAscii, IsCharBoundary, IsUtf8}
use Rattle.std.proofs.lemmas.Str.{IsCharBoundary-after_ascii, IsCharBoundary-before_ascii, IsCharBoundary-end, IsCharBoundary-start, IsUtf8-append, IsUtf8-from_ascii, IsUtf8-take}
use Rattle.serde_json.specs.Data.{Data}
use Rattle.jsonpath_document.proofs.Fills.{CanGoOn, filled, is_ascii}
use Rattle.jsonpath_document.proofs.Edges.{IsNumberFrom, IsPlainFrom, can_go, high_ends, high_leads, number_before_byte, number_stays, number_from, off_before, plain_before, plain_can, plain_goes_on}
use Rattle.jsonpath_document.specs.Reading.{IsCutOff, accepts, accepts_from, after_byte, are_high, before_byte, begun_with, is_in_plain, is_number, is_too_large, is_within, may_end, only_grows}
use Rattle.serde_json.specs.Read.{number_of}
use Rattle.jsonpath_document.proofs.Endings.{can_go_on}
use Rattle.jsonpath_document.proofs.Growth.{never_smaller}
use Rattle.jsonpath_document.specs.declared.reading.Level.{Level}
use Rattle.jsonpath_document.specs.declared.reading.Next.{Next}
use Rattle.jsonpath_document.specs.declared.reading.Next.TheVariants as next
use Rattle.jsonpath_document.proofs.Parsed.{read_completes}
use Rattle.jsonpath_document.proofs.Steps.{IsStanding, IsStandingFrom, stands_on, steps}

-- so much of a text is read, and so much before it had begun
pub record IsReached (text : List ℕ) (index start : ℕ) (levels : List Level) (n : Next) : Type 0 where
  pub start_in : start ≤ index
  pub stands : IsStanding levels n (slice_range text start index)
  pub same : (r : List ℕ) → is_some (read (take index text ++ r)) ≡ accepts levels n (slice_range text start index) r
  pub edge : is_in_plain n ≡ false → IsUtf8 text → IsCharBoundary text index
  pub number : is_number n ≡ true → IsUtf8 text → IsBeginning (take start text)

some_data : (o : Option Data) → is_some o ≡ true → (d : Data) × (o ≡ Some d)
some_data None e = absurd (false≢true e)
some_data (Some d) e = (d, refl)

all_ascii : (r : List ℕ) → is_ascii r ≡ true → IsAscii r
all_ascii [] h i = omega arith
all_ascii (x ∷ xs) h zero = ltb-true x 128 (and_parts _ _ h).0
all_ascii (x ∷ xs) h (suc i) = all_ascii xs (and_parts _ _ h).1 i

begins_by : (text more : List ℕ) → IsUtf8 text → is_ascii more ≡ true → is_some (read (text ++ more)) ≡ true → IsBeginning text
begins_by text more utf8 ascii e =
    let found = some_data (read (text ++ more)) e in
    (more, (found.0, (IsUtf8-append text more utf8 (IsUtf8-from_ascii more (all_ascii more ascii)), found.1)))

-- what is read is the beginning of a document, where it ends between two characters
pub begins_there : (text : List ℕ) (index start : ℕ) (levels : List Level) (n : Next) → IsReached text index start levels n → CanGoOn n (slice_range text start index)
    → IsUtf8 text → IsCharBoundary text index → IsBeginning (take index text)
begins_there text index start levels n reached can utf8 boundary =
    let more = filled levels n (slice_range text start index) reached.stands can in
    begins_by (take index text) more.0 (IsUtf8-take text index utf8 boundary) more.1 (reached.same more.0 ∙ more.2)

pub reached_first : (text : List ℕ) → IsReached text 0 0 [] next.Value
unfolding accepts
reached_first text = record {
  start_in = omega arith;
  stands = tt;
  same = λ r. read_completes r;
  edge = λ h utf8. IsCharBoundary-start text utf8;
  number = λ h. absurd (false≢true h);
}

number_within : (n : Next) → is_number n ≡ true → is_within n ≡ true
number_within next.Value h = absurd (false≢true h)
number_within next.FirstItem h = absurd (false≢true h)
number_within next.FirstName h = absurd (false≢true h)
number_within next.Name h = absurd (false≢true h)
number_within next.Colon h = absurd (false≢true h)
number_within next.AfterValue h = absurd (false≢true h)
number_within (next.Word w) h = refl
number_within (next.Number n) h = refl
number_within (next.Text t) h = absurd (false≢true h)
number_within (next.NameText t) h = absurd (false≢true h)

no_number_without : (n : Next) → is_within n ≡ false → is_number n ≡ false
no_number_without n h = false_from_ne_true (is_number n) (λ e. true≢false (sym (number_within n e) ∙ h))

-- a number that is not too large can go on
can_continue : (levels : List Level) (n : Next) (begun : List ℕ) (has_ended : Bool) → IsStanding levels n begun → is_too_large n has_ended begun ≡ false → CanGoOn n begun
can_continue levels next.Value begun has_ended h e = tt
can_continue levels next.FirstItem begun has_ended h e = tt
can_continue levels next.FirstName begun has_ended h e = tt
can_continue levels next.Name begun has_ended h e = tt
can_continue levels next.Colon begun has_ended h e = tt
can_continue levels next.AfterValue begun has_ended h e = tt
can_continue levels (next.Word w) begun has_ended h e = tt
can_continue levels (next.Number n) begun has_ended h e = can_go_on n begun h.1 (in_range_by (has_ended && may_end n) (only_grows n begun) (is_some (number_of begun)) e)
  where
    in_range_by : (a g s : Bool) → (a || g) && not s ≡ false → g ≡ true → s ≡ true
    in_range_by a g true e f = refl
    in_range_by true g false e f = absurd (true≢false e)
    in_range_by false true false e f = absurd (true≢false e)
    in_range_by false false false e f = absurd (false≢true f)
can_continue levels (next.Text t) begun has_ended h e = tt
can_continue levels (next.NameText t) begun has_ended h e = tt

-- a byte more is begun with, unless it begins what has begun
abbrev pub start_at : Bool → ℕ → ℕ → ℕ
start_at within start index = if within then start else index

joined : (text : List ℕ) (start index : ℕ) → start ≤ index → index < length text
    → slice_range text start (index + 1) ≡ slice_range text start index ++ get_or text index 0 ∷ []
joined text start index le h =
    let more : index + 1 - start ≡ index - start + 1 = omega arith in
    let at : start + (index - start) ≡ index = omega arith in
    let some : index - start < length (drop start text) = omega (arith, length-drop start text) in
    ap (λ n. take n (drop start text)) more ∙ take_more (drop start text) (index - start) 0 some
    ∙ ap (λ b. slice_range text start index ++ b ∷ []) (get_or-drop start text (index - start) 0 ∙ ap (λ i. get_or text i 0) at)

alone : (text : List ℕ) (index : ℕ) → slice_range text index index ≡ []
alone text index = let none : index - index ≡ 0 = omega arith in ap (λ n. take n (drop index text)) none

begun_is : (text : List ℕ) (start index : ℕ) (within : Bool) → start ≤ index → index < length text
    → slice_range text (start_at within start index) (index + 1)
    ≡ (if within then slice_range text start index ++ (get_or text index 0 ∷ []) else get_or text index 0 ∷ [])
begun_is text start index true le h = joined text start index le h
begun_is text start index false le h = joined text index index (omega arith) h ∙ ap (λ l. l ++ get_or text index 0 ∷ []) (alone text index)

start_within : (within : Bool) (start index : ℕ) → start ≤ index → start_at within start index ≤ index + 1
start_within true start index le = omega arith
start_within false start index le = omega arith

module _ (text : List ℕ) (index start : ℕ) (levels : List Level) (n : Next) (reached : IsReached text index start levels n) (some : index < length text) where
  abbrev byte : ℕ
  byte = get_or text index 0

  abbrev before : Next
  before = before_byte n byte (slice_range text start index)

  abbrev led : Option (List Level × Next)
  led = after_byte levels before byte

  reads_on : (r : List ℕ) → is_some (read (take (index + 1) text ++ r)) ≡ accepts_from led (slice_range text (start_at (is_within before) start index) (index + 1)) r
  reads_on r =
      ap (λ t. is_some (read (t ++ r))) (take_more text index 0 some) ∙ ap (λ t. is_some (read t)) (append_assoc (take index text) (byte ∷ []) r)
      ∙ reached.same (byte ∷ r) ∙ steps levels n (slice_range text start index) byte r reached.stands
      ∙ ap (λ b. accepts_from led b r) (sym (begun_is text start index (is_within before) reached.start_in some))

  -- a place that a byte leads to lies between characters, but in a string
  edge_after : (final : List Level) (after : Next) → Some (final, after) ≡ led → is_in_plain after ≡ false → IsUtf8 text → IsCharBoundary text (index + 1)
  edge_after final after e plain utf8 =
      elim (cases_lt byte 128) [
        | inl low ↦ IsCharBoundary-after_ascii text index utf8 some low
        | inr high ↦ absurd (false≢true (sym plain ∙ (subst (IsPlainFrom (is_in_plain before)) (sym e) (high_leads byte high levels before)).1))
      ]

  not_plain : is_in_plain before ≡ false → is_in_plain n ≡ false
  not_plain h = false_from_ne_true (is_in_plain n) (λ e. false≢true (sym h ∙ ap is_in_plain (plain_before n byte (slice_range text start index) e) ∙ e))

  -- where a number begins
  number_after : (final : List Level) (after : Next) → Some (final, after) ≡ led → is_number after ≡ true → IsUtf8 text → IsBeginning (take (start_at (is_within before) start index) text)
  number_after final after e h utf8 =
      elim (subst (IsNumberFrom before) (sym e) (number_from levels before byte) h) [
        | inl same ↦ subst (λ w. IsBeginning (take (start_at w start index) text)) (sym (number_within before same)) (reached.number (number_before_byte n byte (slice_range text start index) same) utf8)
        | inr fresh ↦ subst (λ w. IsBeginning (take (start_at w start index) text)) (sym fresh.0)
            (begins_there text index start levels n reached (can_go n byte (slice_range text start index) (no_number_without before fresh.0)) utf8 (reached.edge (not_plain fresh.1) utf8))
      ]

  -- a byte that leads on
  pub reached_more : (final : List Level) (after : Next) → Some (final, after) ≡ led
      → IsReached text (index + 1) (start_at (is_within before) start index) final after
  reached_more final after e =
      let begun = begun_is text start index (is_within before) reached.start_in some in record {
        start_in = start_within (is_within before) start index reached.start_in;
        stands = subst (λ b. IsStanding final after b) (sym begun)
            (subst (λ o. IsStandingFrom o (begun_with before byte (slice_range text start index))) (sym e) (stands_on levels n (slice_range text start index) byte reached.stands));
        same = λ r. reads_on r ∙ ap (λ o. accepts_from o (slice_range text (start_at (is_within before) start index) (index + 1)) r) (sym e);
        edge = edge_after final after e;
        number = number_after final after e;
      }

  -- a byte that leads nowhere
  pub reached_none : led ≡ None → BeginsNone (take (index + 1) text)
  reached_none e r = reads_on r ∙ ap (λ o. accepts_from o (slice_range text (start_at (is_within before) start index) (index + 1)) r) e

  module _ (led_from : Next) (is : led_from ≡ before) where
    -- the same, as a reader finds it out
    pub leads_on : (start_now : ℕ) → start_now ≡ start_at (is_within led_from) start index → (final : List Level) (after : Next) → Some (final, after) ≡ after_byte levels led_from byte
        → IsReached text (index + 1) start_now final after
    leads_on start_now e final after f =
        subst (λ s. IsReached text (index + 1) s final after) (sym (e ∙ ap (λ m. start_at (is_within m) start index) is)) (reached_more final after (f ∙ ap (λ m. after_byte levels m byte) is))

    pub leads_nowhere : None ≡ after_byte levels led_from byte → BeginsNone (take (index + 1) text)
    leads_nowhere f = reached_none (ap (λ m. after_byte levels m byte) (sym is) ∙ sym f)

  -- where the text breaks between characters
  pub begins_before : (led_from : Next) → led_from ≡ before → None ≡ after_byte levels led_from byte → (start_now : ℕ) → start_now ≡ start_at (is_within led_from) start index
      → (has_ended : Bool) → is_too_large led_from has_ended (slice_range text start_now index) ≡ false → IsUtf8 text → IsBeginning (take index text)
  begins_before led_from is none start_now at has_ended fine utf8 =
      let nowhere : led ≡ None = ap (λ m. after_byte levels m byte) (sym is) ∙ sym none in
      let can : CanGoOn n (slice_range text start index) = elim (cases_Bool (is_number before)) [
        | inl e ↦
            let same : led_from ≡ n = is ∙ number_stays n byte (slice_range text start index) e in
            let from : start_now ≡ start = at ∙ ap (λ w. start_at w start index) (ap is_within is ∙ number_within before e) in
            can_continue levels n (slice_range text start index) has_ended reached.stands (ap₂ (λ m s. is_too_large m has_ended (slice_range text s index)) (sym same) (sym from) ∙ fine)
        | inr e ↦ can_go n byte (slice_range text start index) e
      ] in
      begins_there text index start levels n reached can utf8
      (elim (cases_lt byte 128) [
        | inl low ↦ IsCharBoundary-before_ascii text index some low
        | inr high ↦ reached.edge (not_plain (false_from_ne_true (is_in_plain before) (λ e. plain_goes_on byte high levels before e nowhere))) utf8
      ])

-- the whole text is a beginning
pub begins_whole : (text : List ℕ) (index start : ℕ) (levels : List Level) (n : Next) → IsReached text index start levels n → index ≡ length text
    → (has_ended : Bool) → is_too_large n has_ended (slice_range text start index) ≡ false → IsUtf8 text → IsBeginning (take index text)
begins_whole text index start levels n reached e has_ended fine utf8 =
    begins_there text index start levels n reached (can_continue levels n (slice_range text start index) has_ended reached.stands fine) utf8
    (subst (λ i. IsCharBoundary text i) (sym e) (IsCharBoundary-end text))

-- ---- bytes beyond ASCII after the text

-- from within a string some text completes a document after the bytes
abbrev FillsAfter : List ℕ → Type 0
FillsAfter bytes = (levels : List Level) (n : Next) (begun : List ℕ) → IsStanding levels n begun → is_in_plain n ≡ true
    → (r : List ℕ) × (is_ascii r ≡ true) × (accepts levels n begun (bytes ++ r) ≡ true)

filled_from : (bytes begun : List ℕ) (plain : Bool) (o : Option (List Level × Next)) → FillsAfter bytes → (o ≡ None → ⊥) → IsPlainFrom plain o → IsStandingFrom o begun
    → (r : List ℕ) × (is_ascii r ≡ true) × (accepts_from o begun (bytes ++ r) ≡ true)
filled_from bytes begun plain None fills goes leads stands = absurd (goes refl)
filled_from bytes begun plain (Some s) fills goes leads stands = fills s.0 s.1 begun stands leads.1

high_filled : (bytes : List ℕ) → are_high bytes ≡ true → FillsAfter bytes
high_filled [] high levels n begun stands plain = filled levels n begun stands (plain_can n begun plain)
high_filled (b ∷ bytes) high levels n begun stands plain =
    let both = and_parts _ _ high in
    let first = leb-true 128 b both.0 in
    let before = before_byte n b begun in
    let goes : after_byte levels before b ≡ None → ⊥ = λ e. plain_goes_on b first levels n plain (ap (λ m. after_byte levels m b) (sym (plain_before n b begun plain)) ∙ e) in
    let more = filled_from bytes _ _ _ (high_filled bytes both.1) goes (high_leads b first levels before) (stands_on levels n begun b stands) in
    (more.0, more.1, steps levels n begun b (bytes ++ more.0) stands ∙ more.2)

module _ (text : List ℕ) (index start : ℕ) (levels : List Level) (n : Next) (reached : IsReached text index start levels n) (e : index ≡ length text) where
  abbrev whole : take index text ≡ text
  whole = take_all index text (omega (arith, e))

  pub begins_in_string : is_in_plain n ≡ true → (more : List ℕ) → are_high more ≡ true → IsUtf8 (text ++ more) → IsBeginning (text ++ more)
  begins_in_string plain more high utf8 =
      let rest = high_filled more high levels n (slice_range text start index) reached.stands plain in
      let same : (text ++ more) ++ rest.0 ≡ take index text ++ (more ++ rest.0) = append_assoc text more rest.0 ∙ ap (λ t. t ++ (more ++ rest.0)) (sym whole) in
      begins_by (text ++ more) rest.0 utf8 rest.1 (ap (λ t. is_some (read t)) same ∙ reached.same (more ++ rest.0) ∙ rest.2)

  pub none_off_string : is_in_plain n ≡ false → (b : ℕ) → 128 ≤ b → BeginsNone (text ++ b ∷ [])
  none_off_string off b high r =
      let begun = slice_range text start index in
      ap (λ t. is_some (read t)) (append_assoc text (b ∷ []) r ∙ ap (λ t. t ++ (b ∷ r)) (sym whole)) ∙ reached.same (b ∷ r) ∙ steps levels n begun b r reached.stands
      ∙ ap (λ o. accepts_from o (begun_with (before_byte n b begun) b begun) r) (high_ends b high levels (before_byte n b begun) (off_before n b begun off))

-- ---- what begins nothing

pub begins_none : (text : List ℕ) → BeginsNone text → IsBeginning text → ⊥
begins_none text none is = true≢false (sym (ap is_some is.1.1.1) ∙ none is.0)

-- no document begins by the first byte of a byte order mark
pub mark_begins_none : (bytes : List ℕ) (position : ℕ) → starts_with nat_eq bytes (239 ∷ 187 ∷ 191 ∷ []) ≡ true → position ≡ 1 → BeginsNone (take position bytes)
unfolding accepts
mark_begins_none [] position e one r = absurd (true≢false (sym e))
mark_begins_none (x ∷ xs) position e one r =
    let first : x ≡ 239 = sym (eqb-true 239 x (and_parts _ _ e).0) in
    ap (λ n. is_some (read (take n (x ∷ xs) ++ r))) one ∙ ap (λ b. is_some (read (b ∷ r))) first
    ∙ read_completes (239 ∷ r) ∙ steps [] next.Value [] 239 r tt

-- ---- what stands before a place in a beginning

begins_less : (text more : List ℕ) → IsBeginning (text ++ more) → IsBeginning text
begins_less text more is = (more ++ is.0, subst IsDocument (append_assoc text more is.0) is.1)

pub begins_front : (text : List ℕ) (n : ℕ) → IsBeginning text → IsBeginning (take n text)
begins_front text n is = begins_less (take n text) (drop n text) (subst IsBeginning (sym (take-append-drop n text)) is)

pub begins_earlier : (text : List ℕ) (less more : ℕ) → less ≤ more → IsBeginning (take more text) → IsBeginning (take less text)
begins_earlier text less more le is = subst IsBeginning (take-take less more text le) (begins_front (take more text) less is)

pub begins_nothing : (text : List ℕ) (n : ℕ) → n ≡ 0 → IsBeginning (take n text)
begins_nothing text n e = subst (λ m. IsBeginning (take m text)) (sym e) (blanks_begin [] refl)

-- of the text at the front of bytes
pub begins_in_front : (bytes text : List ℕ) (count n : ℕ) → text ≡ take count bytes → count ≤ length bytes → n ≤ count → IsBeginning (take n text) → IsBeginning (take n bytes)
begins_in_front bytes text count n e within le is = subst IsBeginning (ap (λ t. take n t) e ∙ take-take n count bytes le) is

-- where a fault is told of a text that breaks
pub begins_told : (text : List ℕ) (at start count position : ℕ) (large : Bool) → count ≤ at → (large ≡ true → count ≡ start) → (large ≡ false → IsBeginning (take at text))
    → (large ≡ true → IsBeginning (take start text)) → position - 1 ≡ count → IsBeginning (take (position - 1) text)
begins_told text at start count position true le same kept number e = subst (λ n. IsBeginning (take n text)) (sym (e ∙ same refl)) (number refl)
begins_told text at start count position false le same kept number e = subst (λ n. IsBeginning (take n text)) (sym e) (begins_earlier text count at le (kept refl))

-- ---- what begins nothing, and more of it

pub none_longer : (text : List ℕ) (n : ℕ) → BeginsNone (take n text) → BeginsNone text
none_longer text n none r =
    let whole : take n text ++ (drop n text ++ r) ≡ text ++ r = sym (append_assoc (take n text) (drop n text) r) ∙ ap (λ t. t ++ r) (take-append-drop n text) in
    ap (λ t. is_some (read t)) (sym whole) ∙ none (drop n text ++ r)

-- a number that is too large at the end
pub none_at_end : (text : List ℕ) (start : ℕ) (levels : List Level) (n : Next) (index : ℕ) → IsReached text index start levels n → index ≡ length text → (has_ended : Bool) → has_ended ≡ false
    → is_too_large n has_ended (slice_range text start index) ≡ true → BeginsNone text
none_at_end text start levels next.Value index reached e has_ended f h = absurd (false≢true h)
none_at_end text start levels next.FirstItem index reached e has_ended f h = absurd (false≢true h)
none_at_end text start levels next.FirstName index reached e has_ended f h = absurd (false≢true h)
none_at_end text start levels next.Name index reached e has_ended f h = absurd (false≢true h)
none_at_end text start levels next.Colon index reached e has_ended f h = absurd (false≢true h)
none_at_end text start levels next.AfterValue index reached e has_ended f h = absurd (false≢true h)
none_at_end text start levels (next.Word w) index reached e has_ended f h = absurd (false≢true h)
none_at_end text start levels (next.Number n) index reached e has_ended f h = none_longer text index (λ r.
    let begun = slice_range text start index in
    let large = and_parts _ _ (ap (λ z. ((z && may_end n) || only_grows n begun) && not (is_some (number_of begun))) (sym f) ∙ h) in
    reached.same r ∙ never_smaller levels n begun reached.stands large.0 (not-true _ large.1) r)
none_at_end text start levels (next.Text t) index reached e has_ended f h = absurd (false≢true h)
none_at_end text start levels (next.NameText t) index reached e has_ended f h = absurd (false≢true h)

-- of bytes whose front is a text that breaks
pub none_in_front : (bytes text : List ℕ) (count n : ℕ) → text ≡ take count bytes → n ≤ count → BeginsNone (take n text) → BeginsNone bytes
none_in_front bytes text count n e le none = none_longer bytes n (subst BeginsNone (ap (λ t. take n t) e ∙ take-take n count bytes le) none)

pub none_of_front : (bytes text : List ℕ) (count : ℕ) → text ≡ take count bytes → BeginsNone text → BeginsNone bytes
none_of_front bytes text count e none = none_longer bytes count (subst BeginsNone e none)

-- ---- what follows the text at the front of bytes

-- the beginning of a character, in a string
pub begins_cut_off : (bytes text : List ℕ) (n : ℕ) → text ≡ take n bytes → IsUtf8 text → IsCutOff (drop n bytes)
    → ((more : List ℕ) → are_high more ≡ true → IsUtf8 (text ++ more) → IsBeginning (text ++ more)) → IsBeginning bytes
begins_cut_off bytes text n e utf8 cut on =
    let more = drop n bytes ++ cut.0 in
    let whole : text ++ more ≡ bytes ++ cut.0 = ap (λ t. t ++ more) e ∙ sym (append_assoc (take n bytes) (drop n bytes) cut.0) ∙ ap (λ t. t ++ cut.0) (take-append-drop n bytes) in
    begins_less bytes cut.0 (subst IsBeginning whole (on more cut.1 (IsUtf8-append text more utf8 cut.2)))

-- a byte beyond ASCII, and not in a string
pub none_with_high : (bytes text : List ℕ) (n : ℕ) → text ≡ take n bytes → n < length bytes → 128 ≤ get_or bytes n 0
    → ((b : ℕ) → 128 ≤ b → BeginsNone (text ++ b ∷ [])) → BeginsNone bytes
none_with_high bytes text n e some high none =
    let more : text ++ get_or bytes n 0 ∷ [] ≡ take (n + 1) bytes = ap (λ t. t ++ get_or bytes n 0 ∷ []) e ∙ sym (take_more bytes n 0 some) in
    none_longer bytes (n + 1) (subst BeginsNone more (none (get_or bytes n 0) high))
