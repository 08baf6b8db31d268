-- String literals: what is read is one, each is read, and where a refusal of one stands.
use Rattle.serde_json_path_parser.proofs.Words.{common_steps, with_front, cases_lt, nat_le, ◌==◌, not, encode_utf8, encode_utf8_all, eq-eqb, and_parts, eqb_tells, length-append, append-nil, ExpectedEndingQuote, BadEscape, ControlCharacter, ◌∈◌, AllPass, is_at, begins, hexadecimal_of, IsHex4, IsPiece, plain, quote_escape, letter_escape, hex_escape, pair_escape, IsQuote, IsString, Parsed, ◌>>=◌, refusal, many, byte_count, is_hexadecimal, head, read_hexadecimal, read_hex4, is_high, is_low, read_low, read_unicode, is_letter_escape, letter_value, read_escape, read_piece, is_inside, read_string, is_ascii_plain, Stretched, encode_ascii, Failure, Fails, ◌≡◌, ℕ, ◌≤◌, ◌+◌, ◌*◌, ◌<◌, ◌⊎◌, inl, inr, Bool, true, false, cond, ◌&&◌, List, [], ◌∷◌, ◌++◌, length, drop, Some, Ok, Err, refl, sym, ap, subst, ◌∙◌, append_assoc, arith, LongHand, Memory, Refused, is_plain}
use Rattle.serde_json_path_parser.proofs.Texts.{ascii_that}
use Rattle.serde_json_path_parser.proofs.Reading.{some_begun, after_one, Again, many_again, Plain, OutcomeIn, Outcome, gives, refused, choose, guarded, past_text, past_in, onward, after, after_in, made, many_outcome, Consumes, many_end, many_err, many_more}

-- ---- what a reading gives: hexadecimal digits

first_is : (p : ℕ → Bool) (cs : List ℕ) → begins p cs ≡ true → (cs ≡ head cs ∷ drop 1 cs) × (p (head cs) ≡ true)
first_is p cs h1 = grind (arith)

abbrev IsHexDigit : List ℕ → ℕ → Type 0
IsHexDigit t n = (c : ℕ) × (t ≡ c ∷ []) × (hexadecimal_of c ≡ Some n)

hexadecimal_outcome : (escape cs : List ℕ) → OutcomeIn IsHexDigit Plain escape cs (read_hexadecimal (byte_count escape) cs)
hexadecimal_outcome escape cs = guarded BadEscape LongHand refl (λ e.
    let first = first_is is_hexadecimal cs e in
    gives _ (record { text = head cs ∷ []; is_so = (head cs, refl, let digit = first.1 in grind (arith, digit)); split = first.0 }))

hex4_outcome : (escape cs : List ℕ) → OutcomeIn IsHex4 Plain escape cs (read_hex4 (byte_count escape) cs)
hex4_outcome escape cs =
    after_in (hexadecimal_outcome escape cs) (λ a _ p.
    after_in (hexadecimal_outcome escape a.1) (λ b _ q.
    after_in (hexadecimal_outcome escape b.1) (λ c _ r.
    made (λ d. (((4096 * a.0) + (256 * b.0)) + (16 * c.0)) + d) (λ t d s. (
      p.is_so.0,
      q.is_so.0,
      r.is_so.0,
      s.0,
      a.0,
      b.0,
      c.0,
      d,
      rw (p.is_so.1, q.is_so.1, r.is_so.1, s.1) refl,
      p.is_so.2,
      q.is_so.2,
      r.is_so.2,
      s.2,
      refl,
    )) (hexadecimal_outcome escape c.1))))

-- ---- pieces

range_of : (a b n : ℕ) → (nat_le a n && nat_le n b) ≡ true → (a ≤ n) × (n ≤ b)
range_of a b n e = (grind (arith, e), grind (arith, e))

range_again : (a b n : ℕ) → (a ≤ n) × (n ≤ b) → (nat_le a n && nat_le n b) ≡ true
range_again a b n h = grind (arith, h.0, h.1)

-- no surrogate
scalar_of : (n : ℕ) → is_high n ≡ false → is_low n ≡ false → (n < 0xd800) ⊎ (0xdfff < n)
scalar_of n h l = elim (cases_lt n 0xd800) [ inl below ↦ inl below | inr least ↦ inr (grind (arith, least, h, l)) ]

slash_and_u : (cs : List ℕ) → is_at "\\" cs ≡ true → is_at "u" (drop 1 cs) ≡ true → cs ≡ 92 ∷ 117 ∷ drop 1 (drop 1 cs)
slash_and_u cs slash letter = after_one 92 cs slash ∙ ap (λ (l : List ℕ). 92 ∷ l) (after_one 117 (drop 1 cs) letter)

-- after a high surrogate, of these digits
low_outcome : (quote : ℕ) (escape t : List ℕ) (high : ℕ) (cs : List ℕ) → IsHex4 t high → is_high high ≡ true
    → OutcomeIn (λ u c. IsPiece quote (92 ∷ 117 ∷ (t ++ u)) c) Plain escape cs (read_low (byte_count escape) high cs)
low_outcome quote escape t high cs first h =
    guarded BadEscape LongHand refl (λ slash.
    guarded BadEscape LongHand refl (λ letter.
    past_in (92 ∷ 117 ∷ []) (slash_and_u cs slash letter) (onward (hex4_outcome escape (drop 1 (drop 1 cs))) (λ l _ second.
    guarded BadEscape LongHand refl (λ low.
    gives _ (record { text = second.text; is_so = pair_escape t second.text high l.0 first second.is_so (range_of 0xd800 0xdbff high h) (range_of 0xdc00 0xdfff l.0 low); split = second.split }))))))

-- after a backslash and `u`
unicode_outcome : (quote : ℕ) (escape cs : List ℕ) → OutcomeIn (λ t c. IsPiece quote (92 ∷ 117 ∷ t) c) Plain escape cs (read_unicode (byte_count escape) cs)
unicode_outcome quote escape cs = onward (hex4_outcome escape cs) (λ h _ first.
    choose (λ high. past_in first.text first.split (low_outcome quote escape first.text h.0 h.1 first.is_so high)) (λ high.
    choose (λ _. refused BadEscape LongHand refl) (λ low.
    gives _ (record { text = first.text; is_so = hex_escape first.text h.0 first.is_so (scalar_of h.0 high low); split = first.split }))))

-- a fact of both quotes
pub of_quote : (Fact : ℕ → Type 0) → Fact 39 → Fact 34 → (quote : ℕ) → IsQuote quote → Fact quote
of_quote Fact h1 h2 quote h3 = grind (arith)

letter_sound : (quote letter : ℕ) → IsQuote quote → is_letter_escape quote letter ≡ true → IsPiece quote (92 ∷ letter ∷ []) (letter_value letter)
letter_sound quote letter is e = elim (eqb_tells letter quote) [
  | inl same ↦ subst (λ (c : ℕ). IsPiece quote (92 ∷ c ∷ []) (letter_value c)) (sym same.1) (subst (IsPiece quote (92 ∷ quote ∷ [])) (sym (of_quote (λ c. letter_value c ≡ c) refl refl quote is)) quote_escape)
  | inr q ↦ letter_escape letter (letter_value letter) (let other = q.0 in grind (arith, e, other))
]

escape_outcome : (quote : ℕ) (cs : List ℕ) → IsQuote quote → is_at "\\" cs ≡ true → Outcome (IsPiece quote) Plain cs (read_escape quote cs)
escape_outcome quote cs is slash =
    choose (λ e. past_in (92 ∷ 117 ∷ []) (slash_and_u cs slash e) (unicode_outcome quote cs (drop 1 (drop 1 cs)))) (λ _.
    guarded BadEscape LongHand refl (λ e.
    let first = first_is (is_letter_escape quote) (drop 1 cs) e in
    gives _ (record {
      text = 92 ∷ head (drop 1 cs) ∷ [];
      is_so = letter_sound quote (head (drop 1 cs)) is first.1;
      split = after_one 92 cs slash ∙ ap (λ (l : List ℕ). 92 ∷ l) first.0;
    })))

piece_outcome : (quote : ℕ) → IsQuote quote → (cs : List ℕ) → begins (is_inside quote) cs ≡ true → Outcome (IsPiece quote) Plain cs (read_piece quote cs)
piece_outcome quote is [] i = absurd cc
piece_outcome quote is (c ∷ cs) i =
    choose (λ e. escape_outcome quote (c ∷ cs) is e) (λ slash.
    choose (λ _. refused ControlCharacter LongHand refl) (λ control.
    gives (c, cs) (record { text = c ∷ []; is_so = plain c (grind (arith, i, slash, control)); split = refl })))

-- after the opening quote
pub string_outcome : (quote : ℕ) → IsQuote quote → (cs : List ℕ) → Outcome IsString Plain (quote ∷ cs) (read_string quote cs)
unfolding many
string_outcome quote is cs =
    past_text (quote ∷ []) refl (after (many_outcome (IsPiece quote) Plain (begins (is_inside quote)) (read_piece quote) (piece_outcome quote is) (length cs) cs) (λ s _ r.
    guarded ExpectedEndingQuote LongHand refl (λ e.
    gives _ (record { text = quote ∷ []; is_so = (quote, r.text, s.0, is, r.is_so, refl, refl); split = after_one quote s.1 e }))))

-- ---- each string is read

hexadecimal_again : (escape rest : List ℕ) (c n : ℕ) → hexadecimal_of c ≡ Some n → read_hexadecimal (byte_count escape) (c ∷ rest) ≡ Ok (n, rest)
hexadecimal_again escape rest c n e = grind (arith, e)

hex4_again : (escape t : List ℕ) (n : ℕ) (rest : List ℕ) → IsHex4 t n → read_hex4 (byte_count escape) (t ++ rest) ≡ Ok (n, rest)
hex4_again escape t n rest (a, b, c, d, p, q, r, s, text, first, second, third, fourth, value) =
    ap (λ (l : List ℕ). read_hex4 (byte_count escape) (l ++ rest)) text
    ∙ rw (
      hexadecimal_again escape (b ∷ c ∷ d ∷ rest) a p first,
      hexadecimal_again escape (c ∷ d ∷ rest) b q second,
      hexadecimal_again escape (d ∷ rest) c r third,
      hexadecimal_again escape rest d s fourth,
    ) (ap (λ (m : ℕ). Ok (m, rest)) (sym value))

no_surrogate : (n : ℕ) → (n < 0xd800) ⊎ (0xdfff < n) → (is_high n ≡ false) × (is_low n ≡ false)
no_surrogate n side = (grind (arith, side), grind (arith, side))

piece_again : (quote : ℕ) → IsQuote quote → (t : List ℕ) (c : ℕ) (rest : List ℕ) → IsPiece quote t c → read_piece quote (t ++ rest) ≡ Ok (c, rest)
piece_again quote is t c rest (plain d e) = grind (arith, common_steps)
piece_again quote is t c rest quote_escape = of_quote (λ q. read_piece q (92 ∷ q ∷ rest) ≡ Ok (q, rest)) refl refl quote is
piece_again quote is t c rest (letter_escape letter d e) = grind (arith, e)
piece_again quote is t c rest (hex_escape digits d h side) =
    let none = no_surrogate d side in
    rw (hex4_again (92 ∷ 117 ∷ (digits ++ rest)) digits d rest h, none.0, none.1) refl
piece_again quote is t c rest (pair_escape a b high low first second h l) =
    let whole = 92 ∷ 117 ∷ (a ++ (92 ∷ 117 ∷ (b ++ rest))) in
    rw (append_assoc a (92 ∷ 117 ∷ b) rest, hex4_again whole a high (92 ∷ 117 ∷ (b ++ rest)) first, range_again 0xd800 0xdbff high h, hex4_again whole b low rest second, range_again 0xdc00 0xdfff low l) refl

piece_begins : (quote : ℕ) → IsQuote quote → (t : List ℕ) (c : ℕ) (rest : List ℕ) → IsPiece quote t c → begins (is_inside quote) (t ++ rest) ≡ true
piece_begins quote h1 t c rest h2 = grind (arith, of_quote)

pub piece_consumes : (quote : ℕ) → IsQuote quote → Consumes (begins (is_inside quote)) (read_piece quote)
piece_consumes quote is = record {
  shorter = λ cs rest x i e.
      let r = (piece_outcome quote is cs i).reads (x, rest) e in
      omega (arith, ap length r.split, length-append r.text rest, some_begun (is_inside quote) (r.text ++ []) (piece_begins quote is r.text x [] r.is_so), length-append r.text []);
  some = λ cs i. some_begun (is_inside quote) cs i;
}

-- a string is read after its opening quote
pub string_again : (t bytes rest : List ℕ) → IsString t bytes → (quote : ℕ) × (inner : List ℕ) × IsQuote quote × (t ≡ quote ∷ inner) × (read_string quote (inner ++ rest) ≡ Ok (bytes, rest))
string_again t bytes rest (quote, inside, characters, is, pieces, text, value) =
    let inner = inside ++ (quote ∷ []) in
    let same = eq-eqb quote quote refl in
    let ends : is_inside quote quote ≡ false = rw same refl in
    let law : Again (IsPiece quote) (begins (is_inside quote)) (read_piece quote) (λ rest. Unit {0}) =
    record { consumes = piece_consumes quote is; again = λ t x rest h stops. piece_again quote is t x rest h; starts = piece_begins quote is; failures = λ t x rest h. tt } in
    let read = many_again law inside characters (quote ∷ rest) pieces tt ends in
    (quote, inner, is, text, ap (read_string quote) (append_assoc inside (quote ∷ []) rest) ∙ rw (read, same) (ap (λ (b : List ℕ). Ok (b, rest)) (sym value)))

-- ---- piece by piece, as the loop of the code meets them

-- the text so far, and what is read of the pieces to come up to the ending quote
abbrev pub with_text : ℕ → List ℕ → Parsed (List ℕ) → Parsed (List ℕ)
with_text quote before read = read >>= λ s.
    cond (begins (λ c. c == quote) s.1) (Ok (before ++ encode_utf8_all s.0, drop 1 s.1)) (Err (refusal ExpectedEndingQuote LongHand s.1))

joined : (quote : ℕ) (before : List ℕ) (x : ℕ) (read : Parsed (List ℕ)) → with_text quote before (with_front (x ∷ []) read) ≡ with_text quote (before ++ encode_utf8 x) read
joined quote before x read = grind (arith, append_assoc)

module _ (quote : ℕ) (is : IsQuote quote) where
  abbrev pieces : List ℕ → Parsed (List ℕ)
  pieces cs = many (begins (is_inside quote)) (read_piece quote) cs

  pub goes_on : (before : List ℕ) (x : ℕ) (cs rest : List ℕ) (total : Parsed (List ℕ)) → begins (is_inside quote) cs ≡ true → read_piece quote cs ≡ Ok (x, rest)
      → with_text quote before (pieces cs) ≡ total → with_text quote (before ++ encode_utf8 x) (pieces rest) ≡ total
  goes_on before x cs rest total t e h =
      sym (ap (with_text quote before) (many_more (begins (is_inside quote)) (read_piece quote) (piece_consumes quote is) cs rest x t e) ∙ joined quote before x (pieces rest)) ∙ h

  -- the same over characters that stand for themselves
  over_plain : (part before rest : List ℕ) (total : Parsed (List ℕ)) → AllPass (is_ascii_plain quote) part
      → with_text quote before (pieces (part ++ rest)) ≡ total → with_text quote (before ++ part) (pieces rest) ≡ total
  over_plain [] before rest total passes h = ap (λ (l : List ℕ). with_text quote l (pieces rest)) (append-nil before) ∙ h
  over_plain (c ∷ part) before rest total passes h =
      let is_one = (ascii_that (is_plain quote) c passes.0).1 in
      let inside : is_inside quote c ≡ true = (and_parts (nat_le 0x20 c && not (c ∈ "\\")) (is_inside quote c) is_one).1 in
      let one = goes_on before c (c ∷ (part ++ rest)) (part ++ rest) total inside (piece_again quote is (c ∷ []) c (part ++ rest) (plain c is_one)) h in
      let ascii : encode_utf8 c ≡ c ∷ [] = encode_ascii c ((ascii_that (is_plain quote) c passes.0).0) in
      let more = over_plain part (before ++ c ∷ []) rest total passes.1 (subst (λ (l : List ℕ). with_text quote (before ++ l) (pieces (part ++ rest)) ≡ total) ascii one) in
      ap (λ (l : List ℕ). with_text quote l (pieces rest)) (sym (append_assoc before (c ∷ []) part)) ∙ more

  pub goes_on_far : (before cs rest new : List ℕ) (total : Parsed (List ℕ)) (ok : Bool) → ok ≡ true → Stretched (is_ascii_plain quote) cs rest before new ok
      → with_text quote before (pieces cs) ≡ total → with_text quote new (pieces rest) ≡ total
  goes_on_far before cs rest new total ok done s h = grind (arith, over_plain)

  pub is_done : (before cs : List ℕ) (total : Parsed (List ℕ)) → begins (is_inside quote) cs ≡ false → with_text quote before (pieces cs) ≡ total
      → total ≡ cond (begins (λ c. c == quote) cs) (Ok (before, drop 1 cs)) (Err (refusal ExpectedEndingQuote LongHand cs))
  is_done before cs total t h = grind (arith, append-nil, many_end)

  pub fails : (s : Failure) (before cs : List ℕ) (total : Parsed (List ℕ)) → begins (is_inside quote) cs ≡ true → Fails s (read_piece quote cs)
      → with_text quote before (pieces cs) ≡ total → Fails s total
  fails Memory before cs total t e h = tt
  fails (Refused f) before cs total t e h =
      sym h ∙ ap (with_text quote before) (many_err (begins (is_inside quote)) (read_piece quote) (piece_consumes quote is) cs f t e)
