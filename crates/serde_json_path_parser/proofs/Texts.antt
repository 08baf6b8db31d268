-- Bytes and the characters that they encode: the character at a place, by its first byte, and ASCII characters that are taken many at a time.
use Rattle.serde_json_path_parser.proofs.Words.{common_steps, slice_get_past, IsUtf8-from_ascii, encodes-chars, slice_get, IsUtf8, encode_utf8_all, StartsWithChar, get_or-drop, slice_get_within, slice_get-get_or, same_Some, none-some, length-drop, cases_lt, ◌==◌, is_utf8, chars, eqb-true, drop-drop, drop_all, IsUtf8-from_is_utf8, is_utf8-from_IsUtf8, chars-nil, chars_past_char, byte_from_char, char_from_byte, is_ascii, IsAhead, begins, nat_le, nat_lt, ◌^◌, IsAscii, and_parts, cases_Bool, take_more_set, encodes-append, encodes-IsAscii, AllPass, is_name_char, front, past, Observed, looked, LooksOn, is_ascii_name_char, Gathered, Stretched, IsSome, ◌≡◌, ℕ, ◌+◌, ◌*◌, ◌%◌, ◌<◌, ◌≤◌, inl, inr, true, List, [], ◌∷◌, length, get_or, drop, Some, refl, sym, ap, subst, ◌∙◌, arith, Option, None, zero, suc, ◌-◌, Bool, ◌++◌, take, set, append_assoc, ◌&&◌, IsScalar, false_from_ne_true, if◌then◌else◌}
use Rattle.std.proofs.iter.FirstChar.{wide, in_one, in_two, in_three, in_four}
use Rattle.serde_json_path_parser.proofs.Reading.{past_through, front_through}

-- ---- the character at a place of a text, by its first byte

abbrev pub Read : List ℕ → ℕ → ℕ → Type 0
Read bs c w = IsScalar c × StartsWithChar bs c w

module _ (text : List ℕ) (at lead : ℕ) (utf8 : IsUtf8 (drop at text)) (is : slice_get text at ≡ Some lead) where
  pub within : at < length text
  within = slice_get_within text at lead is

  some : 0 < length (drop at text)
  some = omega (arith, within, length-drop at text)

  pub at_byte : (k : ℕ) → get_or (drop at text) k 0 ≡ get_or text (at + k) 0
  at_byte k = rw get_or-drop refl

  pub lead_is : get_or (drop at text) 0 0 ≡ lead
  lead_is = let e : at + 0 ≡ at = omega arith in rw (at_byte 0, e) (same_Some _ _ (sym (slice_get-get_or text at 0 within) ∙ is))

  pub second : 128 ≤ lead → at + 1 < length text
  second t = let k = (wide (drop at text) utf8 some).0 (rw lead_is t) in omega (arith, k, within, length-drop at text)

  pub third : 224 ≤ lead → at + 2 < length text
  third t = let k = (wide (drop at text) utf8 some).1 (rw lead_is t) in omega (arith, k, within, length-drop at text)

  pub fourth : 240 ≤ lead → at + 3 < length text
  fourth t = let k = (wide (drop at text) utf8 some).2 (rw lead_is t) in omega (arith, k, within, length-drop at text)

  pub one : lead < 128 → Read (drop at text) lead 1
  one t = subst (λ (c : ℕ). Read (drop at text) c 1) lead_is (in_one (drop at text) utf8 some (rw lead_is t))

  pub two : (y : ℕ) → y ≡ get_or text (at + 1) 0 % 64 → 128 ≤ lead → lead < 224 → Read (drop at text) (lead % 32 * 64 + y) 2
  two y f t v = subst (λ (c : ℕ). Read (drop at text) c 2) (rw (lead_is, at_byte 1, f) refl) (in_two (drop at text) utf8 some (rw lead_is t) (rw lead_is v))

  pub three : (y z : ℕ) → y ≡ get_or text (at + 1) 0 % 64 → z ≡ get_or text (at + 2) 0 % 64 → 224 ≤ lead → lead < 240 → Read (drop at text) (lead % 16 * 4096 + y * 64 + z) 3
  three y z f g t v = subst (λ (c : ℕ). Read (drop at text) c 3) (rw (lead_is, at_byte 1, at_byte 2, f, g) refl) (in_three (drop at text) utf8 some (rw lead_is t) (rw lead_is v))

  pub four : (y z x : ℕ) → y ≡ get_or text (at + 1) 0 % 64 → z ≡ get_or text (at + 2) 0 % 64 → x ≡ get_or text (at + 3) 0 % 64 → 240 ≤ lead → Read (drop at text) (lead % 8 * 262144 + y * 4096 + z * 64 + x) 4
  four y z x f g i t = subst (λ (c : ℕ). Read (drop at text) c 4) (rw (lead_is, at_byte 1, at_byte 2, at_byte 3, f, g, i) refl) (in_four (drop at text) utf8 some (rw lead_is t))

-- ---- what a reader's fields say of the characters that are left

none_past : (xs : List ℕ) (i : ℕ) → slice_get xs i ≡ None → drop i xs ≡ []
none_past xs i e = drop_all i xs (elim (cases_lt i (length xs)) [ inl k ↦ absurd (none-some _ (sym e ∙ slice_get-get_or xs i 0 k)) | inr k ↦ k ])

ahead_some : (bs : List ℕ) (b : ℕ) → IsUtf8 bs → 0 < length bs → get_or bs 0 0 ≡ b → IsAhead (Some b) (chars bs)
ahead_some bs b ([], (s, split)) l e = absurd (omega (arith, ap length split))
ahead_some bs b (c ∷ more, (s, split)) l e =
    let cs : chars bs ≡ c ∷ chars (encode_utf8_all more) = chars_past_char bs (encode_utf8_all more) c (c ∷ more, (s, split)) (sym split) in (
      c,
      cs ∙ ap (λ (r : List ℕ). c ∷ r) (sym (ap (drop 1) cs)),
      (λ t. char_from_byte bs (encode_utf8_all more) c (sym split) (omega (arith, e)) l ∙ e),
      (λ t. elim (cases_lt c 128) [ inl k ↦ absurd (omega (arith, byte_from_char bs (encode_utf8_all more) c (sym split) k, e)) | inr k ↦ k ]),
    )

pub ahead : (text : List ℕ) (at : ℕ) (o : Option ℕ) → is_utf8 (drop at text) ≡ true → o ≡ slice_get text at → IsAhead o (chars (drop at text))
ahead text at o h1 h2 = grind (arith, IsUtf8-from_is_utf8, ahead_some, chars-nil, lead_is, length-drop, none_past, within)

-- a step over the character at a place
pub record Step (text : List ℕ) (at c w : ℕ) : Type 0 where
  pub left : chars (drop at text) ≡ c ∷ chars (drop (at + w) text)
  pub within : at + w ≤ length text
  pub utf8 : is_utf8 (drop (at + w) text) ≡ true

pub step : (text : List ℕ) (at c w : ℕ) → at ≤ length text → is_utf8 (drop at text) ≡ true → StartsWithChar (drop at text) c w → Step text at c w
step text at c w l u s = grind (arith, IsUtf8-from_is_utf8, chars_past_char, drop-drop, is_utf8-from_IsUtf8, length-drop, within)

-- a step over an ASCII character
pub step_one : (text : List ℕ) (at lead : ℕ) → at ≤ length text → is_utf8 (drop at text) ≡ true → slice_get text at ≡ Some lead → lead < 128 → Step text at lead 1
step_one text at lead l u e ascii = step text at lead 1 l u (one text at lead (IsUtf8-from_is_utf8 _ u) e ascii).1

-- what the byte after an ASCII one tells of the characters after the first
pub ahead_second : (text : List ℕ) (at : ℕ) (next second : Option ℕ) → at ≤ length text → is_utf8 (drop at text) ≡ true → next ≡ slice_get text at → is_ascii next ≡ true → second ≡ slice_get text (at + 1)
    → IsAhead second (drop 1 (chars (drop at text)))
ahead_second text at next second h1 h2 h3 h4 h5 = grind (arith, ahead, second, step_one)

-- the byte that is next is ASCII where such a character is
pub ascii_begun : (next : Option ℕ) (cs : List ℕ) (k : ℕ) → IsAhead next cs → k < 128 → begins (λ c. c == k) cs ≡ true → is_ascii next ≡ true
ascii_begun next cs k h1 h2 h3 = grind (arith, cases_lt, eqb-true)

-- where a character is left there is a byte
pub some_next : (text : List ℕ) (at : ℕ) (next : Option ℕ) → next ≡ slice_get text at → 0 < length (chars (drop at text)) → IsSome next
some_next text at next is l = elim (cases_lt at (length text)) [
  | inl k ↦ subst IsSome (sym (is ∙ slice_get-get_or text at 0 k)) refl
  | inr k ↦ absurd (omega (arith, ap (λ (r : List ℕ). length (chars r)) (drop_all at text k), ap length chars-nil, l))
]

-- ---- ASCII characters that pass a test

pub ascii_that : (p : ℕ → Bool) (c : ℕ) → (nat_le c 127 && p c) ≡ true → (c < 128) × (p c ≡ true)
ascii_that p c e = let h = and_parts (nat_le c 127) (p c) e in (let low = h.0 in grind (arith, low), h.1)

pub all_ascii : (p : ℕ → Bool) → ((c : ℕ) → p c ≡ true → c < 128) → (cs : List ℕ) → AllPass p cs → IsAscii cs
all_ascii p ascii [] h i = omega arith
all_ascii p ascii (c ∷ cs) h zero = ascii c h.0
all_ascii p ascii (c ∷ cs) h (suc i) = all_ascii p ascii cs h.1 i

all_in_name : (cs : List ℕ) → AllPass is_ascii_name_char cs → AllPass is_name_char cs
all_in_name [] h = tt
all_in_name (c ∷ cs) h = ((ascii_that is_name_char c h.0).1, all_in_name cs h.1)

all_more : (p : ℕ → Bool) (cs : List ℕ) (c : ℕ) → AllPass p cs → p c ≡ true → AllPass p (cs ++ c ∷ [])
all_more p [] c h e = (e, tt)
all_more p (d ∷ cs) c h e = (h.0, all_more p cs c h.1 e)

-- whether what is next passes a test for ASCII characters is seen from the byte ahead
pub begins_ahead : (p : ℕ → Bool) → ((c : ℕ) → p c ≡ true → c < 128) → (b : ℕ) (cs : List ℕ) → IsAhead (Some b) cs → begins p cs ≡ p b
begins_ahead p ascii b cs a = grind (arith, cases_lt, false_from_ne_true)

pub fits_first : (p : ℕ → Bool) (text : List ℕ) (at b : ℕ) → ((c : ℕ) → p c ≡ true → c < 128) → is_utf8 (drop at text) ≡ true → Some b ≡ slice_get text at → begins p (chars (drop at text)) ≡ true → p b ≡ true
fits_first p text at b ascii u is e = sym (begins_ahead p ascii b (chars (drop at text)) (ahead text at (Some b) u is)) ∙ e

-- an ASCII byte ahead is the first character
pub is_ahead : (k b : ℕ) (cs : List ℕ) → k < 128 → IsAhead (Some b) cs → b ≡ k → cs ≡ k ∷ drop 1 cs
is_ahead k b cs low a is = a.1 ∙ ap (λ c. c ∷ drop 1 cs) (a.2 (omega (arith, low, is)) ∙ is)

-- ---- looks

at_most : (n : ℕ) → (if nat_lt n (2 ^ 128 - 1) then n + 1 else n) ≤ n + 1
at_most n = elim (cases_Bool (nat_lt n (2 ^ 128 - 1))) [ inl e ↦ rw e (omega arith) | inr e ↦ rw e (omega arith) ]

-- one look more, at the next byte
pub looked_on : (old mid now : Observed) (count number at : ℕ) → LooksOn old mid count number → now ≡ looked mid at → number ≤ at + 1 → LooksOn old now (count + 1) (at + 1)
looked_on old mid now count number at h e le = grind (arith, at_most)

-- ---- a part of a name

-- one character more
pub more_gathered : (p : ℕ → Bool) (text : List ℕ) (index at c : ℕ) (part : List ℕ) → c < 128 → index ≤ at → at - index < length part → slice_get text at ≡ Some c
    → p c ≡ true → Gathered p text index at part → Gathered p text index (at + 1) (set part (at - index) c)
more_gathered p text index at c part low le l is fits h = grind (arith, common_steps, step_one, take_more_set, append_assoc, all_more)

-- a text with a part after it, and then the rest of the name
pub front_part : (cs part rest text : List ℕ) → AllPass is_ascii_name_char part → cs ≡ part ++ rest
    → (text ++ part) ++ encode_utf8_all (front is_name_char rest) ≡ text ++ encode_utf8_all (front is_name_char cs)
front_part cs part rest text h e = grind (arith, all_ascii, all_in_name, append_assoc, ascii_that, encodes-IsAscii, encodes-append, front_through)

-- the same of a stretch
pub name_stretched : (cs rest old new : List ℕ) (ok : Bool) → ok ≡ true → Stretched is_ascii_name_char cs rest old new ok
    → new ++ encode_utf8_all (front is_name_char rest) ≡ old ++ encode_utf8_all (front is_name_char cs)
name_stretched cs rest old new ok done s = ap (λ (l : List ℕ). l ++ encode_utf8_all (front is_name_char rest)) (s.text done) ∙ front_part cs s.part rest old s.passes s.taken

-- what is after a name stays as a part of it is taken
pub past_stretched : (cs rest old new : List ℕ) (ok : Bool) → Stretched is_ascii_name_char cs rest old new ok → past is_name_char rest ≡ past is_name_char cs
past_stretched cs rest old new ok s = sym (ap (past is_name_char) s.taken ∙ past_through is_name_char s.part rest (all_in_name s.part s.passes))

-- what the fields of a reader say of its text
pub ruleset of_bytes = (encodes-chars, IsUtf8-from_is_utf8, is_utf8-from_IsUtf8, length-drop, IsUtf8-from_ascii, some_next, slice_get_within, slice_get_past, step, step_one, fits_first)
