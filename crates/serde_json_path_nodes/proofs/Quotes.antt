-- A text in quotes, written in stretches of characters that print themselves.
use Rattle.serde_json_path_nodes.proofs.Words.{◌≡◌, ℕ, ◌+◌, ◌<◌, false, List, [], ◌∷◌, ◌++◌, length, get_or, None, take, drop, unwrap_or, encode_utf8, refl, append_assoc, arith, flat_map, IsCharBoundary, IsUtf8, NonePass, chars, nat_tests, common_steps, flat_map-append, take-append-drop, take_more, chars-append, chars_past_char, encodes-chars, IsUtf8-take, escape_of, in_quotes, is_escaped}
use Rattle.std.proofs.Common.{encode_utf8_all}

-- ---- what prints itself

-- a character whose bytes are plain has no escape
plain_char : (c : ℕ) (rest : List ℕ) → NonePass is_escaped (encode_utf8 c ++ rest) → escape_of c ≡ None
plain_char c rest plain = grind (arith, common_steps)

plain_after : (xs ys : List ℕ) → NonePass is_escaped (xs ++ ys) → NonePass is_escaped ys
plain_after [] ys h = h
plain_after (x ∷ xs) ys h = plain_after xs ys h.1

plain_chars : (cs : List ℕ) → NonePass is_escaped (encode_utf8_all cs) → flat_map in_quotes cs ≡ encode_utf8_all cs
plain_chars [] h = refl
plain_chars (c ∷ cs) h = grind (arith, nat_tests, unwrap_or, plain_char, plain_after, plain_chars cs (plain_after (encode_utf8 c) (encode_utf8_all cs) h))

-- a text whose bytes are plain prints itself
pub plain_text : (text : List ℕ) → IsUtf8 text → NonePass is_escaped text → flat_map in_quotes (chars text) ≡ text
plain_text text utf8 plain = grind (arith, nat_tests, encodes-chars, plain_chars)

-- one byte more
none_more : (bs : List ℕ) (b : ℕ) → NonePass is_escaped bs → is_escaped b ≡ false → NonePass is_escaped (bs ++ b ∷ [])
none_more [] b h e = (e, tt)
none_more (c ∷ bs) b h e = (h.0, none_more bs b h.1 e)

pub none_further : (bs : List ℕ) (i : ℕ) → i < length bs → NonePass is_escaped (take i bs) → is_escaped (get_or bs i 0) ≡ false → NonePass is_escaped (take (i + 1) bs)
none_further bs i h plain e = rw (take_more bs i 0 h) (none_more (take i bs) (get_or bs i 0) plain e)

-- ---- one stretch more

-- a plain front, and what is after it
pub front_written : (text front back done whole : List ℕ) (n : ℕ) → IsUtf8 text → IsCharBoundary text n → NonePass is_escaped (take n text) → front ≡ take n text → back ≡ drop n text
    → done ++ flat_map in_quotes (chars text) ≡ whole → (done ++ front) ++ flat_map in_quotes (chars back) ≡ whole
front_written text front back done whole n utf8 boundary plain is_front is_back all =
    let utf8_front = IsUtf8-take text n utf8 boundary in
    grind (arith, nat_tests, append_assoc, take-append-drop n text, chars-append (take n text) (drop n text) utf8_front, flat_map-append in_quotes (chars (take n text)) (chars (drop n text)), plain_text (take n text) utf8_front plain)

-- the character after it
pub char_written : (text rest done whole : List ℕ) (c : ℕ) → IsUtf8 text → text ≡ encode_utf8 c ++ rest
    → done ++ flat_map in_quotes (chars text) ≡ whole → (done ++ in_quotes c) ++ flat_map in_quotes (chars rest) ≡ whole
char_written text rest done whole c utf8 step all = grind (arith, nat_tests, append_assoc, chars_past_char)
