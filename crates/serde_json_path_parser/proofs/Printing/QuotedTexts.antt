-- A text between single quotes, as it is printed, reads as a string of it.
use Rattle.serde_json_path_parser.proofs.Words.{common_steps, rules, AllByRecursion, AllPass, IsScalar, encode_utf8_all, all_scalars, and_parts, encodes-append, encode_ascii, flat_map, digit_char, chars, IsUtf8, cases_lt, le-ltb, nat_tests, encodes-chars, scalars-chars, hexadecimal_escape, escape_of, in_quotes, quoted, hexadecimal_of, IsHex4, escaped_by, is_plain, IsPiece, plain, quote_escape, letter_escape, hex_escape, pair_escape, Joined, IsQuote, IsString, ◌≡◌, ◌<◌, ℕ, true, List, [], ◌∷◌, ◌++◌, refl, ap, sym, ◌∙◌, arith, lt-ltb, ◌/◌, ◌%◌, ◌==◌, inl, inr, nat_lt, nat_le, Bool, false, if◌then◌else◌, Option, Some, None, unwrap_or, encode_utf8, subst, append-nil, eqb-true, ltb-true, ltb-false}
use Rattle.std.proofs.str.Laws.{scalars-append}
use Rattle.serde_json_path_parser.proofs.Grammar.Strings.{of_quote}

-- ---- bytes encode characters, part by part

-- the bytes encode these characters
pub record Spells (bytes text : List ℕ) : Type 0 where
  pub scalars : all_scalars text ≡ true
  pub encoded : encode_utf8_all text ≡ bytes

-- the bytes encode characters of which this holds
pub record Spelt (Is : List ℕ → Type 0) (bytes : List ℕ) : Type 0 where
  pub characters : List ℕ
  pub spells : Spells bytes characters
  pub is_so : Is characters

pub spell_nothing : Spells [] []
spell_nothing = record { scalars = refl; encoded = refl }

-- the parts of a text that is all scalar values are so too
pub scalars_parts : (s t : List ℕ) → all_scalars (s ++ t) ≡ true → (all_scalars s ≡ true) × (all_scalars t ≡ true)
scalars_parts [] t e = (refl, e)
scalars_parts (c ∷ s) t e =
    let h = and_parts _ (all_scalars (s ++ t)) e in
    let rest = scalars_parts s t h.1 in
    (rw (h.0, rest.0) refl, rest.1)

pub scalars_of : (t a b : List ℕ) → all_scalars t ≡ true → t ≡ a ++ b → (all_scalars a ≡ true) × (all_scalars b ≡ true)
scalars_of t a b e split = scalars_parts a b (ap all_scalars (sym split) ∙ e)

pub spell_both : {a b s t : List ℕ} → Spells a s → Spells b t → Spells (a ++ b) (s ++ t)
spell_both {s = s} {t = t} h g = grind (arith, common_steps, scalars-append, encodes-append)

low_scalar : (c : ℕ) → c < 0xd800 → IsScalar c
low_scalar c low = rw (lt-ltb c 0xd800 low) refl

-- ASCII characters are their own bytes
pub spell_ascii : (t : List ℕ) → AllByRecursion (λ c. c < 128) t → Spells t t
spell_ascii [] h = spell_nothing
spell_ascii (c ∷ t) h =
    let rest = spell_ascii t h.1 in
    record { scalars = rw (low_scalar c (omega (arith, h.0))) rest.scalars; encoded = rw (encode_ascii c h.0, rest.encoded) refl }

-- a sign of one ASCII character
pub spell_sign : (c : ℕ) → c < 128 → Spells (c ∷ []) (c ∷ [])
spell_sign c low = spell_ascii (c ∷ []) (low, tt)

-- a text whose characters pass a test that is for ASCII alone
pub spell_passing : (p : ℕ → Bool) → ((c : ℕ) → p c ≡ true → c < 128) → (t : List ℕ) → AllPass p t → Spells t t
spell_passing p low [] h = spell_nothing
spell_passing p low (c ∷ t) h = spell_both (spell_sign c (low c h.0)) (spell_passing p low t h.1)

pub spelt_nothing : {Is : List ℕ → Type 0} → Is [] → Spelt Is []
spelt_nothing h = record { characters = []; spells = spell_nothing; is_so = h }

module _ {Is Whole : List ℕ → Type 0} {bytes : List ℕ} where
  -- what is so is also something else
  pub spelt_as : ((a : List ℕ) → Is a → Whole a) → Spelt Is bytes → Spelt Whole bytes
  spelt_as good x = record { characters = x.characters; spells = x.spells; is_so = good x.characters x.is_so }

  -- after a sign, and between two
  pub spelt_after : {signed sign : List ℕ} → Spells signed sign → Spelt Is bytes → ((a : List ℕ) → Is a → Whole (sign ++ a)) → Spelt Whole (signed ++ bytes)
  spelt_after {sign = sign} s x good = record { characters = sign ++ x.characters; spells = spell_both s x.spells; is_so = good x.characters x.is_so }

  pub spelt_between : {opened open_sign closed close_sign : List ℕ} → Spells opened open_sign → Spelt Is bytes → Spells closed close_sign
      → ((a : List ℕ) → Is a → Whole ((open_sign ++ a) ++ close_sign)) → Spelt Whole ((opened ++ bytes) ++ closed)
  spelt_between {open_sign = open_sign} {close_sign = close_sign} o x c good =
      search (rules, (spell_both (spell_both o x.spells) c), (good x.characters x.is_so))

-- one part after another
pub spelt_both : {First More Whole : List ℕ → Type 0} {first more : List ℕ} → Spelt First first → Spelt More more
    → ((a b : List ℕ) → First a → More b → Whole (a ++ b)) → Spelt Whole (first ++ more)
spelt_both x y good = search (rules, (spell_both x.spells y.spells), (good x.characters y.characters x.is_so y.is_so))

-- ---- a character as it is printed

-- its escape, or itself
abbrev printed : ℕ → List ℕ
printed c = unwrap_or (escape_of c) (c ∷ [])

-- an escape is a piece of ASCII, and a character without one stands for itself
abbrev IsPrinted : ℕ → Option (List ℕ) → Type 0
IsPrinted c None = is_plain 39 c ≡ true
IsPrinted c (Some escape) = IsPiece 39 escape c × AllByRecursion (λ d. d < 128) escape

choice : (test : Bool) (c : ℕ) (x y : Option (List ℕ)) → (test ≡ true → IsPrinted c x) → (test ≡ false → IsPrinted c y) → IsPrinted c (if test then x else y)
choice test c x y h1 h2 = grind (arith)

-- a backslash and a letter stand for a character
letter_printed : (c d letter : ℕ) → (c == d) ≡ true → letter < 128 → IsPiece 39 (92 ∷ letter ∷ []) d → IsPrinted c (Some (92 ∷ letter ∷ []))
letter_printed c d letter same low piece = (subst (IsPiece 39 (92 ∷ letter ∷ [])) (sym (eqb-true c d same)) piece, (omega arith, (low, tt)))

-- a digit that is printed has its value
hexadecimal_of-digit_char : (d : ℕ) → d < 16 → hexadecimal_of (digit_char d) ≡ Some d
hexadecimal_of-digit_char d small = grind (arith, cases_lt, le-ltb)

digit_char_ascii : (d : ℕ) → d < 16 → digit_char d < 128
digit_char_ascii d small = grind (arith, nat_tests)

hexadecimal_printed : (c : ℕ) → nat_lt c 32 ≡ true → IsPrinted c (Some (hexadecimal_escape c))
hexadecimal_printed c low =
    let below : c < 32 = ltb-true c 32 low in
    let high_digit : c / 16 < 16 = omega arith in
    let low_digit : c % 16 < 16 = omega arith in
    let digits : IsHex4 (48 ∷ 48 ∷ digit_char (c / 16) ∷ digit_char (c % 16) ∷ []) c =
    (_, _, _, _, 0, 0, c / 16, c % 16, refl, refl, refl, hexadecimal_of-digit_char (c / 16) high_digit, hexadecimal_of-digit_char (c % 16) low_digit, omega arith) in
    (hex_escape _ c digits (inl (omega arith)), (omega arith, (omega arith, (omega arith, (omega arith, (digit_char_ascii _ high_digit, (digit_char_ascii _ low_digit, tt)))))))

escape_printed : (c : ℕ) → IsPrinted c (escape_of c)
escape_printed c =
    choice (c == 39) c _ _ (λ e. letter_printed c 39 39 e (omega arith) quote_escape) (λ quote.
    choice (c == 92) c _ _ (λ e. letter_printed c 92 92 e (omega arith) (letter_escape 92 92 refl)) (λ slash.
    choice (c == 8) c _ _ (λ e. letter_printed c 8 98 e (omega arith) (letter_escape 98 8 refl)) (λ not_8.
    choice (c == 9) c _ _ (λ e. letter_printed c 9 116 e (omega arith) (letter_escape 116 9 refl)) (λ not_9.
    choice (c == 10) c _ _ (λ e. letter_printed c 10 110 e (omega arith) (letter_escape 110 10 refl)) (λ not_10.
    choice (c == 12) c _ _ (λ e. letter_printed c 12 102 e (omega arith) (letter_escape 102 12 refl)) (λ not_12.
    choice (c == 13) c _ _ (λ e. letter_printed c 13 114 e (omega arith) (letter_escape 114 13 refl)) (λ not_13.
    choice (nat_lt c 32) c _ _ (hexadecimal_printed c) (λ printable. let from : nat_le 32 c ≡ true = grind (arith, ltb-false c 32 printable) in rw (from, slash, quote) refl))))))))

-- what is printed for a character is a piece that stands for it
module _ (c : ℕ) where
  printed_piece : (o : Option (List ℕ)) → IsPrinted c o → IsPiece 39 (unwrap_or o (c ∷ [])) c
  printed_piece None h = plain c h
  printed_piece (Some escape) h = h.0

  printed_spells : (o : Option (List ℕ)) → IsPrinted c o → IsScalar c → Spells (unwrap_or o (encode_utf8 c)) (unwrap_or o (c ∷ []))
  printed_spells o h1 h2 = grind (arith, append-nil, spell_ascii)

-- ---- a text in quotes

-- the characters of a text as they are printed are pieces that stand for them
text_pieces : (cs : List ℕ) → Joined (IsPiece 39) (flat_map printed cs) cs
text_pieces [] = refl
text_pieces (c ∷ cs) = (printed c, flat_map printed cs, printed_piece c (escape_of c) (escape_printed c), text_pieces cs, refl)

-- and are encoded by the bytes that are printed
text_spells : (cs : List ℕ) → all_scalars cs ≡ true → Spells (flat_map in_quotes cs) (flat_map printed cs)
text_spells [] e = spell_nothing
text_spells (c ∷ cs) e =
    let h = and_parts _ (all_scalars cs) e in
    spell_both (printed_spells c (escape_of c) (escape_printed c) h.0) (text_spells cs h.1)

single_quote : Spells (39 ∷ []) (39 ∷ [])
single_quote = spell_sign 39 (omega arith)

-- the bytes of a text are printed in quotes that read as a string of them
pub quoted_spelt : (bytes : List ℕ) → IsUtf8 bytes → Spelt (λ t. IsString t bytes) (quoted bytes)
quoted_spelt bytes utf8 =
    let cs = chars bytes in
    record {
      characters = 39 ∷ (flat_map printed cs ++ 39 ∷ []);
      spells = spell_both (spell_both single_quote (text_spells cs (scalars-chars bytes utf8))) single_quote;
      is_so = (39, flat_map printed cs, cs, inl refl, text_pieces cs, refl, sym (encodes-chars bytes utf8));
    }

-- ---- a string's bytes are those of a text

hexadecimal_small : (c p : ℕ) → hexadecimal_of c ≡ Some p → p < 16
hexadecimal_small c p e = grind (arith, e)

hex4_small : (text : List ℕ) (n : ℕ) → IsHex4 text n → n < 65536
hex4_small text n (a, b, c, d, p, q, r, s, split, e, f, g, h, value) = search (rules, hexadecimal_small)

high_scalar : (c : ℕ) → 0xdfff < c → c < 0x110000 → IsScalar c
high_scalar c low high = grind (arith, le-ltb)

letter_scalar : (letter c : ℕ) → escaped_by letter ≡ Some c → IsScalar c
letter_scalar letter c e = let ascii : c < 128 = grind (arith, e) in low_scalar c (omega (arith, ascii))

-- a piece stands for a scalar value, where its characters are such
piece_scalar : (quote : ℕ) (text : List ℕ) (c : ℕ) → IsQuote quote → all_scalars text ≡ true → IsPiece quote text c → IsScalar c
piece_scalar quote _ _ is e (plain c h) = (and_parts _ true e).0
piece_scalar quote _ _ is e quote_escape = of_quote IsScalar refl refl quote is
piece_scalar quote _ _ is e (letter_escape letter c h) = letter_scalar letter c h
piece_scalar quote _ _ is e (hex_escape digits c four (inl low)) = low_scalar c low
piece_scalar quote _ _ is e (hex_escape digits c four (inr high)) = high_scalar c high (let small = hex4_small digits c four in omega (arith, small))
piece_scalar quote _ _ is e (pair_escape a b high low h l is_high is_low) = grind (arith, common_steps, high_scalar)

pieces_scalar : (quote : ℕ) (text characters : List ℕ) → IsQuote quote → all_scalars text ≡ true → Joined (IsPiece quote) text characters → all_scalars characters ≡ true
pieces_scalar quote text [] is e pieces = refl
pieces_scalar quote text (c ∷ cs) is e (a, b, piece, more, split) =
    let h = scalars_of text a b e split in
    rw (piece_scalar quote a c is h.0 piece, pieces_scalar quote b cs is h.1 more) refl

-- what reads as a string has its bytes printed in quotes that read so too
pub string_spelt : (t bytes : List ℕ) → all_scalars t ≡ true → IsString t bytes → Spelt (λ t. IsString t bytes) (quoted bytes)
string_spelt t bytes e (quote, inside, characters, is, pieces, split, bytes_of) =
    let h = scalars_of t (quote ∷ []) (inside ++ quote ∷ []) e split in
    let scalars = (scalars_of (inside ++ quote ∷ []) inside (quote ∷ []) h.1 refl).0 in
    quoted_spelt bytes (characters, (pieces_scalar quote inside characters is scalars pieces, sym bytes_of))
