-- A text completes a document where what follows its first byte completes it from what that byte makes of the place.
use Rattle.std.proofs.Common.{◌≡◌, ◌≢◌, ◌==◌, ◌-◌, ℕ, nat_lt, nat_le, nat_eq, Bool, true, false, ◌&&◌, ◌||◌, not, cond, List, [], ◌∷◌, ◌++◌, length, take, drop, Option, Some, None, option_map, refl, sym, ap, ap₂, ◌∙◌, subst, arith, if◌then◌else◌}
use Rattle.std.proofs.lemmas.Bool.{false≢true, true≢false}
use Rattle.std.specs.Char.{is_ascii_digit}
use Rattle.std.specs.Option.{is_some}
use Rattle.std.specs.Prelude.{⊤}
use Rattle.jsonpath_document.proofs.Numbers.{IsBegun, and-true, begun_minus, begun_more, begun_zero, ended, goes_on, rest_from}
use Rattle.jsonpath_document.specs.Reading.{before_byte, begun_with, ends_before, is_exponent, is_sign, may_end}
use Rattle.jsonpath_document.specs.Reading.{after_number as byte_after}
use Rattle.jsonpath_document.specs.declared.reading.Number.{Number}
use Rattle.jsonpath_document.specs.declared.reading.Number.TheVariants.{Minus, Zero, Point, Fraction, Exponent, ExponentSign, Power}
use Rattle.json.specs.Word.{is_operator, is_space}
use Rattle.std.proofs.lemmas.Bool.{agree_below_at, and_right, or_left, true_from_ne_false}
use Rattle.std.proofs.Common.{append_assoc, ◌<◌}
use Rattle.std.proofs.lemmas.Option.{none-some}
use Rattle.json.specs.Lex.{Lexeme, token, comma, colon, lex, lex_byte, between, in_word, in_string, Place, fresh, after_comma, after_key, after_value, begins_colon, if_allowed, may_begin, may_close, place_token, punctuate, string_token}
use Rattle.json.specs.Text.{content, plain}
use Rattle.json.specs.Token as tokens
use Rattle.json.specs.Ascii as ascii
use Rattle.json.specs.Word.{after_number, ends_word, head, literal, number_before, word}
use Rattle.std.specs.List.{starts_with}
use Rattle.serde_json.specs.Read.{number_of}
use Rattle.jsonpath_document.specs.Completes.{after_token, after_value_token, completes, if_standing}
use Rattle.jsonpath_document.specs.Place.{is_blank}
use Rattle.jsonpath_document.specs.Reading.{accepts, accepts_from, after_byte, after_value_byte, begun_by, closed, ends_string, is_number_token, opened, some_if, unless_blank, value_place}
use Rattle.jsonpath_document.specs.declared.reading.Level.{Level}
use Rattle.jsonpath_document.specs.declared.reading.Level.TheVariants.{Array, Object}
use Rattle.jsonpath_document.specs.declared.reading.Next.{Next}
use Rattle.jsonpath_document.specs.declared.reading.Next.TheVariants as next
use Rattle.jsonpath_document.specs.declared.reading.Number.TheVariants.{Whole}
use Rattle.jsonpath_document.specs.declared.reading.Text.TheVariants.{Plain}
use Rattle.jsonpath_document.proofs.Bytes.{Byte, IsOther, blank, quote, backslash, open_brace, close_brace, open_bracket, close_bracket, letter_t, letter_f, letter_n, minus, zero, any_other, byte_is, begun_by-other, begun_digit, lex-blank, lex-other, rest_if, word-other}
use Rattle.jsonpath_document.proofs.Bytes as bytes
use Rattle.jsonpath_document.proofs.Shapes.{HasShape, shape_after, shape_digit, shape_minus, shape_zero}
use Rattle.jsonpath_document.proofs.Strings.{by_table, ends}
use Rattle.json.proofs.Printed.Numbers.{in_word-ended}
use Rattle.json.specs.Lex as lexer
use Rattle.json.specs.Lex.{Mode, in_escape, class, operator, space, other}
use Rattle.std.proofs.lemmas.Bool.Decides.{nat_tests}
use Rattle.std.proofs.lemmas.Bool.{eqb-true, ne_eqb, eqb-false, or_parts}
use Rattle.jsonpath_document.specs.Reading.{after_text, after_word, if_text, is_plain, mode_of, left_of, with_levels}
use Rattle.jsonpath_document.specs.declared.reading.Text.{Text}
use Rattle.jsonpath_document.specs.declared.reading.Text.TheVariants.{Escaped, FirstDigit, SecondDigit, ThirdDigit, FourthDigit, SecondAfterD, PairThirdDigit, PairFourthDigit, PairBackslash, PairEscaped, PairFirstDigit, PairSecondDigit}
use Rattle.jsonpath_document.specs.declared.reading.Word.{Word}
use Rattle.jsonpath_document.specs.declared.reading.Word.TheVariants.{Rue, Ue, Alse, Lse, Se, E, Ull, Ll, L}
use Rattle.std.specs.Char.{is_ascii_hexdigit}
use Rattle.std.specs.Int.{is_in_range}
use Rattle.jsonpath_document.specs.Begins.{is_d, is_escape, is_first_half, is_second_half}
use Rattle.jsonpath_document.proofs.Bytes.{space_is}

-- ---- tokens that complete nothing

pub bad_never : (w : Bool) (levels : List Level) → completes (tokens.bad ∷ []) w levels ≡ false
unfolding completes
bad_never true levels = refl
bad_never false [] = refl
bad_never false (Array ∷ levels) = refl
bad_never false (Object ∷ levels) = refl

abbrev number_text : List ℕ → List ℕ → List ℕ
number_text t r = take (length t - length r) t

-- a number, a word, or none that JSON has
data IsWord : tokens.Token → Type 0 where
  a_number : (s : List ℕ) → IsWord (tokens.number s)
  a_boolean : (b : Bool) → IsWord (tokens.boolean b)
  a_null : IsWord tokens.null
  none_at_all : IsWord tokens.bad

either_word : {t u : tokens.Token} (b : Bool) → IsWord t → IsWord u → IsWord (cond b t u)
either_word true t u = t
either_word false t u = u

number_is_word : (t : List ℕ) (o : Option (List ℕ)) → IsWord (number_before t o)
number_is_word t None = none_at_all
number_is_word t (Some r) = either_word (ends_word r) (a_number _) none_at_all

literal_is_word : {u : tokens.Token} (name t : List ℕ) → IsWord u → IsWord (literal name u t)
literal_is_word name t u = either_word (starts_with nat_eq t name && ends_word (drop (length name) t)) u none_at_all

word_is_word : (t : List ℕ) → IsWord (word t)
unfolding word
word_is_word t =
    either_word (head t == 116) (literal_is_word ascii.true_text t (a_boolean true)) (either_word (head t == 102) (literal_is_word ascii.false_text t (a_boolean false))
    (either_word (head t == 110) (literal_is_word ascii.null_text t a_null) (number_is_word t (after_number t))))

-- no value follows a value, or a name
late_word : (p : Place) (t : tokens.Token) (c : Bool) (k : Place → List tokens.Token) → may_begin p ≡ false → IsWord t → place_token p t c k ≡ tokens.bad ∷ []
late_word p t c k may (a_number s) = ap (λ b. if_allowed b (tokens.number s) k after_value) may
late_word p t c k may (a_boolean b) = ap (λ z. if_allowed z (tokens.boolean b) k after_value) may
late_word p t c k may a_null = ap (λ b. if_allowed b tokens.null k after_value) may
late_word p t c k may none_at_all = refl

late_string : (p : Place) (o : Option (List ℕ)) (c : Bool) (k : Place → List tokens.Token) → may_begin p ≡ false → place_token p (string_token o) c k ≡ tokens.bad ∷ []
late_string p None c k may = refl
late_string p (Some s) true k may = ap (λ b. if_allowed b (tokens.key s) k after_key) may
late_string p (Some s) false k may = ap (λ b. if_allowed b (tokens.string s) k after_value) may

late_colon : (ls : List Lexeme) → begins_colon ls ≡ true → punctuate after_value ls ≡ tokens.bad ∷ []
unfolding punctuate
late_colon [] e = absurd (false≢true e)
late_colon (token t ∷ ls) e = absurd (false≢true e)
late_colon (comma ∷ ls) e = absurd (false≢true e)
late_colon (colon ∷ ls) e = refl

no_colon : (ls : List Lexeme) → begins_colon ls ≡ false → punctuate after_key ls ≡ tokens.bad ∷ []
unfolding punctuate
no_colon [] e = refl
no_colon (token tokens.begin_object ∷ ls) e = refl
no_colon (token tokens.end_object ∷ ls) e = refl
no_colon (token tokens.begin_array ∷ ls) e = refl
no_colon (token tokens.end_array ∷ ls) e = refl
no_colon (token (tokens.key s) ∷ ls) e = refl
no_colon (token (tokens.string s) ∷ ls) e = late_string after_key (Some s) (begins_colon ls) (λ m. punctuate m ls) refl
no_colon (token (tokens.number s) ∷ ls) e = refl
no_colon (token (tokens.boolean b) ∷ ls) e = refl
no_colon (token tokens.null ∷ ls) e = refl
no_colon (token tokens.bad ∷ ls) e = refl
no_colon (comma ∷ ls) e = refl
no_colon (colon ∷ ls) e = absurd (true≢false e)

-- ---- where a value begins

-- a value may begin here: one must, or one may in an array
abbrev IsBeforeValue : Bool → List Level → Type 0
IsBeforeValue w levels = (t : tokens.Token) → t ≢ tokens.end_array → after_token w levels t ≡ after_value_token levels t

value_wanted : (levels : List Level) → IsBeforeValue true levels
value_wanted levels t n = refl

in_array : (levels : List Level) → IsBeforeValue false (Array ∷ levels)
in_array levels tokens.begin_object n = refl
in_array levels tokens.end_object n = refl
in_array levels tokens.begin_array n = refl
in_array levels tokens.end_array n = absurd (n refl)
in_array levels (tokens.key s) n = refl
in_array levels (tokens.string s) n = refl
in_array levels (tokens.number s) n = refl
in_array levels (tokens.boolean b) n = refl
in_array levels tokens.null n = refl
in_array levels tokens.bad n = refl

marks : (p : Place) → may_begin p ≡ true → (ls : List Lexeme) (w : Bool) (levels : List Level)
    → (completes (punctuate p (comma ∷ ls)) w levels ≡ false) × (completes (punctuate p (colon ∷ ls)) w levels ≡ false)
unfolding punctuate
marks fresh may ls w levels = (bad_never w levels, bad_never w levels)
marks after_value may ls w levels = absurd (false≢true may)
marks after_comma may ls w levels = (bad_never w levels, bad_never w levels)
marks after_key may ls w levels = absurd (false≢true may)

module _ (p : Place) (may : may_begin p ≡ true) (w : Bool) (levels : List Level) (before : IsBeforeValue w levels) where
  -- by a token that may begin a value
  by_token : (t : tokens.Token) (ts : List tokens.Token) → t ≢ tokens.end_array
      → completes (t ∷ ts) w levels ≡ if_standing (after_value_token levels t) (λ v l. completes ts v l)
  unfolding completes
  by_token t ts n = ap (λ s. if_standing s (λ v l. completes ts v l)) (before t n)

  by_bad : (ls : List Lexeme) → completes (punctuate p (token tokens.bad ∷ ls)) w levels ≡ false
  unfolding punctuate
  by_bad ls = bad_never w levels

  by_word : (t : tokens.Token) (ls : List Lexeme) (good : Bool) → t ≢ tokens.end_array → place_token p t (begins_colon ls) (λ m. punctuate m ls) ≡ if_allowed (may_begin p) t (λ m. punctuate m ls) after_value
      → after_value_token levels t ≡ (if good then Some (false, levels) else None)
      → completes (punctuate p (token t ∷ ls)) w levels ≡ good && completes (punctuate after_value ls) false levels
  unfolding punctuate
  by_word t ls good n is e =
      ap (λ ts. completes ts w levels) (is ∙ ap (λ b. if_allowed b t (λ m. punctuate m ls) after_value) may) ∙ by_token t (punctuate after_value ls) n
      ∙ ap (λ s. if_standing s (λ v l. completes (punctuate after_value ls) v l)) e
      ∙ (elim good as (λ g. if_standing (if g then Some (false, levels) else None) (λ v l. completes (punctuate after_value ls) v l) ≡ g && completes (punctuate after_value ls) false levels) [ true ↦ refl | false ↦ refl ])

  by_number : (t : List ℕ) (o : Option (List ℕ)) (ls : List Lexeme)
      → completes (punctuate p (token (number_before t o) ∷ ls)) w levels ≡ is_number_token (number_before t o) && completes (punctuate after_value ls) false levels
  by_number t None ls = by_bad ls
  by_number t (Some r) ls =
      elim (ends_word r) as (λ e. completes (punctuate p (token (cond e (tokens.number (number_text t r)) tokens.bad) ∷ ls)) w levels
      ≡ is_number_token (cond e (tokens.number (number_text t r)) tokens.bad) && completes (punctuate after_value ls) false levels)
      [ true ↦ by_word (tokens.number (number_text t r)) ls (is_some (number_of (number_text t r))) (λ e. cc) refl refl | false ↦ by_bad ls ]

  by_literal : (b : Bool) (t : tokens.Token) (ls : List Lexeme) → t ≢ tokens.end_array → place_token p t (begins_colon ls) (λ m. punctuate m ls) ≡ if_allowed (may_begin p) t (λ m. punctuate m ls) after_value
      → after_value_token levels t ≡ Some (false, levels)
      → completes (punctuate p (token (cond b t tokens.bad) ∷ ls)) w levels ≡ b && completes (punctuate after_value ls) false levels
  by_literal true t ls n is e = by_word t ls true n is e
  by_literal false t ls n is e = by_bad ls

  by_string : (o : Option (List ℕ)) (ls : List Lexeme) → completes (punctuate p (token (string_token o) ∷ ls)) w levels ≡ is_some o && completes (punctuate after_value ls) false levels
  unfolding punctuate completes
  by_string None ls = by_bad ls
  by_string (Some s) ls =
      let each : (c : Bool) → begins_colon ls ≡ c → completes (place_token p (tokens.string s) c (λ m. punctuate m ls)) w levels ≡ completes (punctuate after_value ls) false levels =
      λ c. elim c as (λ c. begins_colon ls ≡ c → completes (place_token p (tokens.string s) c (λ m. punctuate m ls)) w levels ≡ completes (punctuate after_value ls) false levels) [
        | true ↦ λ e. ap (λ b. completes (if_allowed b (tokens.key s) (λ m. punctuate m ls) after_key) w levels) may ∙ by_token (tokens.key s) (punctuate after_key ls) (λ e. cc)
            ∙ sym (bad_never false levels) ∙ ap (λ ts. completes ts false levels) (sym (late_colon ls e))
        | false ↦ λ e. ap (λ b. completes (if_allowed b (tokens.string s) (λ m. punctuate m ls) after_value) w levels) may ∙ by_token (tokens.string s) (punctuate after_value ls) (λ e. cc)
      ] in
      each (begins_colon ls) refl

  by_mark : (ls : List Lexeme) → (completes (punctuate p (comma ∷ ls)) w levels ≡ false) × (completes (punctuate p (colon ∷ ls)) w levels ≡ false)
  by_mark ls = marks p may ls w levels

  by_opening : (t : tokens.Token) (level : Level) (following : Next) (ls : List Lexeme) → t ≢ tokens.end_array
      → place_token p t (begins_colon ls) (λ m. punctuate m ls) ≡ if_allowed (may_begin p) t (λ m. punctuate m ls) fresh
      → after_value_token levels t ≡ (if nat_lt (length levels) 127 then Some (false, level ∷ levels) else None)
      → (begun rest : List ℕ) → ls ≡ lex between rest → accepts (level ∷ levels) following begun rest ≡ completes (punctuate fresh (lex between rest)) false (level ∷ levels)
      → completes (punctuate p (token t ∷ ls)) w levels ≡ accepts_from (opened level following levels) begun rest
  unfolding punctuate
  by_opening t level following ls n is e begun rest le f =
      ap (λ ts. completes ts w levels) (is ∙ ap (λ b. if_allowed b t (λ m. punctuate m ls) fresh) may) ∙ by_token t (punctuate fresh ls) n
      ∙ ap (λ s. if_standing s (λ v l. completes (punctuate fresh ls) v l)) e
      ∙ (elim (nat_lt (length levels) 127) as (λ g. if_standing (if g then Some (false, level ∷ levels) else None) (λ v l. completes (punctuate fresh ls) v l) ≡ accepts_from (some_if g (level ∷ levels, following)) begun rest)
      [ true ↦ ap (λ l. completes (punctuate fresh l) false (level ∷ levels)) le ∙ sym f | false ↦ refl ])

  by_end_array : (ls : List Lexeme) → w ≡ true → completes (punctuate p (token tokens.end_array ∷ ls)) w levels ≡ false
  unfolding punctuate completes
  by_end_array ls e =
      let wanted : (b : Bool) → completes (if_allowed b tokens.end_array (λ m. punctuate m ls) after_value) true levels ≡ false =
      λ b. elim b as (λ b. completes (if_allowed b tokens.end_array (λ m. punctuate m ls) after_value) true levels ≡ false) [ true ↦ refl | false ↦ refl ] in
      ap (λ v. completes (punctuate p (token tokens.end_array ∷ ls)) v levels) e ∙ wanted (may_close p)

  by_end_object : (ls : List Lexeme) → completes (punctuate p (token tokens.end_object ∷ ls)) w levels ≡ false
  unfolding punctuate
  by_end_object ls =
      elim (may_close p) as (λ b. completes (if_allowed b tokens.end_object (λ m. punctuate m ls) after_value) w levels ≡ false)
      [ true ↦ by_token tokens.end_object (punctuate after_value ls) (λ e. cc) | false ↦ bad_never w levels ]

  value_begins : (b : ℕ) (r : List ℕ) → Byte b → is_blank b ≡ false → (b ≡ 93 → w ≡ true)
      → completes (punctuate p (lex between (b ∷ r))) w levels ≡ accepts_from (begun_by levels b) (b ∷ []) r
  unfolding lex accepts word
  value_begins _ r (blank b e) solid bracket = absurd (true≢false (sym e ∙ solid))
  value_begins b r quote solid bracket = by_string (content plain r) (lex in_string r) ∙ ap (λ o. o && completes (punctuate after_value (lex in_string r)) false levels) (ends plain r)
  value_begins b r backslash solid bracket = by_bad (lex in_word r)
  value_begins b r open_brace solid bracket = by_opening tokens.begin_object Object next.FirstName (lex between r) (λ e. cc) refl refl (123 ∷ []) r refl refl
  value_begins b r close_brace solid bracket = by_end_object (lex between r)
  value_begins b r open_bracket solid bracket = by_opening tokens.begin_array Array next.FirstItem (lex between r) (λ e. cc) refl refl (91 ∷ []) r refl refl
  value_begins b r close_bracket solid bracket = by_end_array (lex between r) (bracket refl)
  value_begins b r bytes.colon solid bracket = (by_mark (lex between r)).1
  value_begins b r bytes.comma solid bracket = (by_mark (lex between r)).0
  value_begins b r letter_t solid bracket = by_literal _ (tokens.boolean true) (lex in_word r) (λ e. cc) refl refl
  value_begins b r letter_f solid bracket = by_literal _ (tokens.boolean false) (lex in_word r) (λ e. cc) refl refl
  value_begins b r letter_n solid bracket = by_literal _ tokens.null (lex in_word r) (λ e. cc) refl refl
  value_begins b r minus solid bracket = by_number (45 ∷ r) (after_number (45 ∷ r)) (lex in_word r)
  value_begins b r zero solid bracket = by_number (48 ∷ r) (after_number (48 ∷ r)) (lex in_word r)
  value_begins _ r (any_other b h) solid bracket =
      let after = completes (punctuate after_value (lex in_word r)) false levels in
      let goal : Bool → Type 0 = λ d. is_number_token (word (b ∷ r)) && after ≡ accepts_from (some_if d (levels, next.Number Whole)) (b ∷ []) r in
      let each : (d : Bool) → is_ascii_digit b ≡ d → goal d = λ d. elim d as (λ d. is_ascii_digit b ≡ d → goal d) [
        | true ↦ λ e. refl
        | false ↦ λ e. ap (λ t. is_number_token t && after) (word-other b r h ∙ ap (λ z. number_before (b ∷ r) (rest_if z r)) e)
      ] in
      ap (λ ls. completes (punctuate p ls) w levels) (lex-other b r h) ∙ ap (λ t. completes (punctuate p (token t ∷ lex in_word r)) w levels) (word-other b r h)
      ∙ by_number (b ∷ r) (rest_if (is_ascii_digit b) r) (lex in_word r)
      ∙ ap (λ t. is_number_token t && after) (sym (word-other b r h))
      ∙ each (is_ascii_digit b) refl ∙ ap (λ o. accepts_from o (b ∷ []) r) (sym (begun_by-other levels b h))

-- ---- where nothing but a mark may stand

-- a comma between items, and then a value
comma_in_array : (levels : List Level) (ls : List Lexeme) → completes (punctuate after_comma ls) false (Array ∷ levels) ≡ completes (punctuate after_comma ls) true (Array ∷ levels)
unfolding punctuate completes
comma_in_array levels [] = refl
comma_in_array levels (comma ∷ ls) = refl
comma_in_array levels (colon ∷ ls) = refl
comma_in_array levels (token tokens.begin_object ∷ ls) = refl
comma_in_array levels (token tokens.end_object ∷ ls) = refl
comma_in_array levels (token tokens.begin_array ∷ ls) = refl
comma_in_array levels (token tokens.end_array ∷ ls) = refl
comma_in_array levels (token (tokens.key s) ∷ ls) = refl
comma_in_array levels (token (tokens.string s) ∷ ls) =
    elim (begins_colon ls) as (λ c. completes (place_token after_comma (tokens.string s) c (λ m. punctuate m ls)) false (Array ∷ levels)
    ≡ completes (place_token after_comma (tokens.string s) c (λ m. punctuate m ls)) true (Array ∷ levels)) [ true ↦ refl | false ↦ refl ]
comma_in_array levels (token (tokens.number s) ∷ ls) = refl
comma_in_array levels (token (tokens.boolean b) ∷ ls) = refl
comma_in_array levels (token tokens.null ∷ ls) = refl
comma_in_array levels (token tokens.bad ∷ ls) = refl

-- nothing ends after a comma
comma_at_end : (ls : List Lexeme) → completes (punctuate after_comma ls) false [] ≡ false
unfolding punctuate completes
comma_at_end [] = refl
comma_at_end (comma ∷ ls) = refl
comma_at_end (colon ∷ ls) = refl
comma_at_end (token tokens.begin_object ∷ ls) = refl
comma_at_end (token tokens.end_object ∷ ls) = refl
comma_at_end (token tokens.begin_array ∷ ls) = refl
comma_at_end (token tokens.end_array ∷ ls) = refl
comma_at_end (token (tokens.key s) ∷ ls) = refl
comma_at_end (token (tokens.string s) ∷ ls) =
    elim (begins_colon ls) as (λ c. completes (place_token after_comma (tokens.string s) c (λ m. punctuate m ls)) false [] ≡ false) [ true ↦ refl | false ↦ refl ]
comma_at_end (token (tokens.number s) ∷ ls) = refl
comma_at_end (token (tokens.boolean b) ∷ ls) = refl
comma_at_end (token tokens.null ∷ ls) = refl
comma_at_end (token tokens.bad ∷ ls) = refl

none_follows : (p : Place) (t : tokens.Token) (ls : List Lexeme) (w : Bool) (levels : List Level) → place_token p t (begins_colon ls) (λ m. punctuate m ls) ≡ tokens.bad ∷ []
    → completes (punctuate p (token t ∷ ls)) w levels ≡ false
unfolding punctuate
none_follows p t ls w levels e = ap (λ ts. completes ts w levels) e ∙ bad_never w levels

pub after_other : (levels : List Level) (b : ℕ) → IsOther b → after_value_byte levels b ≡ None
after_other [] b h = refl
after_other (Array ∷ levels) b h = rw (h.not_44, h.not_93) refl
after_other (Object ∷ levels) b h = rw (h.not_44, h.not_125) refl

-- a byte of none of these ends nothing
after_mark : (levels : List Level) (b : ℕ) → (b == 44) ≡ false → (b == 93) ≡ false → (b == 125) ≡ false → after_value_byte levels b ≡ None
after_mark [] b e f g = refl
after_mark (Array ∷ levels) b e f g = rw (e, f) refl
after_mark (Object ∷ levels) b e f g = rw (e, g) refl

module _ (levels : List Level) (begun : List ℕ) where
  value_ended : (b : ℕ) (r : List ℕ) → Byte b → completes (punctuate after_value (lex between (b ∷ r))) false levels ≡ accepts_from (after_byte levels next.AfterValue b) begun r
  unfolding lex punctuate accepts completes
  value_ended _ r (blank b e) = ap (λ ls. completes (punctuate after_value ls) false levels) (lex-blank b r e) ∙ ap (λ z. accepts_from (if z then Some (levels, next.AfterValue) else after_value_byte levels b) begun r) (sym e)
  value_ended b r quote =
      none_follows after_value _ (lex in_string r) false levels (late_string after_value (content plain r) _ _ refl) ∙ ap (λ o. accepts_from o begun r) (sym (after_mark levels 34 refl refl refl))
  value_ended b r backslash = bad_never false levels ∙ ap (λ o. accepts_from o begun r) (sym (after_mark levels 92 refl refl refl))
  value_ended b r open_brace = bad_never false levels ∙ ap (λ o. accepts_from o begun r) (sym (after_mark levels 123 refl refl refl))
  value_ended b r open_bracket = bad_never false levels ∙ ap (λ o. accepts_from o begun r) (sym (after_mark levels 91 refl refl refl))
  value_ended b r close_brace =
      elim levels as (λ ls. completes (punctuate after_value (lex between (125 ∷ r))) false ls ≡ accepts_from (after_byte ls next.AfterValue 125) begun r)
      [ [] ↦ refl | level ∷ ls ↦ elim level as (λ l. completes (punctuate after_value (lex between (125 ∷ r))) false (l ∷ ls) ≡ accepts_from (after_byte (l ∷ ls) next.AfterValue 125) begun r) [ Array ↦ refl | Object ↦ refl ] ]
  value_ended b r close_bracket =
      elim levels as (λ ls. completes (punctuate after_value (lex between (93 ∷ r))) false ls ≡ accepts_from (after_byte ls next.AfterValue 93) begun r)
      [ [] ↦ refl | level ∷ ls ↦ elim level as (λ l. completes (punctuate after_value (lex between (93 ∷ r))) false (l ∷ ls) ≡ accepts_from (after_byte (l ∷ ls) next.AfterValue 93) begun r) [ Array ↦ refl | Object ↦ refl ] ]
  value_ended b r bytes.colon = bad_never false levels ∙ ap (λ o. accepts_from o begun r) (sym (after_mark levels 58 refl refl refl))
  value_ended b r bytes.comma =
      elim levels as (λ ls. completes (punctuate after_value (lex between (44 ∷ r))) false ls ≡ accepts_from (after_byte ls next.AfterValue 44) begun r) [
        | [] ↦ comma_at_end (lex between r)
        | level ∷ ls ↦ elim level as (λ l. completes (punctuate after_value (lex between (44 ∷ r))) false (l ∷ ls) ≡ accepts_from (after_byte (l ∷ ls) next.AfterValue 44) begun r)
            [ Array ↦ comma_in_array ls (lex between r) | Object ↦ refl ]
      ]
  value_ended b r letter_t =
      none_follows after_value _ (lex in_word r) false levels (late_word after_value _ _ _ refl (word_is_word (116 ∷ r))) ∙ ap (λ o. accepts_from o begun r) (sym (after_mark levels 116 refl refl refl))
  value_ended b r letter_f =
      none_follows after_value _ (lex in_word r) false levels (late_word after_value _ _ _ refl (word_is_word (102 ∷ r))) ∙ ap (λ o. accepts_from o begun r) (sym (after_mark levels 102 refl refl refl))
  value_ended b r letter_n =
      none_follows after_value _ (lex in_word r) false levels (late_word after_value _ _ _ refl (word_is_word (110 ∷ r))) ∙ ap (λ o. accepts_from o begun r) (sym (after_mark levels 110 refl refl refl))
  value_ended b r minus =
      none_follows after_value _ (lex in_word r) false levels (late_word after_value _ _ _ refl (word_is_word (45 ∷ r))) ∙ ap (λ o. accepts_from o begun r) (sym (after_mark levels 45 refl refl refl))
  value_ended b r zero =
      none_follows after_value _ (lex in_word r) false levels (late_word after_value _ _ _ refl (word_is_word (48 ∷ r))) ∙ ap (λ o. accepts_from o begun r) (sym (after_mark levels 48 refl refl refl))
  value_ended _ r (any_other b h) =
      ap (λ ls. completes (punctuate after_value ls) false levels) (lex-other b r h)
      ∙ none_follows after_value _ (lex in_word r) false levels (late_word after_value _ _ _ refl (word_is_word (b ∷ r)))
      ∙ ap (λ o. accepts_from o begun r) (sym (ap (λ z. if z then Some (levels, next.AfterValue) else after_value_byte levels b) h.not_blank ∙ after_other levels b h))

-- ---- words

ends_before_mark : (x : ℕ) (xs : List ℕ) → ends_word (x ∷ xs) ≡ false → (is_blank x ≡ false) × ((x == 44) ≡ false) × ((x == 93) ≡ false) × ((x == 125) ≡ false)
ends_before_mark x xs e =
    let both = or_parts _ _ e in
    let six = or_parts _ _ both.0 in
    let five = or_parts _ _ six.0 in
    let four = or_parts _ _ five.0 in
    let three = or_parts _ _ four.0 in
    let two = or_parts _ _ three.0 in
    (sym (space_is x) ∙ both.1, six.1, four.1, two.1)

-- what follows a word that has ended
pub word_over : (levels : List Level) (r : List ℕ)
    → ends_word r && completes (punctuate after_value (lex in_word r)) false levels ≡ completes (punctuate after_value (lex between r)) false levels
unfolding lex
word_over levels [] = refl
word_over levels (x ∷ xs) =
    let goal : Bool → Type 0 = λ w. w && completes (punctuate after_value (lex in_word (x ∷ xs))) false levels ≡ completes (punctuate after_value (lex between (x ∷ xs))) false levels in
    let each : (w : Bool) → ends_word (x ∷ xs) ≡ w → goal w = λ w. elim w as (λ w. ends_word (x ∷ xs) ≡ w → goal w) [
      | true ↦ λ e. ap (λ ls. completes (punctuate after_value ls) false levels) (in_word-ended (x ∷ xs) e)
      | false ↦ λ e.
          let none = ends_before_mark x xs e in
          sym (value_ended levels [] x xs (byte_is x)
          ∙ ap (λ o. accepts_from o [] xs) (ap (λ z. if z then Some (levels, next.AfterValue) else after_value_byte levels x) none.0 ∙ after_mark levels x none.1 none.2 none.3))
    ] in
    each (ends_word (x ∷ xs)) refl

by_byte : (levels : List Level) (begun r : List ℕ) (b c : ℕ) (n : Next) (f : ℕ → Bool) → f c ≡ accepts levels n begun r → ((nat_eq c b) ≡ false → f b ≡ false)
    → f b ≡ accepts_from (with_levels levels (some_if (b == c) n)) begun r
by_byte levels begun r b c n f same none =
    let goal : Bool → Type 0 = λ z. f b ≡ accepts_from (with_levels levels (some_if z n)) begun r in
    let each : (z : Bool) → (b == c) ≡ z → goal z = λ z. elim z as (λ z. (b == c) ≡ z → goal z) [
      | true ↦ λ e. ap f (eqb-true b c e) ∙ same
      | false ↦ λ e. none (ne_eqb c b (λ q. eqb-false b c e (sym q)))
    ] in
    each (b == c) refl

module _ (levels : List Level) (begun more r : List ℕ) (b : ℕ) where
  abbrev goes_as : List ℕ → ℕ → Bool
  goes_as w x = (starts_with nat_eq (x ∷ r) w && ends_word (drop (length w) (x ∷ r))) && completes (punctuate after_value (lex in_word (x ∷ r))) false levels

  word_goes : (w : Word) → accepts levels (next.Word w) begun (b ∷ r) ≡ accepts_from (with_levels levels (after_word w b)) more r
  unfolding accepts lex
  word_goes Rue = by_byte levels more r b 114 (next.Word Ue) (goes_as (left_of Rue)) refl (λ e. rw e refl)
  word_goes Ue = by_byte levels more r b 117 (next.Word E) (goes_as (left_of Ue)) refl (λ e. rw e refl)
  word_goes Alse = by_byte levels more r b 97 (next.Word Lse) (goes_as (left_of Alse)) refl (λ e. rw e refl)
  word_goes Lse = by_byte levels more r b 108 (next.Word Se) (goes_as (left_of Lse)) refl (λ e. rw e refl)
  word_goes Se = by_byte levels more r b 115 (next.Word E) (goes_as (left_of Se)) refl (λ e. rw e refl)
  word_goes E = by_byte levels more r b 101 next.AfterValue (goes_as (left_of E)) (word_over levels r) (λ e. rw e refl)
  word_goes Ull = by_byte levels more r b 117 (next.Word Ll) (goes_as (left_of Ull)) refl (λ e. rw e refl)
  word_goes Ll = by_byte levels more r b 108 (next.Word L) (goes_as (left_of Ll)) refl (λ e. rw e refl)
  word_goes L = by_byte levels more r b 108 next.AfterValue (goes_as (left_of L)) (word_over levels r) (λ e. rw e refl)

-- ---- strings

plain_class : (q s o p : Bool) (x : ℕ) (xs : List ℕ) (k : Mode → List Lexeme) → q ≡ false → s ≡ false
    → lex_byte in_string (cond q lexer.quote (cond s lexer.backslash (cond o operator (cond p space other)))) x xs k ≡ k in_string
plain_class q s true p x xs k e f = rw (e, f) refl
plain_class q s false true x xs k e f = rw (e, f) refl
plain_class q s false false x xs k e f = rw (e, f) refl

stays : (b : ℕ) (r : List ℕ) → (b == 34) ≡ false → (b == 92) ≡ false → lex in_string (b ∷ r) ≡ lex in_string r
unfolding lex
stays b r e f = plain_class (b == 34) (b == 92) _ _ b r (λ m. lex m r) e f

hex_stays : (b : ℕ) (r : List ℕ) → is_ascii_hexdigit b ≡ true → lex in_string (b ∷ r) ≡ lex in_string r
hex_stays b r h = stays b r (by_table (λ a. a == 34) (λ a. false) refl b h) (by_table (λ a. a == 92) (λ a. false) refl b h)

d_stays : (b : ℕ) (r : List ℕ) → is_d b ≡ true → lex in_string (b ∷ r) ≡ lex in_string r
d_stays b r h = hex_stays b r (grind (arith, nat_tests))

first_stays : (b : ℕ) (r : List ℕ) → is_first_half b ≡ true → lex in_string (b ∷ r) ≡ lex in_string r
first_stays b r h = hex_stays b r (grind (arith, nat_tests))

second_stays : (b : ℕ) (r : List ℕ) → is_second_half b ≡ true → lex in_string (b ∷ r) ≡ lex in_string r
second_stays b r h = hex_stays b r (grind (arith, nat_tests))

octal_stays : (b : ℕ) (r : List ℕ) → is_in_range 48 55 b ≡ true → lex in_string (b ∷ r) ≡ lex in_string r
octal_stays b r h = hex_stays b r (grind (arith, nat_tests))

backslash_moves : (b : ℕ) (r : List ℕ) → (b == 92) ≡ true → lex in_string (b ∷ r) ≡ lex in_escape r
unfolding lex
backslash_moves b r h = ap (λ x. lex in_string (x ∷ r)) (eqb-true b 92 h)

module _ (good : List Lexeme → Bool) (b : ℕ) (r : List ℕ) where
  abbrev Goes : Text → Option Text → Type 0
  Goes t o = if_text o (λ m. ends_string r m) && good (lex (mode_of t) (b ∷ r)) ≡ if_text o (λ m. ends_string r m && good (lex (mode_of m) r))

  one_way : (t m : Text) (c : Bool) → (c ≡ true → lex (mode_of t) (b ∷ r) ≡ lex (mode_of m) r) → Goes t (some_if c m)
  one_way t m true e = ap (λ ls. ends_string r m && good ls) (e refl)
  one_way t m false e = refl

  two_ways : (t m n : Text) (c d : Bool) → (c ≡ true → lex (mode_of t) (b ∷ r) ≡ lex (mode_of m) r) → (d ≡ true → c ≡ false → lex (mode_of t) (b ∷ r) ≡ lex (mode_of n) r)
      → Goes t (if c then Some m else some_if d n)
  two_ways t m n true d e f = ap (λ ls. ends_string r m && good ls) (e refl)
  two_ways t m n false d e f = one_way t n d (λ g. f g refl)

  text_goes : (t : Text) → is_plain t && b == 34 ≡ false → Goes t (after_text t b)
  unfolding lex
  text_goes Plain q = two_ways Plain Escaped Plain (b == 92) (nat_le 32 b) (backslash_moves b r) (λ e f. stays b r q f)
  text_goes Escaped q = two_ways Escaped FirstDigit Plain (b == 117) (is_escape b) (λ e. refl) (λ e f. refl)
  text_goes FirstDigit q = two_ways FirstDigit SecondAfterD SecondDigit (is_d b) (is_ascii_hexdigit b) (d_stays b r) (λ e f. hex_stays b r e)
  text_goes SecondDigit q = one_way SecondDigit ThirdDigit (is_ascii_hexdigit b) (hex_stays b r)
  text_goes ThirdDigit q = one_way ThirdDigit FourthDigit (is_ascii_hexdigit b) (hex_stays b r)
  text_goes FourthDigit q = one_way FourthDigit Plain (is_ascii_hexdigit b) (hex_stays b r)
  text_goes SecondAfterD q = two_ways SecondAfterD PairThirdDigit ThirdDigit (is_first_half b) (is_in_range 48 55 b) (first_stays b r) (λ e f. octal_stays b r e)
  text_goes PairThirdDigit q = one_way PairThirdDigit PairFourthDigit (is_ascii_hexdigit b) (hex_stays b r)
  text_goes PairFourthDigit q = one_way PairFourthDigit PairBackslash (is_ascii_hexdigit b) (hex_stays b r)
  text_goes PairBackslash q = one_way PairBackslash PairEscaped (b == 92) (backslash_moves b r)
  text_goes PairEscaped q = one_way PairEscaped PairFirstDigit (b == 117) (λ e. refl)
  text_goes PairFirstDigit q = one_way PairFirstDigit PairSecondDigit (is_d b) (d_stays b r)
  text_goes PairSecondDigit q = one_way PairSecondDigit ThirdDigit (is_second_half b) (second_stays b r)

  text_ends : (t : Text) → is_plain t && b == 34 ≡ true → good (lex (mode_of t) (b ∷ r)) ≡ good (lex between r)
  unfolding lex
  text_ends Plain q = ap (λ x. good (lex in_string (x ∷ r))) (eqb-true b 34 q)
  text_ends Escaped q = absurd (false≢true q)
  text_ends FirstDigit q = absurd (false≢true q)
  text_ends SecondDigit q = absurd (false≢true q)
  text_ends ThirdDigit q = absurd (false≢true q)
  text_ends FourthDigit q = absurd (false≢true q)
  text_ends SecondAfterD q = absurd (false≢true q)
  text_ends PairThirdDigit q = absurd (false≢true q)
  text_ends PairFourthDigit q = absurd (false≢true q)
  text_ends PairBackslash q = absurd (false≢true q)
  text_ends PairEscaped q = absurd (false≢true q)
  text_ends PairFirstDigit q = absurd (false≢true q)
  text_ends PairSecondDigit q = absurd (false≢true q)

module _ (levels : List Level) (begun more : List ℕ) (b : ℕ) (r : List ℕ) (t : Text) where
  in_text : accepts levels (next.Text t) begun (b ∷ r) ≡ accepts_from (after_byte levels (next.Text t) b) more r
  unfolding accepts ends_string
  in_text =
      let good : List Lexeme → Bool = λ ls. completes (punctuate after_value ls) false levels in
      let goal : Bool → Type 0 = λ q. (if q then true else if_text (after_text t b) (λ m. ends_string r m)) && good (lex (mode_of t) (b ∷ r))
      ≡ accepts_from (if q then Some (levels, next.AfterValue) else with_levels levels (option_map next.Text (after_text t b))) more r in
      let same : (o : Option Text) → if_text o (λ m. ends_string r m && good (lex (mode_of m) r)) ≡ accepts_from (with_levels levels (option_map next.Text o)) more r =
      λ o. elim o as (λ o. if_text o (λ m. ends_string r m && good (lex (mode_of m) r)) ≡ accepts_from (with_levels levels (option_map next.Text o)) more r) [ None ↦ refl | Some m ↦ refl ] in
      let each : (q : Bool) → is_plain t && b == 34 ≡ q → goal q = λ q. elim q as (λ q. is_plain t && b == 34 ≡ q → goal q) [
        | true ↦ λ e. text_ends good b r t e
        | false ↦ λ e. text_goes good b r t e ∙ same (after_text t b)
      ] in
      each (is_plain t && b == 34) refl

  in_name : accepts levels (next.NameText t) begun (b ∷ r) ≡ accepts_from (after_byte levels (next.NameText t) b) more r
  unfolding accepts ends_string
  in_name =
      let good : List Lexeme → Bool = λ ls. completes (punctuate after_key ls) true levels in
      let goal : Bool → Type 0 = λ q. (if q then true else if_text (after_text t b) (λ m. ends_string r m)) && good (lex (mode_of t) (b ∷ r))
      ≡ accepts_from (if q then Some (levels, next.Colon) else with_levels levels (option_map next.NameText (after_text t b))) more r in
      let same : (o : Option Text) → if_text o (λ m. ends_string r m && good (lex (mode_of m) r)) ≡ accepts_from (with_levels levels (option_map next.NameText o)) more r =
      λ o. elim o as (λ o. if_text o (λ m. ends_string r m && good (lex (mode_of m) r)) ≡ accepts_from (with_levels levels (option_map next.NameText o)) more r) [ None ↦ refl | Some m ↦ refl ] in
      let each : (q : Bool) → is_plain t && b == 34 ≡ q → goal q = λ q. elim q as (λ q. is_plain t && b == 34 ≡ q → goal q) [
        | true ↦ λ e. text_ends good b r t e
        | false ↦ λ e. text_goes good b r t e ∙ same (after_text t b)
      ] in
      each (is_plain t && b == 34) refl

-- ---- names

module _ (levels : List Level) where
  no_name : (b : Bool) (t : tokens.Token) (k : Place → List tokens.Token) (n : Place) → after_token false (Object ∷ levels) t ≡ None
      → completes (if_allowed b t k n) false (Object ∷ levels) ≡ false
  unfolding completes
  no_name true t k n e = ap (λ s. if_standing s (λ v l. completes (k n) v l)) e
  no_name false t k n e = bad_never false (Object ∷ levels)

  no_word : (p : Place) (t : tokens.Token) (ls : List Lexeme) → IsWord t → completes (punctuate p (token t ∷ ls)) false (Object ∷ levels) ≡ false
  unfolding punctuate
  no_word p t ls (a_number s) = no_name (may_begin p) (tokens.number s) _ after_value refl
  no_word p t ls (a_boolean b) = no_name (may_begin p) (tokens.boolean b) _ after_value refl
  no_word p t ls a_null = no_name (may_begin p) tokens.null _ after_value refl
  no_word p t ls none_at_all = bad_never false (Object ∷ levels)

  by_name : (p : Place) → may_begin p ≡ true → (o : Option (List ℕ)) (ls : List Lexeme)
      → completes (punctuate p (token (string_token o) ∷ ls)) false (Object ∷ levels) ≡ is_some o && completes (punctuate after_key ls) true (Object ∷ levels)
  unfolding punctuate completes
  by_name p may None ls = bad_never false (Object ∷ levels)
  by_name p may (Some s) ls =
      let goal : Bool → Type 0 = λ c. completes (place_token p (tokens.string s) c (λ m. punctuate m ls)) false (Object ∷ levels) ≡ completes (punctuate after_key ls) true (Object ∷ levels) in
      let each : (c : Bool) → begins_colon ls ≡ c → goal c = λ c. elim c as (λ c. begins_colon ls ≡ c → goal c) [
        | true ↦ λ e. ap (λ b. completes (if_allowed b (tokens.key s) (λ m. punctuate m ls) after_key) false (Object ∷ levels)) may
        | false ↦ λ e. no_name (may_begin p) (tokens.string s) (λ m. punctuate m ls) after_value refl
            ∙ sym (bad_never true (Object ∷ levels)) ∙ ap (λ ts. completes ts true (Object ∷ levels)) (sym (no_colon ls e))
      ] in
      each (begins_colon ls) refl

  name_begins : (p : Place) → may_begin p ≡ true → (begun : List ℕ) (b : ℕ) (r : List ℕ) → Byte b → is_blank b ≡ false → (b ≡ 125 → may_close p ≡ false)
      → completes (punctuate p (lex between (b ∷ r))) false (Object ∷ levels) ≡ accepts_from (some_if (b == 34) (Object ∷ levels, next.NameText Plain)) begun r
  unfolding lex punctuate accepts
  name_begins p may begun _ r (blank b e) solid brace = absurd (true≢false (sym e ∙ solid))
  name_begins p may begun b r quote solid brace =
      by_name p may (content plain r) (lex in_string r) ∙ ap (λ o. o && completes (punctuate after_key (lex in_string r)) true (Object ∷ levels)) (ends plain r)
  name_begins p may begun b r backslash solid brace = bad_never false (Object ∷ levels)
  name_begins p may begun b r open_brace solid brace = no_name (may_begin p) tokens.begin_object _ fresh refl
  name_begins p may begun b r close_brace solid brace =
      ap (λ z. completes (if_allowed z tokens.end_object (λ m. punctuate m (lex between r)) after_value) false (Object ∷ levels)) (brace refl) ∙ bad_never false (Object ∷ levels)
  name_begins p may begun b r open_bracket solid brace = no_name (may_begin p) tokens.begin_array _ fresh refl
  name_begins p may begun b r close_bracket solid brace = no_name (may_close p) tokens.end_array _ after_value refl
  name_begins p may begun b r bytes.colon solid brace = (marks p may (lex between r) false (Object ∷ levels)).1
  name_begins p may begun b r bytes.comma solid brace = (marks p may (lex between r) false (Object ∷ levels)).0
  name_begins p may begun b r letter_t solid brace = no_word p _ (lex in_word r) (word_is_word (116 ∷ r))
  name_begins p may begun b r letter_f solid brace = no_word p _ (lex in_word r) (word_is_word (102 ∷ r))
  name_begins p may begun b r letter_n solid brace = no_word p _ (lex in_word r) (word_is_word (110 ∷ r))
  name_begins p may begun b r minus solid brace = no_word p _ (lex in_word r) (word_is_word (45 ∷ r))
  name_begins p may begun b r zero solid brace = no_word p _ (lex in_word r) (word_is_word (48 ∷ r))
  name_begins p may begun _ r (any_other b h) solid brace =
      ap (λ ls. completes (punctuate p ls) false (Object ∷ levels)) (lex-other b r h) ∙ no_word p _ (lex in_word r) (word_is_word (b ∷ r))
      ∙ ap (λ z. accepts_from (some_if z (Object ∷ levels, next.NameText Plain)) begun r) (sym h.not_34)

  colon_comes : (begun : List ℕ) (b : ℕ) (r : List ℕ) → Byte b → is_blank b ≡ false
      → completes (punctuate after_key (lex between (b ∷ r))) true (Object ∷ levels) ≡ accepts_from (some_if (b == 58) (Object ∷ levels, next.Value)) begun r
  unfolding lex punctuate accepts
  colon_comes begun _ r (blank b e) solid = absurd (true≢false (sym e ∙ solid))
  colon_comes begun b r quote solid = none_follows after_key _ (lex in_string r) true (Object ∷ levels) (late_string after_key (content plain r) _ _ refl)
  colon_comes begun b r backslash solid = bad_never true (Object ∷ levels)
  colon_comes begun b r open_brace solid = bad_never true (Object ∷ levels)
  colon_comes begun b r close_brace solid = bad_never true (Object ∷ levels)
  colon_comes begun b r open_bracket solid = bad_never true (Object ∷ levels)
  colon_comes begun b r close_bracket solid = bad_never true (Object ∷ levels)
  colon_comes begun b r bytes.colon solid = refl
  colon_comes begun b r bytes.comma solid = bad_never true (Object ∷ levels)
  colon_comes begun b r letter_t solid = none_follows after_key _ (lex in_word r) true (Object ∷ levels) (late_word after_key _ _ _ refl (word_is_word (116 ∷ r)))
  colon_comes begun b r letter_f solid = none_follows after_key _ (lex in_word r) true (Object ∷ levels) (late_word after_key _ _ _ refl (word_is_word (102 ∷ r)))
  colon_comes begun b r letter_n solid = none_follows after_key _ (lex in_word r) true (Object ∷ levels) (late_word after_key _ _ _ refl (word_is_word (110 ∷ r)))
  colon_comes begun b r minus solid = none_follows after_key _ (lex in_word r) true (Object ∷ levels) (late_word after_key _ _ _ refl (word_is_word (45 ∷ r)))
  colon_comes begun b r zero solid = none_follows after_key _ (lex in_word r) true (Object ∷ levels) (late_word after_key _ _ _ refl (word_is_word (48 ∷ r)))
  colon_comes begun _ r (any_other b h) solid =
      ap (λ ls. completes (punctuate after_key ls) true (Object ∷ levels)) (lex-other b r h)
      ∙ none_follows after_key _ (lex in_word r) true (Object ∷ levels) (late_word after_key _ _ _ refl (word_is_word (b ∷ r)))
      ∙ ap (λ z. accepts_from (some_if z (Object ∷ levels, next.Value)) begun r) (sym h.not_58)

-- ---- all that is no number

-- what is open fits what may come next, and a number that has begun has come to what it is held as
abbrev pub IsStanding : List Level → Next → List ℕ → Type 0
IsStanding levels next.Value begun = ⊤
IsStanding levels next.FirstItem begun = (outer : List Level) × (levels ≡ Array ∷ outer)
IsStanding levels next.FirstName begun = (outer : List Level) × (levels ≡ Object ∷ outer)
IsStanding levels next.Name begun = (outer : List Level) × (levels ≡ Object ∷ outer)
IsStanding levels next.Colon begun = (outer : List Level) × (levels ≡ Object ∷ outer)
IsStanding levels next.AfterValue begun = ⊤
IsStanding levels (next.Word w) begun = ⊤
IsStanding levels (next.Number n) begun = IsBegun n begun × HasShape n begun
IsStanding levels (next.Text t) begun = ⊤
IsStanding levels (next.NameText t) begun = (outer : List Level) × (levels ≡ Object ∷ outer)

begins_at_value : (levels : List Level) → may_begin (value_place levels) ≡ true
begins_at_value [] = refl
begins_at_value (Array ∷ levels) = refl
begins_at_value (Object ∷ levels) = refl

-- blanks are passed over
module _ (b : ℕ) (r : List ℕ) (levels : List Level) (n : Next) (o : Option (List Level × Next)) where
  or_blank : (p : Place) (w : Bool) → accepts levels n (b ∷ []) r ≡ completes (punctuate p (lex between r)) w levels
      → (is_blank b ≡ false → completes (punctuate p (lex between (b ∷ r))) w levels ≡ accepts_from o (b ∷ []) r)
      → completes (punctuate p (lex between (b ∷ r))) w levels ≡ accepts_from (unless_blank levels n b o) (b ∷ []) r
  or_blank p w same solid =
      let goal : Bool → Type 0 = λ z. completes (punctuate p (lex between (b ∷ r))) w levels ≡ accepts_from (if z then Some (levels, n) else o) (b ∷ []) r in
      let each : (z : Bool) → is_blank b ≡ z → goal z = λ z. elim z as (λ z. is_blank b ≡ z → goal z) [
        | true ↦ λ e. ap (λ ls. completes (punctuate p ls) w levels) (lex-blank b r e) ∙ sym same
        | false ↦ solid
      ] in
      each (is_blank b) refl

abbrev StepsAt : List Level → Next → ℕ → List ℕ → List ℕ → Type 0
StepsAt levels n b r begun = accepts levels n begun (b ∷ r) ≡ accepts_from (after_byte levels n b) (b ∷ []) r

step_value : (levels : List Level) (b : ℕ) (r begun : List ℕ) → StepsAt levels next.Value b r begun
unfolding accepts
step_value levels b r begun =
    or_blank b r levels next.Value (begun_by levels b) (value_place levels) true refl
    (λ solid. value_begins (value_place levels) (begins_at_value levels) true levels (value_wanted levels) b r (byte_is b) solid (λ e. refl))

step_first_item : (levels : List Level) (b : ℕ) (r begun : List ℕ) → StepsAt (Array ∷ levels) next.FirstItem b r begun
unfolding accepts lex punctuate completes
step_first_item levels b r begun =
    let goal : Bool → Type 0 = λ z. completes (punctuate fresh (lex between (b ∷ r))) false (Array ∷ levels)
    ≡ accepts_from (if z then closed (Array ∷ levels) else begun_by (Array ∷ levels) b) (b ∷ []) r in
    let each : is_blank b ≡ false → (z : Bool) → (b == 93) ≡ z → goal z = λ solid z. elim z as (λ z. (b == 93) ≡ z → goal z) [
      | true ↦ λ e. ap (λ x. completes (punctuate fresh (lex between (x ∷ r))) false (Array ∷ levels)) (eqb-true b 93 e)
      | false ↦ λ e. value_begins fresh refl false (Array ∷ levels) (in_array levels) b r (byte_is b) solid (λ q. absurd (eqb-false b 93 e q))
    ] in
    or_blank b r (Array ∷ levels) next.FirstItem _ fresh false refl (λ solid. each solid (b == 93) refl)

step_first_name : (levels : List Level) (b : ℕ) (r begun : List ℕ) → StepsAt (Object ∷ levels) next.FirstName b r begun
unfolding accepts lex punctuate completes
step_first_name levels b r begun =
    let goal : Bool → Type 0 = λ z. completes (punctuate fresh (lex between (b ∷ r))) false (Object ∷ levels)
    ≡ accepts_from (if z then closed (Object ∷ levels) else some_if (b == 34) (Object ∷ levels, next.NameText Plain)) (b ∷ []) r in
    let each : is_blank b ≡ false → (z : Bool) → (b == 125) ≡ z → goal z = λ solid z. elim z as (λ z. (b == 125) ≡ z → goal z) [
      | true ↦ λ e. ap (λ x. completes (punctuate fresh (lex between (x ∷ r))) false (Object ∷ levels)) (eqb-true b 125 e)
      | false ↦ λ e. name_begins levels fresh refl (b ∷ []) b r (byte_is b) solid (λ q. absurd (eqb-false b 125 e q))
    ] in
    or_blank b r (Object ∷ levels) next.FirstName _ fresh false refl (λ solid. each solid (b == 125) refl)

step_name : (levels : List Level) (b : ℕ) (r begun : List ℕ) → StepsAt (Object ∷ levels) next.Name b r begun
unfolding accepts
step_name levels b r begun =
    or_blank b r (Object ∷ levels) next.Name _ after_comma false refl (λ solid. name_begins levels after_comma refl (b ∷ []) b r (byte_is b) solid (λ e. refl))

step_colon : (levels : List Level) (b : ℕ) (r begun : List ℕ) → StepsAt (Object ∷ levels) next.Colon b r begun
unfolding accepts
step_colon levels b r begun = or_blank b r (Object ∷ levels) next.Colon _ after_key true refl (λ solid. colon_comes levels (b ∷ []) b r (byte_is b) solid)

-- ---- numbers

abbrev pub is_in_number : ℕ → Bool
is_in_number b = is_ascii_digit b || (b == 46 || (is_exponent b || is_sign b))

abbrev is_mark : ℕ → Bool
is_mark b = (b == 34) || ((b == 92) || (is_operator b || is_space b))

pub in_number_below : (b : ℕ) → is_in_number b ≡ true → b < 128
in_number_below b h = grind (arith, nat_tests)

unmarked : (b : ℕ) → is_in_number b ≡ true → is_mark b ≡ false
unmarked b h =
    let both = agree_below_at (λ a. not (is_in_number a) || is_mark a) (λ a. not (is_in_number a)) 128 b refl (in_number_below b h) in
    rw h at both

number_class : (q s o p : Bool) (x : ℕ) (xs : List ℕ) (k : Mode → List Lexeme) → q || (s || (o || p)) ≡ false
    → lex_byte in_word (cond q lexer.quote (cond s lexer.backslash (cond o operator (cond p space other)))) x xs k ≡ k in_word
number_class true s o p x xs k e = absurd (true≢false e)
number_class false true o p x xs k e = absurd (true≢false e)
number_class false false true p x xs k e = absurd (true≢false e)
number_class false false false true x xs k e = absurd (true≢false e)
number_class false false false false x xs k e = refl

pub number_passes : (b : ℕ) (r : List ℕ) → is_in_number b ≡ true → lex in_word (b ∷ r) ≡ lex in_word r
unfolding lex
number_passes b r h = number_class (b == 34) (b == 92) (is_operator b) (is_space b) b r (λ m. lex m r) (unmarked b h)

no_number_by : (n : Number) (b : ℕ) → (b == 48) ≡ false → is_ascii_digit b ≡ false → (b == 46) ≡ false → is_exponent b ≡ false → is_sign b ≡ false → byte_after n b ≡ None
no_number_by Minus b z d p e s = rw (z, d) refl
no_number_by Zero b z d p e s = rw (p, e) refl
no_number_by Whole b z d p e s = rw (d, p, e) refl
no_number_by Point b z d p e s = rw d refl
no_number_by Fraction b z d p e s = rw (d, e) refl
no_number_by Exponent b z d p e s = rw (s, d) refl
no_number_by ExponentSign b z d p e s = rw d refl
no_number_by Power b z d p e s = rw d refl

pub no_number : (n : Number) (b : ℕ) → is_in_number b ≡ false → byte_after n b ≡ None
no_number n b h =
    let one = or_parts _ _ h in
    let two = or_parts _ _ one.1 in
    let three = or_parts _ _ two.1 in
    let zero : (b == 48) ≡ false = ne_eqb b 48 (λ e. false≢true (sym one.0 ∙ ap is_ascii_digit e)) in
    no_number_by n b zero one.0 two.0 three.0 three.1

-- a number, and whether a byte more goes on with it
module _ (levels : List Level) (n : Number) (begun : List ℕ) (b : ℕ) (r : List ℕ) (is : IsBegun n begun) where
  abbrev before : Option Number → Next
  before o = if (may_end n && (not (is_some o) && not (is_ascii_digit b))) && is_some (number_of begun) then next.AfterValue else next.Number n

  number_goes : (m : Number) → byte_after n b ≡ Some m
      → accepts levels (next.Number n) begun (b ∷ r) ≡ accepts_from (after_byte levels (before_byte (next.Number n) b begun) b) (begun_with (before_byte (next.Number n) b begun) b begun) r
  unfolding accepts
  number_goes m e =
      let part : is_in_number b ≡ true = true_from_ne_false (is_in_number b) (λ f. none-some m (sym (no_number n b f) ∙ e)) in
      let same : before_byte (next.Number n) b begun ≡ next.Number n =
      ap before e ∙ ap (λ z. if z && is_some (number_of begun) then next.AfterValue else next.Number n) (and_right (may_end n) _ refl) in
      let joined = append_assoc begun (b ∷ []) r in
      ap₂ (λ t ls. is_number_token (word t) && completes (punctuate after_value ls) false levels) (sym joined) (number_passes b r part)
      ∙ ap (λ o. accepts_from (with_levels levels (option_map next.Number o)) (begun ++ b ∷ []) r) (sym e)
      ∙ ap (λ k. accepts_from (after_byte levels k b) (begun_with k b begun) r) (sym same)

  abbrev over : Bool
  over = completes (punctuate after_value (lex in_word (b ∷ r))) false levels

  ends_or_not : byte_after n b ≡ None → (m d s : Bool) → (d ≡ true → ends_word (b ∷ r) ≡ false)
      → (m && (ends_word (b ∷ r) && s)) && over
      ≡ accepts_from (after_byte levels (if (m && (true && not d)) && s then next.AfterValue else next.Number n) b) (begun_with (if (m && (true && not d)) && s then next.AfterValue else next.Number n) b begun) r
  ends_or_not e false d s digit = ap (λ o. accepts_from (with_levels levels (option_map next.Number o)) (begun ++ b ∷ []) r) (sym e)
  ends_or_not e true true s digit =
      ap (λ w. (true && (w && s)) && over) (digit refl) ∙ ap (λ o. accepts_from (with_levels levels (option_map next.Number o)) (begun ++ b ∷ []) r) (sym e)
  ends_or_not e true false false digit =
      ap (λ z. z && over) (and_right (ends_word (b ∷ r)) false refl) ∙ ap (λ o. accepts_from (with_levels levels (option_map next.Number o)) (begun ++ b ∷ []) r) (sym e)
  ends_or_not e true false true digit = ap (λ z. z && over) (and-true (ends_word (b ∷ r))) ∙ word_over levels (b ∷ r) ∙ value_ended levels (b ∷ []) b r (byte_is b)

  number_ends : byte_after n b ≡ None
      → accepts levels (next.Number n) begun (b ∷ r) ≡ accepts_from (after_byte levels (before_byte (next.Number n) b begun) b) (begun_with (before_byte (next.Number n) b begun) b begun) r
  unfolding accepts
  number_ends e =
      ap (λ z. z && over) (ended n begun (b ∷ r) is (goes_on n b r ∙ ap (λ o. rest_from o (may_end n) b r) e))
      ∙ ends_or_not e (may_end n) (is_ascii_digit b) (is_some (number_of begun)) (λ d. (or_parts _ _ (or_parts _ _ (unmarked b (or_left _ _ d))).1).1)
      ∙ ap (λ o. accepts_from (after_byte levels (before o) b) (begun_with (before o) b begun) r) (sym e)

  number_steps : accepts levels (next.Number n) begun (b ∷ r)
      ≡ accepts_from (after_byte levels (before_byte (next.Number n) b begun) b) (begun_with (before_byte (next.Number n) b begun) b begun) r
  number_steps =
      let goal : Type 0 = accepts levels (next.Number n) begun (b ∷ r)
      ≡ accepts_from (after_byte levels (before_byte (next.Number n) b begun) b) (begun_with (before_byte (next.Number n) b begun) b begun) r in
      let each : (o : Option Number) → byte_after n b ≡ o → goal = λ o. elim o as (λ o. byte_after n b ≡ o → goal) [ None ↦ number_ends | Some m ↦ number_goes m ] in
      each (byte_after n b) refl

-- ---- all

-- a text completes a document where what follows its first byte does, from where that byte leads
pub steps : (levels : List Level) (n : Next) (begun : List ℕ) (b : ℕ) (r : List ℕ) → IsStanding levels n begun
    → accepts levels n begun (b ∷ r) ≡ accepts_from (after_byte levels (before_byte n b begun) b) (begun_with (before_byte n b begun) b begun) r
unfolding accepts
steps levels next.Value begun b r h = step_value levels b r begun
steps levels next.FirstItem begun b r h =
    let each : List Level → Type 0 = λ ls. StepsAt ls next.FirstItem b r begun in subst each (sym h.1) (step_first_item h.0 b r begun)
steps levels next.FirstName begun b r h =
    let each : List Level → Type 0 = λ ls. StepsAt ls next.FirstName b r begun in subst each (sym h.1) (step_first_name h.0 b r begun)
steps levels next.Name begun b r h =
    let each : List Level → Type 0 = λ ls. StepsAt ls next.Name b r begun in subst each (sym h.1) (step_name h.0 b r begun)
steps levels next.Colon begun b r h =
    let each : List Level → Type 0 = λ ls. StepsAt ls next.Colon b r begun in subst each (sym h.1) (step_colon h.0 b r begun)
steps levels next.AfterValue begun b r h = value_ended levels (b ∷ []) b r (byte_is b)
steps levels (next.Word w) begun b r h = word_goes levels begun (begun ++ b ∷ []) r b w
steps levels (next.Number n) begun b r h = number_steps levels n begun b r h.0
steps levels (next.Text t) begun b r h = in_text levels begun (begun_with (next.Text t) b begun) b r t
steps levels (next.NameText t) begun b r h = in_name levels begun (begun_with (next.NameText t) b begun) b r t

-- ---- where a byte leads

abbrev pub IsStandingFrom : Option (List Level × Next) → List ℕ → Type 0
IsStandingFrom None begun = ⊤
IsStandingFrom (Some s) begun = IsStanding s.0 s.1 begun

stands_if : (levels : List Level) (n : Next) (begun : List ℕ) (c : Bool) → IsStanding levels n begun → IsStandingFrom (some_if c (levels, n)) begun
stands_if levels n begun true h = h
stands_if levels n begun false h = tt

either_stands : (c : Bool) (o p : Option (List Level × Next)) (begun : List ℕ) → (c ≡ true → IsStandingFrom o begun) → (c ≡ false → IsStandingFrom p begun)
    → IsStandingFrom (if c then o else p) begun
either_stands true o p begun h k = h refl
either_stands false o p begun h k = k refl

word_stands : (levels : List Level) (begun : List ℕ) (c : Bool) (n : Next) → IsStanding levels n begun → IsStandingFrom (with_levels levels (some_if c n)) begun
word_stands levels begun true n h = h
word_stands levels begun false n h = tt

begun_stands : (levels : List Level) (b : ℕ) → Byte b → is_blank b ≡ false → IsStandingFrom (begun_by levels b) (b ∷ [])
begun_stands levels _ (blank b e) solid = absurd (true≢false (sym e ∙ solid))
begun_stands levels b quote solid = tt
begun_stands levels b backslash solid = tt
begun_stands levels b open_brace solid = elim (nat_lt (length levels) 127) as (λ z. IsStandingFrom (some_if z (Object ∷ levels, next.FirstName)) (123 ∷ [])) [ true ↦ (levels, refl) | false ↦ tt ]
begun_stands levels b close_brace solid = tt
begun_stands levels b open_bracket solid = elim (nat_lt (length levels) 127) as (λ z. IsStandingFrom (some_if z (Array ∷ levels, next.FirstItem)) (91 ∷ [])) [ true ↦ (levels, refl) | false ↦ tt ]
begun_stands levels b close_bracket solid = tt
begun_stands levels b bytes.colon solid = tt
begun_stands levels b bytes.comma solid = tt
begun_stands levels b letter_t solid = tt
begun_stands levels b letter_f solid = tt
begun_stands levels b letter_n solid = tt
begun_stands levels b minus solid = (begun_minus, shape_minus)
begun_stands levels b zero solid = (begun_zero, shape_zero)
begun_stands levels _ (any_other b h) solid =
    let goal : Option (List Level × Next) → Type 0 = λ o. IsStandingFrom o (b ∷ []) in
    let each : (d : Bool) → is_ascii_digit b ≡ d → goal (some_if d (levels, next.Number Whole)) = λ d. elim d as (λ d. is_ascii_digit b ≡ d → goal (some_if d (levels, next.Number Whole))) [
      | true ↦ λ e. (begun_digit b h e, shape_digit b e)
      | false ↦ λ e. tt
    ] in
    subst goal (sym (begun_by-other levels b h)) (each (is_ascii_digit b) refl)

ended_stands : (levels : List Level) (b : ℕ) (begun : List ℕ) → IsStandingFrom (after_byte levels next.AfterValue b) begun
ended_stands levels b begun = either_stands (is_blank b) _ _ begun (λ e. tt) (λ e. marked levels)
  where
    marked : (ls : List Level) → IsStandingFrom (after_value_byte ls b) begun
    marked [] = tt
    marked (Array ∷ ls) = either_stands (b == 44) _ _ begun (λ e. tt) (λ e. stands_if ls next.AfterValue begun (b == 93) tt)
    marked (Object ∷ ls) = either_stands (b == 44) _ _ begun (λ e. (ls, refl)) (λ e. stands_if ls next.AfterValue begun (b == 125) tt)

closed_stands : (levels : List Level) (begun : List ℕ) → IsStandingFrom (closed levels) begun
closed_stands [] begun = tt
closed_stands (level ∷ levels) begun = tt

pub stands_on : (levels : List Level) (n : Next) (begun : List ℕ) (b : ℕ) → IsStanding levels n begun
    → IsStandingFrom (after_byte levels (before_byte n b begun) b) (begun_with (before_byte n b begun) b begun)
stands_on levels next.Value begun b h = either_stands (is_blank b) _ _ _ (λ e. tt) (λ e. begun_stands levels b (byte_is b) e)
stands_on levels next.FirstItem begun b h =
    either_stands (is_blank b) _ _ _ (λ e. h) (λ e. either_stands (b == 93) _ _ _ (λ f. closed_stands levels _) (λ f. begun_stands levels b (byte_is b) e))
stands_on levels next.FirstName begun b h =
    either_stands (is_blank b) _ _ _ (λ e. h) (λ e. either_stands (b == 125) _ _ _ (λ f. closed_stands levels _) (λ f. stands_if levels (next.NameText Plain) _ (b == 34) h))
stands_on levels next.Name begun b h = either_stands (is_blank b) _ _ _ (λ e. h) (λ e. stands_if levels (next.NameText Plain) _ (b == 34) h)
stands_on levels next.Colon begun b h = either_stands (is_blank b) _ _ _ (λ e. h) (λ e. stands_if levels next.Value _ (b == 58) tt)
stands_on levels next.AfterValue begun b h = ended_stands levels b (b ∷ [])
stands_on levels (next.Word Rue) begun b h = word_stands levels _ (b == 114) (next.Word Ue) tt
stands_on levels (next.Word Ue) begun b h = word_stands levels _ (b == 117) (next.Word E) tt
stands_on levels (next.Word Alse) begun b h = word_stands levels _ (b == 97) (next.Word Lse) tt
stands_on levels (next.Word Lse) begun b h = word_stands levels _ (b == 108) (next.Word Se) tt
stands_on levels (next.Word Se) begun b h = word_stands levels _ (b == 115) (next.Word E) tt
stands_on levels (next.Word E) begun b h = word_stands levels _ (b == 101) next.AfterValue tt
stands_on levels (next.Word Ull) begun b h = word_stands levels _ (b == 117) (next.Word Ll) tt
stands_on levels (next.Word Ll) begun b h = word_stands levels _ (b == 108) (next.Word L) tt
stands_on levels (next.Word L) begun b h = word_stands levels _ (b == 108) next.AfterValue tt
stands_on levels (next.Number n) begun b h =
    let each : (o : Option Number) → byte_after n b ≡ o → IsStandingFrom (with_levels levels (option_map next.Number o)) (begun ++ b ∷ []) =
    λ o. elim o as (λ o. byte_after n b ≡ o → IsStandingFrom (with_levels levels (option_map next.Number o)) (begun ++ b ∷ [])) [ None ↦ λ e. tt | Some m ↦ λ e. (begun_more n m begun b h.0 e, shape_after n m begun b h.1 e) ] in
    elim (ends_before n b && is_some (number_of begun))
    as (λ z. IsStandingFrom (after_byte levels (if z then next.AfterValue else next.Number n) b) (begun_with (if z then next.AfterValue else next.Number n) b begun))
    [ true ↦ ended_stands levels b (b ∷ []) | false ↦ each (byte_after n b) refl ]
stands_on levels (next.Text t) begun b h =
    either_stands (is_plain t && b == 34) _ _ _ (λ e. tt) (λ e. elim (after_text t b) as (λ o. IsStandingFrom (with_levels levels (option_map next.Text o)) (begun_with (next.Text t) b begun)) [ None ↦ tt | Some m ↦ tt ])
stands_on levels (next.NameText t) begun b h =
    either_stands (is_plain t && b == 34) _ _ _ (λ e. h) (λ e. elim (after_text t b) as (λ o. IsStandingFrom (with_levels levels (option_map next.NameText o)) (begun_with (next.NameText t) b begun)) [ None ↦ tt | Some m ↦ h ])
