-- Locations are read back from their normalised paths, since decimals and escapes are.
use Rattle.serde_json_path_nodes.proofs.Words.{common_steps, decimal, escape_of, in_quotes, normal_step, normal, nat_tests, encode_same, char_from_byte, encodes-chars, append_cancel_left, flat_map, chars, Step, by_name, by_position, IsProper, ◌≡◌, ℕ, zero, suc, ◌+◌, ◌-◌, ◌^◌, ◌<◌, List, [], ◌∷◌, map, refl, ap, sym, ◌∙◌, arith, ◌*◌, ◌==◌, nat_lt, Bool, true, false, if◌then◌else◌, ◌++◌, get_or, drop, is_some, encode_utf8, true≢false, ◌≢◌, codes, append_assoc, in_decimal, digits_of, number_from_digits, AllBelowBase, decimal_digit, decimal-digits_of, number_digits_of, all_below_base_digits_of, first_digits_of, digit_char, TextsTellLocations}

-- ---- a number is read back from its digits, and within 64 bits they are those that std prints

-- as std prints it
pub in_decimal-decimal : (n : ℕ) → n < 2 ^ 64 → in_decimal n ≡ decimal n
unfolding in_decimal
in_decimal-decimal zero fits = sym (decimal_digit 0 (omega arith))
in_decimal-decimal (suc n) fits = sym (decimal-digits_of (suc n) (omega arith) fits)

-- the number that digits write
number_of : List ℕ → ℕ
number_of text = number_from_digits 10 (map (λ c. c - 48) text)

digits_again : (digits : List ℕ) → map (λ c. c - 48) (map (λ digit. 48 + digit) digits) ≡ digits
digits_again [] = refl
digits_again (d ∷ ds) = let first : (48 + d) - 48 ≡ d = omega arith in λ i. first i ∷ digits_again ds i

number_of-in_decimal : (n : ℕ) → number_of (in_decimal n) ≡ n
unfolding in_decimal number_of
number_of-in_decimal zero = refl
number_of-in_decimal (suc n) = ap (number_from_digits 10) (digits_again (digits_of 10 (suc n))) ∙ number_digits_of 10 (suc n) (omega arith)

pub in_decimal_injective : (m n : ℕ) → in_decimal m ≡ in_decimal n → m ≡ n
in_decimal_injective m n same = sym (number_of-in_decimal m) ∙ ap number_of same ∙ number_of-in_decimal n

-- ---- a character is read back from what is printed for it between single quotes

-- the value of a hexadecimal digit
hexadecimal : ℕ → ℕ
hexadecimal digit = if nat_lt digit 58 then digit - 48 else digit - 87

hexadecimal-digit_char : (d : ℕ) → d < 16 → hexadecimal (digit_char d) ≡ d
unfolding hexadecimal
hexadecimal-digit_char d small = grind (arith, nat_tests)

-- the character that a letter after a backslash stands for
plain_escape : ℕ → ℕ
plain_escape letter =
    if letter == 39 then 39
    else if letter == 92 then 92
    else if letter == 98 then 8
    else if letter == 116 then 9
    else if letter == 110 then 10
    else if letter == 102 then 12
    else 13

-- the character whose escape a text begins with
escaped_character : List ℕ → ℕ
escaped_character text =
    if get_or text 1 0 == 117 then 16 * hexadecimal (get_or text 4 0) + hexadecimal (get_or text 5 0) else plain_escape (get_or text 1 0)

-- a character with an escape is read back from it, which begins with a backslash
module _ (c : ℕ) (rest : List ℕ) (escaped : is_some (escape_of c) ≡ true) where
  begins : in_quotes c ++ rest ≡ 92 ∷ drop 1 (in_quotes c ++ rest)
  begins = grind (arith, nat_tests)

  reads : escaped_character (in_quotes c ++ rest) ≡ c
  unfolding escaped_character plain_escape
  reads = grind (arith, nat_tests, hexadecimal-digit_char)

-- another one prints itself, and so begins with no byte of which the character has an escape
module _ (c : ℕ) (plain : is_some (escape_of c) ≡ false) where
  itself : in_quotes c ≡ encode_utf8 c
  itself = grind (arith, nat_tests)

  begins_otherwise : (b : ℕ) (r t : List ℕ) → is_some (escape_of b) ≡ true → b < 128 → in_quotes c ++ r ≡ b ∷ t → ⊥
  begins_otherwise b r t escaped ascii same =
      let first : c ≡ b = char_from_byte (b ∷ t) r c (sym same ∙ ap (λ l. l ++ r) itself) ascii (omega arith) in
      true≢false (sym escaped ∙ ap (λ (n : ℕ). is_some (escape_of n)) (sym first) ∙ plain)

-- two texts that begin with characters as they are printed
module _ (c d : ℕ) (r t : List ℕ) where
  printed_apart : (o p : Bool) → is_some (escape_of c) ≡ o → is_some (escape_of d) ≡ p → in_quotes c ++ r ≡ in_quotes d ++ t → c ≡ d
  printed_apart true true c_is d_is same = sym (reads c r c_is) ∙ ap escaped_character same ∙ reads d t d_is
  printed_apart true false c_is d_is same = absurd (begins_otherwise d d_is 92 t _ refl (omega arith) (sym same ∙ begins c r c_is))
  printed_apart false true c_is d_is same = absurd (begins_otherwise c c_is 92 r _ refl (omega arith) (same ∙ begins d t d_is))
  printed_apart false false c_is d_is same = (encode_same c d r t (rw (← itself c c_is, ← itself d d_is) same)).0

  -- are printed of one character, and go on alike
  pub in_quotes_apart : in_quotes c ++ r ≡ in_quotes d ++ t → (c ≡ d) × (r ≡ t)
  in_quotes_apart same =
      let character : c ≡ d = printed_apart (is_some (escape_of c)) (is_some (escape_of d)) refl refl same in
      (character, append_cancel_left (in_quotes d) r t (rw character at same))

-- no character is printed as a quote alone
pub in_quotes-quote : (c : ℕ) (r t : List ℕ) → in_quotes c ++ r ≡ 39 ∷ t → ⊥
in_quotes-quote c r t same = grind (arith, nat_tests, begins, begins_otherwise)

-- ---- names

-- two texts that begin with characters as they are printed and a quote
quotes_apart : (cs ds : List ℕ) (r t : List ℕ) → flat_map in_quotes cs ++ 39 ∷ r ≡ flat_map in_quotes ds ++ 39 ∷ t → (cs ≡ ds) × (r ≡ t)
quotes_apart [] [] r t same = (refl, cc)
quotes_apart (c ∷ cs) (d ∷ ds) r t same = grind (arith, nat_tests, append_assoc, in_quotes_apart c d, quotes_apart cs ds r t)
quotes_apart _ _ r t same = absurd (grind (arith, nat_tests, append_assoc, in_quotes-quote))

-- ---- indexes

-- a text without a closing bracket
abbrev IsInside : List ℕ → Type 0
IsInside [] = Unit {0}
IsInside (b ∷ bs) = (b ≢ 93) × IsInside bs

IsInside-digits : (digits : List ℕ) → AllBelowBase 10 digits → IsInside (map (λ digit. 48 + digit) digits)
IsInside-digits [] small = tt
IsInside-digits (d ∷ ds) small = (let low : d < 10 = small.0 in λ e. omega arith, IsInside-digits ds small.1)

IsInside-in_decimal : (n : ℕ) → IsInside (in_decimal n)
unfolding in_decimal
IsInside-in_decimal zero = (λ e. omega arith, tt)
IsInside-in_decimal (suc n) = IsInside-digits (digits_of 10 (suc n)) (all_below_base_digits_of 10 (suc n) (omega arith))

-- two texts that go on after their first closing bracket
brackets_apart : (xs ys r t : List ℕ) → IsInside xs → IsInside ys → xs ++ 93 ∷ r ≡ ys ++ 93 ∷ t → (xs ≡ ys) × (r ≡ t)
brackets_apart [] [] r t x y same = (refl, cc)
brackets_apart (a ∷ xs) (b ∷ ys) r t x y same = grind (arith, nat_tests, brackets_apart xs ys r t x.1 y.1)
brackets_apart _ _ r t x y same = grind (arith, nat_tests)

-- an index does not begin with a quote
digits-quote : (digits r t : List ℕ) → 0 < get_or digits 0 0 → map (λ digit. 48 + digit) digits ++ r ≡ 39 ∷ t → ⊥
digits-quote digits r t some same = grind (arith, common_steps)

in_decimal-quote : (n : ℕ) (r t : List ℕ) → in_decimal n ++ r ≡ 39 ∷ t → ⊥
unfolding in_decimal
in_decimal-quote zero r t same = omega (arith, ap (λ (l : List ℕ). get_or l 0 0) same)
in_decimal-quote (suc n) r t same = digits-quote (digits_of 10 (suc n)) r t (first_digits_of 10 (suc n) (omega arith) (omega arith)) same

-- ---- steps

name_text : (name r : List ℕ) → normal_step (by_name name) ++ r ≡ 91 ∷ 39 ∷ (flat_map in_quotes (chars name) ++ 39 ∷ 93 ∷ r)
name_text name r = simp append_assoc

position_text : (i : ℕ) (r : List ℕ) → normal_step (by_position i) ++ r ≡ 91 ∷ (in_decimal i ++ 93 ∷ r)
position_text i r = simp append_assoc

name_position_apart : (name r t : List ℕ) (i : ℕ) → normal_step (by_name name) ++ r ≡ normal_step (by_position i) ++ t → ⊥
name_position_apart name r t i same = grind (arith, nat_tests, in_decimal-quote, position_text, name_text)

-- two texts that begin with steps
steps_apart : (a b : Step) (r t : List ℕ) → IsProper (a ∷ []) → IsProper (b ∷ [])
    → normal_step a ++ r ≡ normal_step b ++ t → (a ≡ b) × (r ≡ t)
steps_apart (by_name n) (by_name m) r t proper_a proper_b same = grind (arith, nat_tests, name_text, quotes_apart (chars n) (chars m) (93 ∷ r) (93 ∷ t), encodes-chars n, encodes-chars m)
steps_apart (by_position i) (by_position j) r t proper_a proper_b same =
    grind (arith, nat_tests, position_text, brackets_apart (in_decimal i) (in_decimal j) r t (IsInside-in_decimal i) (IsInside-in_decimal j), in_decimal_injective)
steps_apart (by_name n) (by_position j) r t proper_a proper_b same = absurd (name_position_apart n r t j same)
steps_apart (by_position i) (by_name m) r t proper_a proper_b same = absurd (name_position_apart m t r i (sym same))

-- ---- locations

-- what holds of a location holds of its first step and of the others
proper_parts : (step : Step) (steps : List Step) → IsProper (step ∷ steps) → IsProper (step ∷ []) × IsProper steps
proper_parts step steps proper = grind (arith, nat_tests)

normal_step-nil : (step : Step) (r : List ℕ) → normal_step step ++ r ≡ [] → ⊥
normal_step-nil step r same = grind (arith, nat_tests)

locations_apart : (a b : List Step) → IsProper a → IsProper b
    → flat_map normal_step a ≡ flat_map normal_step b → a ≡ b
locations_apart [] [] proper_a proper_b same = refl
locations_apart (x ∷ xs) (y ∷ ys) proper_a proper_b same = grind (arith, nat_tests, proper_parts x xs proper_a, proper_parts y ys proper_b, steps_apart x y (flat_map normal_step xs) (flat_map normal_step ys), locations_apart xs ys)
locations_apart _ _ proper_a proper_b same = grind (arith, nat_tests, normal_step-nil)

pub texts_tell_locations : TextsTellLocations
texts_tell_locations a b proper_a proper_b =
    (λ same. ap normal same, λ same. locations_apart a b proper_a proper_b (append_cancel_left (codes "$") _ _ same))
