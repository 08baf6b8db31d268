-- A string's rest is at the front of a text where the lexer finds its content.
use Rattle.std.proofs.Common.{◌≡◌, ◌==◌, ◌+◌, ◌*◌, ℕ, ◌<◌, nat_lt, nat_le, Bool, true, false, ◌&&◌, ◌||◌, not, cond, List, [], ◌∷◌, length, Option, Some, None, option_map, option_and_then, refl, sym, ap, ap₂, ◌∙◌, arith, inl, inr, if◌then◌else◌}
use Rattle.std.proofs.lemmas.Bool.{agree_below, agree_below_at, cases_lt, ltb-true, and_parts}
use Rattle.std.proofs.lemmas.Bool.Decides.{nat_tests}
use Rattle.std.specs.Option.{is_some}
use Rattle.std.specs.Char.{encode_utf8, is_digit, digit_value, is_ascii_hexdigit}
use Rattle.std.specs.Int.{is_in_range}
use Rattle.json.specs.Text.{content, plain, after_backslash, after_u, after_high, Within, code_unit, prepend, short_escape, is_high_surrogate, is_low_surrogate, surrogate_pair}
use Rattle.jsonpath_document.specs.Begins.{is_d, is_escape, is_first_half, is_second_half}
use Rattle.jsonpath_document.specs.declared.reading.Text.{Text}
use Rattle.jsonpath_document.specs.declared.reading.Text.TheVariants.{Plain, Escaped, FirstDigit, SecondDigit, ThirdDigit, FourthDigit, SecondAfterD, PairThirdDigit, PairFourthDigit, PairBackslash, PairEscaped, PairFirstDigit, PairSecondDigit}
use Rattle.jsonpath_document.specs.Reading.{ends_string, if_text, some_if}

hex_is : (a : ℕ) → is_digit a 16 ≡ is_ascii_hexdigit a
hex_is a = elim (cases_lt a 128) [
  | inl below ↦ agree_below_at (λ a. is_digit a 16) is_ascii_hexdigit 128 a refl below
  | inr above ↦ grind (arith, nat_tests)
]

small : (a : ℕ) → is_ascii_hexdigit a ≡ true → digit_value a < 16
small a hex = ltb-true _ _ (hex_is a ∙ hex)

below : (a : ℕ) → is_ascii_hexdigit a ≡ true → a < 128
below a hex = grind (arith, nat_tests)

-- what holds of each hexadecimal digit that is written out
pub by_table : (f g : ℕ → Bool) → agree_below (λ a. not (is_ascii_hexdigit a) || f a) (λ a. not (is_ascii_hexdigit a) || g a) 128 ≡ true
    → (a : ℕ) → is_ascii_hexdigit a ≡ true → f a ≡ g a
by_table f g table a hex =
    let both = agree_below_at (λ a. not (is_ascii_hexdigit a) || f a) (λ a. not (is_ascii_hexdigit a) || g a) 128 a table (below a hex) in
    rw hex at both

d_is : (a : ℕ) → is_ascii_hexdigit a ≡ true → is_d a ≡ (digit_value a == 13)
d_is = by_table is_d (λ a. digit_value a == 13) refl

first_half_is : (a : ℕ) → is_ascii_hexdigit a ≡ true → is_first_half a ≡ nat_le 8 (digit_value a) && nat_lt (digit_value a) 12
first_half_is = by_table is_first_half (λ a. nat_le 8 (digit_value a) && nat_lt (digit_value a) 12) refl

second_half_is : (a : ℕ) → is_ascii_hexdigit a ≡ true → is_second_half a ≡ nat_le 12 (digit_value a)
second_half_is = by_table is_second_half (λ a. nat_le 12 (digit_value a)) refl

octal_is : (a : ℕ) → is_ascii_hexdigit a ≡ true → is_in_range 48 55 a ≡ not (is_first_half a) && not (is_second_half a)
octal_is = by_table (λ a. is_in_range 48 55 a) (λ a. not (is_first_half a) && not (is_second_half a)) refl

not_hex : (a : ℕ) → is_ascii_hexdigit a ≡ false → (is_d a ≡ false) × (is_first_half a ≡ false) × (is_in_range 48 55 a ≡ false) × (is_second_half a ≡ false)
not_hex a hex = (grind (arith, nat_tests), grind (arith, nat_tests), grind (arith, nat_tests), grind (arith, nat_tests))

high_unit : (a b c d : ℕ) → a < 16 → b < 16 → c < 16 → d < 16
    → is_high_surrogate (a * 4096 + b * 256 + c * 16 + d) ≡ (a == 13) && (nat_le 8 b && nat_lt b 12)
high_unit a b c d p q r t = grind (arith, nat_tests)

low_unit : (a b c d : ℕ) → a < 16 → b < 16 → c < 16 → d < 16
    → is_low_surrogate (a * 4096 + b * 256 + c * 16 + d) ≡ (a == 13) && nat_le 12 b
low_unit a b c d p q r t = grind (arith, nat_tests)

-- ---- four digits, and a pair

branch : (b : Bool) (t : Text) (o : Option Text) (k : Text → Bool) → if_text (if b then Some t else o) k ≡ cond b (k t) (if_text o k)
branch true t o k = refl
branch false t o k = refl

module _ (c d : ℕ) (xs : List ℕ) where
  two_digits : ends_string (c ∷ d ∷ xs) ThirdDigit ≡ cond (is_ascii_hexdigit c) (cond (is_ascii_hexdigit d) (ends_string xs Plain) false) false
  unfolding ends_string
  two_digits =
      branch (is_ascii_hexdigit c) FourthDigit None (λ m. ends_string (d ∷ xs) m)
      ∙ ap (λ x. cond (is_ascii_hexdigit c) x false) (branch (is_ascii_hexdigit d) Plain None (λ m. ends_string xs m))

  two_of_pair : ends_string (c ∷ d ∷ xs) PairThirdDigit ≡ cond (is_ascii_hexdigit c) (cond (is_ascii_hexdigit d) (ends_string xs PairBackslash) false) false
  unfolding ends_string
  two_of_pair =
      branch (is_ascii_hexdigit c) PairFourthDigit None (λ m. ends_string (d ∷ xs) m)
      ∙ ap (λ x. cond (is_ascii_hexdigit c) x false) (branch (is_ascii_hexdigit d) PairBackslash None (λ m. ends_string xs m))

  three_digits : (b : ℕ) → ends_string (b ∷ c ∷ d ∷ xs) SecondDigit ≡ cond (is_ascii_hexdigit b) (ends_string (c ∷ d ∷ xs) ThirdDigit) false
  unfolding ends_string
  three_digits b = branch (is_ascii_hexdigit b) ThirdDigit None (λ m. ends_string (c ∷ d ∷ xs) m)

  three_after_d : (b : ℕ) → ends_string (b ∷ c ∷ d ∷ xs) SecondAfterD
      ≡ cond (is_first_half b) (ends_string (c ∷ d ∷ xs) PairThirdDigit) (cond (is_in_range 48 55 b) (ends_string (c ∷ d ∷ xs) ThirdDigit) false)
  unfolding ends_string
  three_after_d b =
      branch (is_first_half b) PairThirdDigit (some_if (is_in_range 48 55 b) ThirdDigit) (λ m. ends_string (c ∷ d ∷ xs) m)
      ∙ ap (λ x. cond (is_first_half b) (ends_string (c ∷ d ∷ xs) PairThirdDigit) x) (branch (is_in_range 48 55 b) ThirdDigit None (λ m. ends_string (c ∷ d ∷ xs) m))

  four_digits : (a b : ℕ) → ends_string (a ∷ b ∷ c ∷ d ∷ xs) FirstDigit
      ≡ cond (is_d a) (ends_string (b ∷ c ∷ d ∷ xs) SecondAfterD) (cond (is_ascii_hexdigit a) (ends_string (b ∷ c ∷ d ∷ xs) SecondDigit) false)
  unfolding ends_string
  four_digits a b =
      branch (is_d a) SecondAfterD (some_if (is_ascii_hexdigit a) SecondDigit) (λ m. ends_string (b ∷ c ∷ d ∷ xs) m)
      ∙ ap (λ x. cond (is_d a) (ends_string (b ∷ c ∷ d ∷ xs) SecondAfterD) x) (branch (is_ascii_hexdigit a) SecondDigit None (λ m. ends_string (b ∷ c ∷ d ∷ xs) m))

  second_pair : (s u a b : ℕ) → ends_string (s ∷ u ∷ a ∷ b ∷ c ∷ d ∷ xs) PairBackslash
      ≡ cond (s == 92) (cond (u == 117) (cond (is_d a) (cond (is_second_half b) (ends_string (c ∷ d ∷ xs) ThirdDigit) false) false) false) false
  unfolding ends_string
  second_pair s u a b =
      branch (s == 92) PairEscaped None (λ m. ends_string (u ∷ a ∷ b ∷ c ∷ d ∷ xs) m)
      ∙ ap (λ x. cond (s == 92) x false) (branch (u == 117) PairFirstDigit None (λ m. ends_string (a ∷ b ∷ c ∷ d ∷ xs) m)
      ∙ ap (λ x. cond (u == 117) x false) (branch (is_d a) PairSecondDigit None (λ m. ends_string (b ∷ c ∷ d ∷ xs) m)
      ∙ ap (λ x. cond (is_d a) x false) (branch (is_second_half b) ThirdDigit None (λ m. ends_string (c ∷ d ∷ xs) m))))

-- the digits by their tests: of the first, whether it is a d, of the second, which half it begins
unit_table : (ha hb hc hd da fb ob sb h l pair one : Bool) → (ha && hb && hc && hd ≡ true → (h ≡ da && fb) × (l ≡ da && sb))
    → (ha ≡ false → da ≡ false) → (hb ≡ true → ob ≡ not fb && not sb) → (hb ≡ false → (fb ≡ false) × (ob ≡ false))
    → cond (ha && hb && hc && hd) (cond h pair (cond l false one)) false
    ≡ cond da (cond fb (cond hc (cond hd pair false) false) (cond ob (cond hc (cond hd one false) false) false))
    (cond ha (cond hb (cond hc (cond hd one false) false) false) false)
unit_table false hb hc hd da fb ob sb h l pair one units no_d octal no_b = rw (no_d refl) refl
unit_table true false hc hd true fb ob sb h l pair one units no_d octal no_b = rw ((no_b refl).0, (no_b refl).1) refl
unit_table true false hc hd false fb ob sb h l pair one units no_d octal no_b = refl
unit_table true true false hd true true ob sb h l pair one units no_d octal no_b = refl
unit_table true true false hd true false true sb h l pair one units no_d octal no_b = refl
unit_table true true false hd true false false sb h l pair one units no_d octal no_b = refl
unit_table true true false hd false fb ob sb h l pair one units no_d octal no_b = refl
unit_table true true true false true true ob sb h l pair one units no_d octal no_b = refl
unit_table true true true false true false true sb h l pair one units no_d octal no_b = refl
unit_table true true true false true false false sb h l pair one units no_d octal no_b = refl
unit_table true true true false false fb ob sb h l pair one units no_d octal no_b = refl
unit_table true true true true false fb ob sb h l pair one units no_d octal no_b = rw ((units refl).0, (units refl).1) refl
unit_table true true true true true true ob sb h l pair one units no_d octal no_b = rw (units refl).0 refl
unit_table true true true true true false ob true h l pair one units no_d octal no_b = rw ((units refl).0, (units refl).1, octal refl) refl
unit_table true true true true true false ob false h l pair one units no_d octal no_b = rw ((units refl).0, (units refl).1, octal refl) refl

pair_table : (s u ha hb hc hd da sb l one : Bool) → (ha && hb && hc && hd ≡ true → l ≡ da && sb) → (ha ≡ false → da ≡ false) → (hb ≡ false → sb ≡ false)
    → cond (s && u) (cond (ha && hb && hc && hd) (cond l one false) false) false
    ≡ cond s (cond u (cond da (cond sb (cond hc (cond hd one false) false) false) false) false) false
pair_table false u ha hb hc hd da sb l one units no_d no_b = refl
pair_table true false ha hb hc hd da sb l one units no_d no_b = refl
pair_table true true false hb hc hd da sb l one units no_d no_b = rw (no_d refl) refl
pair_table true true true false hc hd true sb l one units no_d no_b = rw (no_b refl) refl
pair_table true true true false hc hd false sb l one units no_d no_b = refl
pair_table true true true true false hd true true l one units no_d no_b = refl
pair_table true true true true false hd true false l one units no_d no_b = refl
pair_table true true true true false hd false sb l one units no_d no_b = refl
pair_table true true true true true false true true l one units no_d no_b = refl
pair_table true true true true true false true false l one units no_d no_b = refl
pair_table true true true true true false false sb l one units no_d no_b = refl
pair_table true true true true true true true true l one units no_d no_b = rw (units refl) refl
pair_table true true true true true true true false l one units no_d no_b = rw (units refl) refl
pair_table true true true true true true false sb l one units no_d no_b = rw (units refl) refl

is_some-map : {A B : Type 0} (f : A → B) (o : Option A) → is_some (option_map f o) ≡ is_some o
is_some-map f None = refl
is_some-map f (Some a) = refl

of_unit : (b : Bool) (u : ℕ) (k : ℕ → Option (List ℕ)) → is_some (option_and_then k (cond b (Some u) None)) ≡ cond b (is_some (k u)) false
of_unit true u k = refl
of_unit false u k = refl

of_cond : (b : Bool) (x y : Option (List ℕ)) → is_some (cond b x y) ≡ cond b (is_some x) (is_some y)
of_cond true x y = refl
of_cond false x y = refl

escape_table : (q b s e f n r t : Bool) (x : ℕ)
    → is_some (cond ((q || b) || s) (Some x) (cond e (Some 8) (cond f (Some 12) (cond n (Some 10) (cond r (Some 13) (cond t (Some 9) None))))))
    ≡ q || (b || (s || (e || (f || (n || (r || t))))))
escape_table true b s e f n r t x = refl
escape_table false true s e f n r t x = refl
escape_table false false true e f n r t x = refl
escape_table false false false true f n r t x = refl
escape_table false false false false true n r t x = refl
escape_table false false false false false true r t x = refl
escape_table false false false false false false true t x = refl
escape_table false false false false false false false true x = refl
escape_table false false false false false false false false x = refl

escape_is : (x : ℕ) → is_some (short_escape x) ≡ is_escape x
unfolding short_escape
escape_is x = escape_table (x == 34) (x == 92) (x == 47) (x == 98) (x == 102) (x == 110) (x == 114) (x == 116) x

abbrev unit : ℕ → ℕ → ℕ → ℕ → ℕ
unit a b c d = digit_value a * 4096 + digit_value b * 256 + digit_value c * 16 + digit_value d

abbrev are_hex : ℕ → ℕ → ℕ → ℕ → Bool
are_hex a b c d = is_ascii_hexdigit a && is_ascii_hexdigit b && is_ascii_hexdigit c && is_ascii_hexdigit d

all_four : (p q r t v w x y : Bool) → p ≡ v → q ≡ w → r ≡ x → t ≡ y → p && q && r && t ≡ v && w && x && y
all_four p q r t v w x y e f g h = ap₂ ◌&&◌ (ap₂ ◌&&◌ (ap₂ ◌&&◌ e f) g) h

unit_is : (a b c d : ℕ) → code_unit a b c d ≡ cond (are_hex a b c d) (Some (unit a b c d)) None
unfolding code_unit
unit_is a b c d = ap (λ z. cond z (Some (unit a b c d)) None) (all_four _ _ _ _ _ _ _ _ (hex_is a) (hex_is b) (hex_is c) (hex_is d))

units : (a b c d : ℕ) → are_hex a b c d ≡ true
    → (is_high_surrogate (unit a b c d) ≡ is_d a && is_first_half b) × (is_low_surrogate (unit a b c d) ≡ is_d a && is_second_half b)
units a b c d hex =
    let abc = and_parts _ _ hex in
    let ab = and_parts _ _ abc.0 in
    let one = and_parts _ _ ab.0 in
    let p = small a one.0 in let q = small b one.1 in let r = small c ab.1 in let t = small d abc.1 in (
      high_unit _ _ _ _ p q r t ∙ sym (ap₂ ◌&&◌ (d_is a one.0) (first_half_is b one.1)),
      low_unit _ _ _ _ p q r t ∙ sym (ap₂ ◌&&◌ (d_is a one.0) (second_half_is b one.1)),
    )

abbrev text_of : Within → Text
text_of plain = Plain
text_of after_backslash = Escaped
text_of after_u = FirstDigit
text_of (after_high h) = PairBackslash

plain_table : (q b low : Bool) (escaped more : Option (List ℕ)) (k : Text → Bool) (x : ℕ) → is_some escaped ≡ k Escaped → is_some more ≡ k Plain
    → is_some (cond q (Some []) (cond b escaped (cond low None (prepend (x ∷ []) more)))) ≡ cond q true (if_text (if b then Some Escaped else some_if (not low) Plain) k)
plain_table true b low escaped more k x e m = refl
plain_table false true low escaped more k x e m = e
plain_table false false true escaped more k x e m = refl
plain_table false false false escaped more k x e m = is_some-map _ more ∙ m

escaped_table : (u : Bool) (digits more : Option (List ℕ)) (o : Option ℕ) (k : Text → Bool) → is_some digits ≡ k FirstDigit → is_some more ≡ k Plain
    → is_some (cond u digits (option_and_then (λ c. prepend (c ∷ []) more) o)) ≡ if_text (if u then Some FirstDigit else some_if (is_some o) Plain) k
escaped_table true digits more o k e m = e
escaped_table false digits more None k e m = refl
escaped_table false digits more (Some c) k e m = is_some-map _ more ∙ m

not_low : (x : ℕ) → nat_le 32 x ≡ not (nat_lt x 32)
not_low x = grind (arith, nat_tests)

-- how many bytes an escape still takes at least
abbrev need : Text → ℕ
need Plain = 0
need Escaped = 0
need FirstDigit = 4
need SecondDigit = 3
need ThirdDigit = 2
need FourthDigit = 1
need SecondAfterD = 3
need PairThirdDigit = 2
need PairFourthDigit = 1
need PairBackslash = 6
need PairEscaped = 5
need PairFirstDigit = 4
need PairSecondDigit = 3

neither : (b c : Bool) (t u : Text) (k : Text → Bool) → k t ≡ false → k u ≡ false → if_text (if b then Some t else some_if c u) k ≡ false
neither true c t u k e f = e
neither false true t u k e f = f
neither false false t u k e f = refl

not_even : (c : Bool) (u : Text) (k : Text → Bool) → k u ≡ false → if_text (some_if c u) k ≡ false
not_even true u k f = f
not_even false u k f = refl

short_text : (xs : List ℕ) (t : Text) → length xs < need t → ends_string xs t ≡ false
unfolding ends_string
short_text [] t h = refl
short_text (x ∷ xs) Plain h = let never : ⊥ = omega arith in absurd never
short_text (x ∷ xs) Escaped h = let never : ⊥ = omega arith in absurd never
short_text (x ∷ xs) FirstDigit h = neither _ _ SecondAfterD SecondDigit (λ m. ends_string xs m) (short_text xs SecondAfterD (omega arith)) (short_text xs SecondDigit (omega arith))
short_text (x ∷ xs) SecondDigit h = not_even _ ThirdDigit (λ m. ends_string xs m) (short_text xs ThirdDigit (omega arith))
short_text (x ∷ xs) ThirdDigit h = not_even _ FourthDigit (λ m. ends_string xs m) (short_text xs FourthDigit (omega arith))
short_text (x ∷ xs) FourthDigit h = let never : ⊥ = omega arith in absurd never
short_text (x ∷ xs) SecondAfterD h = neither _ _ PairThirdDigit ThirdDigit (λ m. ends_string xs m) (short_text xs PairThirdDigit (omega arith)) (short_text xs ThirdDigit (omega arith))
short_text (x ∷ xs) PairThirdDigit h = not_even _ PairFourthDigit (λ m. ends_string xs m) (short_text xs PairFourthDigit (omega arith))
short_text (x ∷ xs) PairFourthDigit h = let never : ⊥ = omega arith in absurd never
short_text (x ∷ xs) PairBackslash h = not_even _ PairEscaped (λ m. ends_string xs m) (short_text xs PairEscaped (omega arith))
short_text (x ∷ xs) PairEscaped h = not_even _ PairFirstDigit (λ m. ends_string xs m) (short_text xs PairFirstDigit (omega arith))
short_text (x ∷ xs) PairFirstDigit h = not_even _ PairSecondDigit (λ m. ends_string xs m) (short_text xs PairSecondDigit (omega arith))
short_text (x ∷ xs) PairSecondDigit h = not_even _ ThirdDigit (λ m. ends_string xs m) (short_text xs ThirdDigit (omega arith))

no_d_from : (a : ℕ) → is_ascii_hexdigit a ≡ false → is_d a ≡ false
no_d_from a h = (not_hex a h).0

module _ (a b c d : ℕ) (xs : List ℕ) where
  first_ends : (k : ℕ → Option (List ℕ)) (h one : Option (List ℕ)) → k (unit a b c d) ≡ cond (is_high_surrogate (unit a b c d)) h (cond (is_low_surrogate (unit a b c d)) None one)
      → is_some h ≡ ends_string xs PairBackslash → is_some one ≡ ends_string xs Plain
      → is_some (option_and_then k (code_unit a b c d)) ≡ ends_string (a ∷ b ∷ c ∷ d ∷ xs) FirstDigit
  first_ends k h one is e f =
      ap (λ o. is_some (option_and_then k o)) (unit_is a b c d) ∙ of_unit _ (unit a b c d) k
      ∙ ap (λ z. cond (are_hex a b c d) z false) (ap is_some is ∙ of_cond _ h _ ∙ ap₂ (λ y z. cond (is_high_surrogate (unit a b c d)) y z) e (of_cond _ None one ∙ ap (λ z. cond (is_low_surrogate (unit a b c d)) false z) f))
      ∙ unit_table (is_ascii_hexdigit a) (is_ascii_hexdigit b) (is_ascii_hexdigit c) (is_ascii_hexdigit d) (is_d a) (is_first_half b) (is_in_range 48 55 b) (is_second_half b) _ _ (ends_string xs PairBackslash) (ends_string xs Plain)
      (units a b c d) (no_d_from a) (octal_is b) (λ h. ((not_hex b h).1, (not_hex b h).2))
      ∙ sym (four_digits c d xs a b ∙ ap₂ (λ y z. cond (is_d a) y (cond (is_ascii_hexdigit a) z false))
      (three_after_d c d xs b ∙ ap₂ (λ y z. cond (is_first_half b) y (cond (is_in_range 48 55 b) z false)) (two_of_pair c d xs) (two_digits c d xs))
      (three_digits c d xs b ∙ ap (λ z. cond (is_ascii_hexdigit b) z false) (two_digits c d xs)))

  second_ends : (s u : ℕ) (k : ℕ → Option (List ℕ)) (one : Option (List ℕ)) → k (unit a b c d) ≡ cond (is_low_surrogate (unit a b c d)) one None
      → is_some one ≡ ends_string xs Plain
      → is_some (cond ((s == 92) && (u == 117)) (option_and_then k (code_unit a b c d)) None) ≡ ends_string (s ∷ u ∷ a ∷ b ∷ c ∷ d ∷ xs) PairBackslash
  second_ends s u k one is f =
      of_cond _ _ None ∙ ap (λ z. cond ((s == 92) && (u == 117)) z false)
      (ap (λ o. is_some (option_and_then k o)) (unit_is a b c d) ∙ of_unit _ (unit a b c d) k
      ∙ ap (λ z. cond (are_hex a b c d) z false) (ap is_some is ∙ of_cond _ one None ∙ ap (λ z. cond (is_low_surrogate (unit a b c d)) z false) f))
      ∙ pair_table (s == 92) (u == 117) (is_ascii_hexdigit a) (is_ascii_hexdigit b) (is_ascii_hexdigit c) (is_ascii_hexdigit d) (is_d a) (is_second_half b) _ (ends_string xs Plain)
      (λ h. (units a b c d h).1) (no_d_from a) (λ h. (not_hex b h).3)
      ∙ sym (second_pair c d xs s u a b ∙ ap (λ z. cond (s == 92) (cond (u == 117) (cond (is_d a) (cond (is_second_half b) z false) false) false) false) (two_digits c d xs))

pub ends : (w : Within) (xs : List ℕ) → is_some (content w xs) ≡ ends_string xs (text_of w)
unfolding content ends_string
ends plain [] = refl
ends plain (x ∷ xs) =
    plain_table (x == 34) (x == 92) (nat_lt x 32) (content after_backslash xs) (content plain xs) (λ m. ends_string xs m) x (ends after_backslash xs) (ends plain xs)
    ∙ ap (λ b. cond (x == 34) true (if_text (if x == 92 then Some Escaped else some_if b Plain) (λ m. ends_string xs m))) (sym (not_low x))
ends after_backslash [] = refl
ends after_backslash (x ∷ xs) =
    escaped_table (x == 117) (content after_u xs) (content plain xs) (short_escape x) (λ m. ends_string xs m) (ends after_u xs) (ends plain xs)
    ∙ ap (λ b. if_text (if x == 117 then Some FirstDigit else some_if b Plain) (λ m. ends_string xs m)) (escape_is x)
ends after_u [] = refl
ends after_u (a ∷ []) = sym (short_text (a ∷ []) FirstDigit (omega arith))
ends after_u (a ∷ b ∷ []) = sym (short_text (a ∷ b ∷ []) FirstDigit (omega arith))
ends after_u (a ∷ b ∷ c ∷ []) = sym (short_text (a ∷ b ∷ c ∷ []) FirstDigit (omega arith))
ends after_u (a ∷ b ∷ c ∷ d ∷ xs) =
    first_ends a b c d xs (λ u. cond (is_high_surrogate u) (content (after_high u) xs) (cond (is_low_surrogate u) None (prepend (encode_utf8 u) (content plain xs))))
    (content (after_high (unit a b c d)) xs) (prepend (encode_utf8 (unit a b c d)) (content plain xs)) refl (ends (after_high (unit a b c d)) xs) (is_some-map _ (content plain xs) ∙ ends plain xs)
ends (after_high h) [] = refl
ends (after_high h) (s ∷ []) = sym (short_text (s ∷ []) PairBackslash (omega arith))
ends (after_high h) (s ∷ u ∷ []) = sym (short_text (s ∷ u ∷ []) PairBackslash (omega arith))
ends (after_high h) (s ∷ u ∷ a ∷ []) = sym (short_text (s ∷ u ∷ a ∷ []) PairBackslash (omega arith))
ends (after_high h) (s ∷ u ∷ a ∷ b ∷ []) = sym (short_text (s ∷ u ∷ a ∷ b ∷ []) PairBackslash (omega arith))
ends (after_high h) (s ∷ u ∷ a ∷ b ∷ c ∷ []) = sym (short_text (s ∷ u ∷ a ∷ b ∷ c ∷ []) PairBackslash (omega arith))
ends (after_high h) (s ∷ u ∷ a ∷ b ∷ c ∷ d ∷ xs) =
    second_ends a b c d xs s u (λ l. cond (is_low_surrogate l) (prepend (encode_utf8 (surrogate_pair h l)) (content plain xs)) None)
    (prepend (encode_utf8 (surrogate_pair h (unit a b c d))) (content plain xs)) refl (is_some-map _ (content plain xs) ∙ ends plain xs)
