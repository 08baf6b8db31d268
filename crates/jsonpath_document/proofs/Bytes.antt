-- Which bytes have a meaning in JSON outside of strings, and what the lexer makes of each.
use Rattle.std.proofs.Common.{◌≡◌, ◌==◌, ℕ, Bool, true, false, ◌||◌, cond, List, [], ◌∷◌, Option, Some, None, option_and_then, refl, sym, ap, ◌∙◌, subst, arith, ◌⊎◌, inl, inr}
use Rattle.std.proofs.lemmas.Bool.{cases_Bool, eqb-true}
use Rattle.std.proofs.lemmas.Bool.Decides.{nat_tests}
use Rattle.std.specs.Char.{is_ascii_digit}
use Rattle.json.specs.Lex.{class, space, other, lex, lex_byte, between, in_word, token}
use Rattle.json.specs.Word.{after_digits, after_exponent, after_fraction, after_minus, after_whole, number_before, word}
use Rattle.json.specs.Word as words
use Rattle.jsonpath_document.specs.Place.{is_blank}
use Rattle.jsonpath_document.specs.Reading.{begun_by, some_if}
use Rattle.jsonpath_document.specs.declared.reading.Level.{Level}
use Rattle.jsonpath_document.specs.declared.reading.Next.TheVariants as next
use Rattle.jsonpath_document.specs.declared.reading.Number.TheVariants.{Whole}
use Rattle.jsonpath_document.proofs.Numbers.{IsBegun, digits, past_digits, rest_of}

-- a digit from 1 on, or a byte without a meaning
pub record IsOther (b : ℕ) : Type 0 where
  pub not_blank : is_blank b ≡ false
  pub not_34 : (b == 34) ≡ false
  pub not_92 : (b == 92) ≡ false
  pub not_123 : (b == 123) ≡ false
  pub not_125 : (b == 125) ≡ false
  pub not_91 : (b == 91) ≡ false
  pub not_93 : (b == 93) ≡ false
  pub not_58 : (b == 58) ≡ false
  pub not_44 : (b == 44) ≡ false
  pub not_116 : (b == 116) ≡ false
  pub not_102 : (b == 102) ≡ false
  pub not_110 : (b == 110) ≡ false
  pub not_45 : (b == 45) ≡ false
  pub not_48 : (b == 48) ≡ false

pub data Byte : ℕ → Type 0 where
  blank : (b : ℕ) → is_blank b ≡ true → Byte b
  quote : Byte 34
  backslash : Byte 92
  open_brace : Byte 123
  close_brace : Byte 125
  open_bracket : Byte 91
  close_bracket : Byte 93
  colon : Byte 58
  comma : Byte 44
  letter_t : Byte 116
  letter_f : Byte 102
  letter_n : Byte 110
  minus : Byte 45
  zero : Byte 48
  any_other : (b : ℕ) → IsOther b → Byte b

abbrev or_else : (b n : ℕ) → Byte n → ((b == n) ≡ false → Byte b) → Byte b
or_else b n known k = elim (cases_Bool (b == n)) [ inl e ↦ subst Byte (sym (eqb-true b n e)) known | inr e ↦ k e ]

pub byte_is : (b : ℕ) → Byte b
byte_is b = elim (cases_Bool (is_blank b)) [
  | inl e ↦ blank b e
  | inr a ↦ or_else b 34 quote (λ c. or_else b 92 backslash (λ d. or_else b 123 open_brace (λ e. or_else b 125 close_brace (λ f.
      or_else b 91 open_bracket (λ g. or_else b 93 close_bracket (λ h. or_else b 58 colon (λ i. or_else b 44 comma (λ j.
      or_else b 116 letter_t (λ k. or_else b 102 letter_f (λ l. or_else b 110 letter_n (λ m. or_else b 45 minus (λ n. or_else b 48 zero (λ o.
      any_other b (record {
        not_blank = a;
        not_34 = c;
        not_92 = d;
        not_123 = e;
        not_125 = f;
        not_91 = g;
        not_93 = h;
        not_58 = i;
        not_44 = j;
        not_116 = k;
        not_102 = l;
        not_110 = m;
        not_45 = n;
        not_48 = o;
      }))))))))))))))
]

one_blank : (x : ℕ) → is_blank x ≡ true → (x ≡ 32) ⊎ ((x ≡ 9) ⊎ ((x ≡ 10) ⊎ (x ≡ 13)))
one_blank x h = grind (arith, nat_tests)

class_blank : (x : ℕ) → is_blank x ≡ true → class x ≡ space
class_blank x h = elim (one_blank x h) [
  | inl e ↦ ap class e
  | inr f ↦ elim f [
    | inl e ↦ ap class e
    | inr g ↦ elim g [ inl e ↦ ap class e | inr e ↦ ap class e ]
  ]
]

grouped : (p q r t : Bool) → p || q || r || t ≡ p || (q || (r || t))
grouped true q r t = refl
grouped false true r t = refl
grouped false false true t = refl
grouped false false false t = refl

pub space_is : (b : ℕ) → words.is_space b ≡ is_blank b
space_is b = grouped (b == 32) (b == 9) (b == 10) (b == 13)

class_other : (b : ℕ) → IsOther b → class b ≡ other
class_other b h =
    rw (h.not_34, h.not_92, h.not_123, h.not_125, h.not_91, h.not_93, h.not_58, h.not_44)
    (ap (λ z. cond z space other) (space_is b ∙ h.not_blank))

pub lex-blank : (b : ℕ) (r : List ℕ) → is_blank b ≡ true → lex between (b ∷ r) ≡ lex between r
unfolding lex
lex-blank b r e = ap (λ c. lex_byte between c b r (λ m. lex m r)) (class_blank b e)

pub lex-other : (b : ℕ) (r : List ℕ) → IsOther b → lex between (b ∷ r) ≡ token (word (b ∷ r)) ∷ lex in_word r
unfolding lex
lex-other b r h = ap (λ c. lex_byte between c b r (λ m. lex m r)) (class_other b h)

pub begun_by-other : (levels : List Level) (b : ℕ) → IsOther b → begun_by levels b ≡ some_if (is_ascii_digit b) (levels, next.Number Whole)
begun_by-other levels b h = rw (h.not_91, h.not_123, h.not_34, h.not_116, h.not_102, h.not_110, h.not_45, h.not_48) refl

abbrev pub rest_if : Bool → List ℕ → Option (List ℕ)
rest_if true r = rest_of Whole r
rest_if false r = None

of_digits : (d : Bool) (r : List ℕ)
    → option_and_then after_exponent (option_and_then after_fraction (cond d (Some (past_digits r)) None)) ≡ rest_if d r
of_digits true r = refl
of_digits false r = refl

last_of : {A : Type 0} (x y z : Bool) (p q r s : A) → x ≡ false → y ≡ false → z ≡ false → cond x p (cond y q (cond z r s)) ≡ s
last_of x y z p q r s e f g = rw (e, f, g) refl

pub word-other : (b : ℕ) (r : List ℕ) → IsOther b → word (b ∷ r) ≡ number_before (b ∷ r) (rest_if (is_ascii_digit b) r)
unfolding word words.after_number
word-other b r h =
    let number : words.after_number (b ∷ r) ≡ rest_if (is_ascii_digit b) r =
    ap (λ t. option_and_then after_exponent (option_and_then after_fraction (after_whole t))) (ap (λ z. cond z r (b ∷ r)) h.not_45)
    ∙ ap (λ o. option_and_then after_exponent (option_and_then after_fraction o)) (ap (λ z. cond z (Some r) (after_digits (b ∷ r))) h.not_48 ∙ digits b r)
    ∙ of_digits (is_ascii_digit b) r in
    last_of (b == 116) (b == 102) (b == 110) _ _ _ _ h.not_116 h.not_102 h.not_110 ∙ ap (number_before (b ∷ r)) number

pub begun_digit : (b : ℕ) → IsOther b → is_ascii_digit b ≡ true → IsBegun Whole (b ∷ [])
begun_digit b h d r = word-other b r h ∙ ap (λ z. number_before (b ∷ r) (rest_if z r)) d
