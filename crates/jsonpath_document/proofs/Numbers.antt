-- What a number has come to says what follows it in a text.
use Rattle.std.proofs.Common.{◌≡◌, ◌==◌, ◌+◌, ◌-◌, ℕ, suc, Bool, true, false, ◌&&◌, cond, List, [], ◌∷◌, ◌++◌, length, take, drop, Option, Some, None, option_and_then, refl, sym, ap, ap₂, ◌∙◌, arith, append_assoc, if◌then◌else◌}
use Rattle.std.proofs.lemmas.Bool.{ne_eqb}
use Rattle.std.proofs.lemmas.List.{length-append}
use Rattle.std.proofs.Math.Seq.{take-append_seam}
use Rattle.std.specs.Option.{is_some}
use Rattle.std.specs.Char.{is_ascii_digit}
use Rattle.std.specs.List.{prefix_len}
use Rattle.json.specs.Token as token
use Rattle.json.specs.Word.{after_digits, after_exponent, after_fraction, after_sign, after_whole, ends_word, number_before, word, head}
use Rattle.json.specs.Word as words
use Rattle.serde_json.specs.Read.{number_of}
use Rattle.jsonpath_document.specs.declared.reading.Number.{Number}
use Rattle.jsonpath_document.specs.declared.reading.Number.TheVariants.{Minus, Zero, Whole, Point, Fraction, Exponent, ExponentSign, Power}
use Rattle.jsonpath_document.specs.Reading.{after_number, is_exponent, is_number_token, is_sign, may_end, some_if}

abbrev pub past_digits : List ℕ → List ℕ
past_digits r = drop (prefix_len is_ascii_digit r) r

-- what follows a number, which goes on with a text
abbrev pub rest_of : Number → List ℕ → Option (List ℕ)
rest_of Minus r = option_and_then after_exponent (option_and_then after_fraction (after_whole r))
rest_of Zero r = option_and_then after_exponent (after_fraction r)
rest_of Whole r = option_and_then after_exponent (after_fraction (past_digits r))
rest_of Point r = option_and_then after_exponent (after_digits r)
rest_of Fraction r = after_exponent (past_digits r)
rest_of Exponent r = after_digits (after_sign r)
rest_of ExponentSign r = after_digits r
rest_of Power r = Some (past_digits r)

-- a byte more, or the number's end before it
abbrev pub rest_from : Option Number → Bool → ℕ → List ℕ → Option (List ℕ)
rest_from None ends b r = some_if ends (b ∷ r)
rest_from (Some n) ends b r = rest_of n r

past : (b : ℕ) (r : List ℕ) → past_digits (b ∷ r) ≡ cond (is_ascii_digit b) (past_digits r) (b ∷ r)
past b r =
    let one : 1 + prefix_len is_ascii_digit r ≡ suc (prefix_len is_ascii_digit r) = omega arith in
    elim (is_ascii_digit b) as (λ d. drop (cond d (1 + prefix_len is_ascii_digit r) 0) (b ∷ r) ≡ cond d (past_digits r) (b ∷ r))
    [ true ↦ ap (λ n. drop n (b ∷ r)) one | false ↦ refl ]

pub digits : (b : ℕ) (r : List ℕ) → after_digits (b ∷ r) ≡ cond (is_ascii_digit b) (Some (past_digits r)) None
digits b r =
    let some : (1 + prefix_len is_ascii_digit r == 0) ≡ false = ne_eqb _ _ (λ e. omega arith) in
    let one : 1 + prefix_len is_ascii_digit r ≡ suc (prefix_len is_ascii_digit r) = omega arith in
    elim (is_ascii_digit b) as (λ d. cond (cond d (1 + prefix_len is_ascii_digit r) 0 == 0) None (Some (drop (cond d (1 + prefix_len is_ascii_digit r) 0) (b ∷ r))) ≡ cond d (Some (past_digits r)) None)
    [ true ↦ ap (λ z. cond z None (Some (drop (1 + prefix_len is_ascii_digit r) (b ∷ r)))) some ∙ ap (λ n. Some (drop n (b ∷ r))) one | false ↦ refl ]

exponent : (b : ℕ) (r : List ℕ) → after_exponent (b ∷ r) ≡ rest_from (some_if (is_exponent b) Exponent) true b r
exponent b r =
    elim (is_exponent b) as (λ e. cond e (after_digits (after_sign r)) (Some (b ∷ r)) ≡ rest_from (some_if e Exponent) true b r) [ true ↦ refl | false ↦ refl ]

fraction : (b : ℕ) (r : List ℕ) → option_and_then after_exponent (after_fraction (b ∷ r)) ≡ rest_from (if b == 46 then Some Point else some_if (is_exponent b) Exponent) true b r
fraction b r =
    elim (b == 46) as (λ z. option_and_then after_exponent (cond z (after_digits r) (Some (b ∷ r))) ≡ rest_from (if z then Some Point else some_if (is_exponent b) Exponent) true b r)
    [ true ↦ refl | false ↦ exponent b r ]

only_digits : (n : Number) (f : List ℕ → Option (List ℕ)) (b : ℕ) (r : List ℕ) → f (past_digits r) ≡ rest_of n r
    → option_and_then f (cond (is_ascii_digit b) (Some (past_digits r)) None) ≡ rest_from (some_if (is_ascii_digit b) n) false b r
only_digits n f b r e =
    elim (is_ascii_digit b) as (λ d. option_and_then f (cond d (Some (past_digits r)) None) ≡ rest_from (some_if d n) false b r) [ true ↦ e | false ↦ refl ]

power_digits : (b : ℕ) (r : List ℕ) → after_digits (b ∷ r) ≡ rest_from (some_if (is_ascii_digit b) Power) false b r
power_digits b r =
    digits b r ∙ (elim (is_ascii_digit b) as (λ d. cond d (Some (past_digits r)) None ≡ rest_from (some_if d Power) false b r) [ true ↦ refl | false ↦ refl ])

pub goes_on : (n : Number) (b : ℕ) (r : List ℕ) → rest_of n (b ∷ r) ≡ rest_from (after_number n b) (may_end n) b r
goes_on Minus b r =
    let rest : Option (List ℕ) → Option (List ℕ) = λ o. option_and_then after_exponent (option_and_then after_fraction o) in
    elim (b == 48) as (λ z. rest (cond z (Some r) (after_digits (b ∷ r))) ≡ rest_from (if z then Some Zero else some_if (is_ascii_digit b) Whole) false b r) [
      | true ↦ refl
      | false ↦ ap rest (digits b r)
          ∙ (elim (is_ascii_digit b) as (λ d. rest (cond d (Some (past_digits r)) None) ≡ rest_from (some_if d Whole) false b r) [ true ↦ refl | false ↦ refl ])
    ]
goes_on Zero b r = fraction b r
goes_on Whole b r =
    ap (λ t. option_and_then after_exponent (after_fraction t)) (past b r)
    ∙ (elim (is_ascii_digit b) as (λ d. option_and_then after_exponent (after_fraction (cond d (past_digits r) (b ∷ r)))
    ≡ rest_from (if d then Some Whole else (if b == 46 then Some Point else some_if (is_exponent b) Exponent)) true b r) [ true ↦ refl | false ↦ fraction b r ])
goes_on Point b r = ap (option_and_then after_exponent) (digits b r) ∙ only_digits Fraction after_exponent b r refl
goes_on Fraction b r =
    ap after_exponent (past b r)
    ∙ (elim (is_ascii_digit b) as (λ d. after_exponent (cond d (past_digits r) (b ∷ r)) ≡ rest_from (if d then Some Fraction else some_if (is_exponent b) Exponent) true b r)
    [ true ↦ refl | false ↦ exponent b r ])
goes_on Exponent b r =
    elim (is_sign b) as (λ z. after_digits (cond z r (b ∷ r)) ≡ rest_from (if z then Some ExponentSign else some_if (is_ascii_digit b) Power) false b r)
    [ true ↦ refl | false ↦ power_digits b r ]
goes_on ExponentSign b r = power_digits b r
goes_on Power b r =
    ap Some (past b r) ∙ (elim (is_ascii_digit b) as (λ d. Some (cond d (past_digits r) (b ∷ r)) ≡ rest_from (some_if d Power) true b r) [ true ↦ refl | false ↦ refl ])

pub at_end : (n : Number) → rest_of n [] ≡ some_if (may_end n) []
at_end Minus = refl
at_end Zero = refl
at_end Whole = refl
at_end Point = refl
at_end Fraction = refl
at_end Exponent = refl
at_end ExponentSign = refl
at_end Power = refl

-- ---- a number that has begun

-- so much of a number has come to this
abbrev pub IsBegun : Number → List ℕ → Type 0
IsBegun n begun = (r : List ℕ) → word (begun ++ r) ≡ number_before (begun ++ r) (rest_of n r)

pub begun_more : (n m : Number) (begun : List ℕ) (b : ℕ) → IsBegun n begun → after_number n b ≡ Some m → IsBegun m (begun ++ b ∷ [])
begun_more n m begun b is e r =
    let joined = append_assoc begun (b ∷ []) r in
    let next = goes_on n b r ∙ ap (λ o. rest_from o (may_end n) b r) e in
    ap word joined ∙ is (b ∷ r) ∙ ap₂ number_before (sym joined) next

taken : (begun r : List ℕ) → take (length (begun ++ r) - length r) (begun ++ r) ≡ begun
taken begun r = let size : length (begun ++ r) - length r ≡ length begun = omega (arith, length-append begun r) in ap (λ n. take n (begun ++ r)) size ∙ take-append_seam begun r

end_token : (m : Bool) (t r s : List ℕ) → take (length t - length r) t ≡ s
    → is_number_token (number_before t (some_if m r)) ≡ m && (ends_word r && is_some (number_of s))
end_token false t r s e = refl
end_token true t r s e =
    ap (λ x. is_number_token (cond (ends_word r) (token.number x) token.bad)) e
    ∙ (elim (ends_word r) as (λ w. is_number_token (cond w (token.number s) token.bad) ≡ w && is_some (number_of s)) [ true ↦ refl | false ↦ refl ])

pub ended : (n : Number) (begun r : List ℕ) → IsBegun n begun → rest_of n r ≡ some_if (may_end n) r
    → is_number_token (word (begun ++ r)) ≡ may_end n && (ends_word r && is_some (number_of begun))
ended n begun r is e =
    ap is_number_token (is r ∙ ap (number_before (begun ++ r)) e) ∙ end_token (may_end n) (begun ++ r) r begun (taken begun r)

pub begun_minus : IsBegun Minus (45 ∷ [])
unfolding word words.after_number
begun_minus r = refl

pub begun_zero : IsBegun Zero (48 ∷ [])
unfolding word words.after_number
begun_zero r = refl

pub and-true : (b : Bool) → b && true ≡ b
and-true true = refl
and-true false = refl
