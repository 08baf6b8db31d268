-- Numbers, slices and literals, as they are printed, read as themselves.
use Rattle.serde_json_path_parser.proofs.Words.{common_steps, AreDigits, AreSignedDigits, IsNumeral, IsNumberLiteral, held_as, Numbers, whole_numbers, all_numbers, billionths, scan, sign_text, unsigned_abs, cases_Bool, one-le-pow, ℤ, pos, negsuc, ◌-ℤ◌, decimal, signed_decimal, pow-succ', nat_tests, eqb_tells, ints, in_decimal, largest, fraction_digits, fraction_text, amount_text, number_text, begins, is_digit, AllPass, value_from, IsDecimal, IsInt, fraction_of, IsFraction, IsAmount, IsNumber, all_scalars, Slice, Literal, text, number, truth, null, integer_text, slice_step_text, slice_text, literal_text, IsBound, IsSliceStep, IsSlice, IsLiteral, ◌≡◌, ◌≤◌, ◌<◌, ◌+◌, ◌-◌, ◌*◌, ◌/◌, ◌%◌, ◌^◌, ◌==◌, ℕ, zero, suc, inl, inr, Bool, true, false, if◌then◌else◌, List, [], ◌∷◌, length, map, get_or, refl, sym, ap, subst, ◌∙◌, arith, ◌++◌, Option, Some, None, codes, append_assoc, append-nil, held_in_range, read_back, Decimal, decimal_text, has_point, place_digits, size_text, held_decimal, decimal_literal, IsLiteralAmount, div-le_self, div-lt_iff_lt-mul, mod-lt}
use Rattle.std.specs.Int.Digits.{digits_of, number_from_digits_after, AllBelowBase}
use Rattle.std.proofs.lemmas.Fmt.{decimal_digit, decimal-digits_of}
use Rattle.std.proofs.lemmas.Int.Digits.{all_below_base_digits_of, first_digits_of, number_digits_of}
use Rattle.serde_json_path_parser.proofs.Grammar.Numbers.{zero_is}
use Rattle.serde_json_path_parser.proofs.Printing.QuotedTexts.{Spells, Spelt, spell_nothing, spell_both, spell_ascii, spell_passing, spell_sign, spelt_nothing, spelt_as, spelt_after, string_spelt}
use Rattle.serde_json_path_parser.proofs.Grammar.Numerals.{as_numeral}
use Rattle.serde_json_path_parser.proofs.Reading.{some_begun}

-- ---- digits

digit_is : (d : ℕ) → d < 10 → is_digit (48 + d) ≡ true
digit_is d small = grind (arith, small)

begins_digit : (digits : List ℕ) → AllBelowBase 10 digits → 0 < get_or digits 0 0
    → (begins is_digit (map (λ digit. 48 + digit) digits) ≡ true) × (begins (λ c. c == 48) (map (λ digit. 48 + digit) digits) ≡ false)
begins_digit digits h some = grind (arith, common_steps, digit_is, nat_tests)

each_digit : (digits : List ℕ) → AllBelowBase 10 digits → AllPass is_digit (map (λ digit. 48 + digit) digits)
each_digit [] h = tt
each_digit (d ∷ ds) h = (digit_is d h.0, each_digit ds h.1)

digits_spell : (t : List ℕ) → AllPass is_digit t → Spells t t
digits_spell t passes = spell_passing is_digit (λ c d. grind (arith, d)) t passes

-- the digits write their number
digits_value : (n : ℕ) (digits : List ℕ) → value_from n (map (λ digit. 48 + digit) digits) ≡ number_from_digits_after 10 n digits
digits_value n [] = refl
digits_value n (d ∷ ds) =
    let same : (n * 10) + ((48 + d) - 48) ≡ n * 10 + d = omega arith in
    ap (λ (m : ℕ). value_from m (map (λ digit. 48 + digit) ds)) same ∙ digits_value (n * 10 + d) ds

-- ---- natural numbers and integers

digits_decimal : (n : ℕ) → 0 < n → IsDecimal (map (λ digit. 48 + digit) (digits_of 10 n)) n
digits_decimal n some = grind (arith, common_steps, all_below_base_digits_of, begins_digit, first_digits_of, each_digit, digits_value, number_digits_of)

-- a position as it is printed in a location
in_decimal_is : (n : ℕ) → IsDecimal (in_decimal n) n
unfolding in_decimal
in_decimal_is zero = zero_is
in_decimal_is (suc n) = digits_decimal (suc n) (omega arith)

pub position_spelt : (n : ℕ) → n ≤ largest → Spelt (λ t. IsInt t (pos n)) (in_decimal n)
position_spelt n most =
    let d = in_decimal_is n in
    record { characters = in_decimal n; spells = digits_spell (in_decimal n) d.passes; is_so = (d, (omega (arith, ints, most), omega (arith, ints, most))) }

-- a number as std prints it
decimal_is : (n : ℕ) → n < 2 ^ 64 → IsDecimal (decimal n) n
decimal_is zero fits = subst (λ t. IsDecimal t 0) (sym (decimal_digit 0 (omega arith))) zero_is
decimal_is (suc n) fits = subst (λ t. IsDecimal t (suc n)) (sym (decimal-digits_of (suc n) (omega arith) fits)) (digits_decimal (suc n) (omega arith))

-- an integer is printed as it reads
pub int_spelt : (t : List ℕ) (i : ℤ) → IsInt t i → Spelt (λ t. IsInt t i) (signed_decimal i)
int_spelt t (pos n) is =
    let fits : n < 2 ^ 64 = let most = is.1.1 in omega (arith, ints, most) in
    let d = decimal_is n fits in
    record { characters = decimal n; spells = digits_spell (decimal n) d.passes; is_so = (d, is.1) }
int_spelt t (negsuc n) is =
    let fits : suc n < 2 ^ 64 = let least = is.1.0 in omega (arith, ints, least) in
    let d = decimal_is (suc n) fits in
    spelt_after (spell_sign 45 (omega arith)) (record { characters = decimal (suc n); spells = digits_spell (decimal (suc n)) d.passes; is_so = d }) (λ a decimal. ((a, decimal, refl), is.1))

-- ---- fractions

-- the digits that are printed of so many places which make up m, and the number that they write after those of n
record Writes (n places m : ℕ) (digits : List ℕ) : Type 0 where
  zeros : ℕ
  few : length digits + zeros ≡ places
  passes : AllPass is_digit digits
  value : value_from n digits * 10 ^ zeros ≡ n * 10 ^ places + m

nothing_written : (n places m : ℕ) → m ≡ 0 → Writes n places m []
nothing_written n places m none = record { zeros = places; few = omega arith; passes = tt; value = omega (arith, none) }

-- what is left once the first digit is taken away
one_less : (first low power m : ℕ) → (first * 100000000 + low) * (10 * power) ≡ m * 1000000000 → (first * power ≤ m) × ((low * 10) * power ≡ (m - first * power) * 1000000000)
one_less first low power m h = let least : first * power ≤ m = omega (arith, h) in (least, omega (arith, h, least))

digits_written : (n places rest m : ℕ) → rest < 1000000000 → rest * 10 ^ places ≡ m * 1000000000 → Writes n places m (fraction_digits places rest)
digits_written n zero rest m range ends = nothing_written n 0 m (omega (arith, range, ends))
digits_written n (suc places) rest m range ends = elim (eqb_tells rest 0) [
  | inl none ↦ rw none.1 (nothing_written n (suc places) m (let zero : 0 * 10 ^ suc places ≡ m * 1000000000 = rw none.1 at ends in omega (arith, zero)))
  | inr some ↦
      let first = rest / 100000000 in
      let small : first < 10 = omega (arith, range) in
      let ten = pow-succ' 10 places in
      let split : rest ≡ first * 100000000 + rest % 100000000 = omega arith in
      let whole : (first * 100000000 + rest % 100000000) * (10 * 10 ^ places) ≡ m * 1000000000 = rw (← split, ← ten) ends in
      let (least, left) = one_less first (rest % 100000000) (10 ^ places) m whole in
      let w = digits_written (n * 10 + first) places ((rest % 100000000) * 10) (m - first * 10 ^ places) (omega arith) left in
      let same : (n * 10) + ((48 + first) - 48) ≡ n * 10 + first = omega arith in
      let written : Writes n (suc places) m ((48 + first) ∷ fraction_digits places ((rest % 100000000) * 10)) =
      record { zeros = w.zeros; few = omega (arith, w.few); passes = (digit_is first small, w.passes); value = rw (same, value_from, ten) (omega (arith, w.value, least)) } in
      rw (some.0, decimal_digit first small) written
]

-- one digit is printed of a fraction that is not 0
some_digit : (rest : ℕ) → (rest == 0) ≡ false → rest / 100000000 < 10 → 1 ≤ length (fraction_digits 9 rest)
some_digit rest some small = rw (some, decimal_digit (rest / 100000000) small) (omega arith)

unless : (test : Bool) (x y : List ℕ) → test ≡ false → (if test then x else y) ≡ y
unless test x y h1 = grind (arith)

fraction_is : (rest : ℕ) → rest < 1000000000 → IsFraction (fraction_text rest) rest × Spells (fraction_text rest) (fraction_text rest)
fraction_is rest range = elim (eqb_tells rest 0) [
  | inl none ↦ rw none.1 (inl (refl, refl), spell_nothing)
  | inr some ↦
      let w = digits_written 0 9 rest rest range refl in
      let digits = fraction_digits 9 rest in
      let first : rest / 100000000 < 10 = omega (arith, range) in
      let value : rest ≡ fraction_of digits = let zeros : 9 - length digits ≡ w.zeros = omega (arith, w.few) in rw zeros (omega (arith, w.value)) in
      subst (λ t. IsFraction t rest × Spells t t) (sym (unless (rest == 0) [] (46 ∷ digits) some.0))
      (inr (digits, refl, w.passes, some_digit rest some.0 first, omega (arith, w.few), value), spell_both (spell_sign 46 (omega arith)) (digits_spell digits w.passes))
]

-- ---- number literals

amount_is : (n : ℕ) → n < 2 ^ 64 * 1000000000 → IsAmount (amount_text n) n × Spells (amount_text n) (amount_text n)
amount_is n small =
    let whole = decimal_is (n / 1000000000) (omega (arith, small)) in
    let rest = n % 1000000000 in
    let fraction = fraction_is rest (omega arith) in (
      (decimal (n / 1000000000), fraction_text rest, n / 1000000000, rest, whole, fraction.0, refl, omega arith),
      spell_both (digits_spell _ whole.passes) fraction.1,
    )

-- a number in the range is printed as it reads
number_spelt : (b : ℤ) → IsLiteralAmount b → Spelt (λ t. IsNumber t b) (number_text b)
number_spelt (pos n) range =
    let small : n < 2 ^ 64 * 1000000000 = let most = range.1 in omega (arith, ints, most) in
    let a = amount_is n small in
    record { characters = amount_text n; spells = a.1; is_so = ((n, inl (a.0, refl)), range) }
number_spelt (negsuc n) range =
    let small : suc n < 2 ^ 64 * 1000000000 = let least = range.0 in omega (arith, ints, least) in
    let a = amount_is (suc n) small in
    let less : negsuc n ≡ pos 0 -ℤ pos (suc n) = omega (arith, ints) in
    spelt_after (spell_sign 45 (omega arith)) (record { characters = amount_text (suc n); spells = a.1; is_so = a.0 }) (λ t amount. ((suc n, inr (t, amount, refl, less)), range))

billionths_spelt : (rule : Numbers) (t : List ℕ) (b : ℤ) → IsNumberLiteral rule t (billionths b) → Spelt (λ t. IsNumberLiteral rule t (billionths b)) (number_text b)
billionths_spelt whole_numbers t b is = number_spelt b is.1
billionths_spelt all_numbers t b (negative, numeral, is, same, held) = spelt_as (λ t is. as_numeral whole_numbers t (billionths b) is) (number_spelt b (held_in_range negative (scan numeral) b held))

-- ---- decimals

-- the text is a numeral of ASCII
abbrev IsSize : List ℕ → Type 0
IsSize t = IsNumeral t × Spells t t

-- a number's digits
digits_are : (n : ℕ) → n < 2 ^ 64 → AreDigits (decimal n) × Spells (decimal n) (decimal n)
digits_are n fits = let d = decimal_is n fits in ((d.passes, some_begun is_digit (decimal n) d.first), digits_spell (decimal n) d.passes)

exponent_is : (e : ℤ) → unsigned_abs e ≤ 1000 → AreSignedDigits (signed_decimal e) × Spells (signed_decimal e) (signed_decimal e)
exponent_is e low = grind (arith, common_steps, digits_are, spell_both, spell_sign)

with_exponent : (n : ℕ) (e : ℤ) → n < 2 ^ 64 → unsigned_abs e ≤ 1000 → IsSize (decimal n ++ (101 ∷ signed_decimal e))
with_exponent n e fits low =
    let d = decimal_is n fits in
    let x = exponent_is e low in
    ((decimal n, [], 101 ∷ signed_decimal e, n, d, inl refl, inr (101, signed_decimal e, refl, x.0, refl), refl), spell_both (digits_spell _ d.passes) (spell_both (spell_sign 101 (omega arith)) x.1))

places_are : (k n : ℕ) → n < 10 ^ k → AllPass is_digit (place_digits k n) × (length (place_digits k n) ≡ k)
places_are zero n small = (tt, refl)
places_are (suc k) n small =
    let digit : n / 10 ^ k < 10 = (div-lt_iff_lt-mul (one-le-pow k 10 (omega arith))).1 (omega (arith, small, pow-succ' 10 k)) in
    let rest = places_are k (n % 10 ^ k) (mod-lt n (one-le-pow k 10 (omega arith))) in
    rw (decimal_digit (n / 10 ^ k) digit) ((digit_is (n / 10 ^ k) digit, rest.0), ap suc rest.1)

with_point : (n k : ℕ) → n < 2 ^ 64 → IsSize (decimal (n / 10 ^ suc k) ++ (46 ∷ place_digits (suc k) (n % 10 ^ suc k)))
with_point n k fits =
    let front = n / 10 ^ suc k in
    let d = decimal_is front (omega (arith, fits, div-le_self n (10 ^ suc k))) in
    let places = place_digits (suc k) (n % 10 ^ suc k) in
    let p = places_are (suc k) (n % 10 ^ suc k) (mod-lt n (one-le-pow (suc k) 10 (omega arith))) in
    ((decimal front, 46 ∷ places, [], front, d, inr (places, (p.0, omega (arith, p.1)), refl), inl refl, ap (λ (l : List ℕ). decimal front ++ l) (sym (append-nil (46 ∷ places)))), spell_both (digits_spell _ d.passes) (spell_both (spell_sign 46 (omega arith)) (digits_spell places p.0)))

size_is : (n : ℕ) (e : ℤ) → n < 2 ^ 64 → unsigned_abs e ≤ 1000 → IsSize (size_text n e)
size_is n (pos k) fits low = with_exponent n (pos k) fits low
size_is n (negsuc k) fits low = elim (cases_Bool (has_point n (negsuc k))) [ inl point ↦ rw point (with_point n k fits) | inr none ↦ rw none (with_exponent n (negsuc k) fits low) ]

sign_spells : (negative : Bool) → Spells (sign_text negative) (sign_text negative)
sign_spells negative = grind (arith, common_steps, spell_sign, spell_nothing)

decimal_spelt : (rule : Numbers) (t : List ℕ) (d : Decimal) → IsNumberLiteral rule t (held_decimal d) → Spelt (λ t. IsNumberLiteral rule t (held_decimal d)) (decimal_text d)
decimal_spelt whole_numbers t d is = absurd is
decimal_spelt all_numbers t d (negative, numeral, is, same, held) =
    let (sign, few, low, again) = read_back negative numeral d held in
    let size = size_is d.digits d.exponent (omega (arith, few)) low in
    record { characters = decimal_text d; spells = spell_both (sign_spells d.negative) size.1; is_so = (d.negative, size_text d.digits d.exponent, size.0, refl, ap (λ (s : Bool). held_as s (scan (size_text d.digits d.exponent))) sign ∙ again) }

-- ---- slices and literals, as they are printed, read as themselves

-- an integer or none
bound_spelt : (o : Option ℤ) (t : List ℕ) → IsBound o t → Spelt (IsBound o) (integer_text o)
bound_spelt None t h = spelt_nothing refl
bound_spelt (Some i) t (a, k, int, blank, split) = spelt_as (λ s is. (s, [], is, tt, sym (append-nil s))) (int_spelt a i int)

-- a second colon and a step, or neither
step_spelt : (o : Option ℤ) (t : List ℕ) → IsSliceStep o t → Spelt (IsSliceStep o) (slice_step_text o)
step_spelt None t h = spelt_nothing (inl refl)
step_spelt (Some i) t (k, a, blank, int, split) = spelt_after (spell_sign 58 (omega arith)) (int_spelt a i int) (λ s is. ([], s, tt, is, refl))

pub slice_spelt : (s : Slice) (t : List ℕ) → IsSlice s t → Spelt (IsSlice s) (slice_text s)
slice_spelt s t (a, k, b, c, start, blank, end, step, split) =
    let x = bound_spelt s.start a start in
    let y = bound_spelt s.end b end in
    let z = step_spelt s.step c step in
    let colon = spell_sign 58 (omega arith) in
    record {
      characters = ((x.characters ++ codes ":") ++ y.characters) ++ z.characters;
      spells = spell_both (spell_both (spell_both x.spells colon) y.spells) z.spells;
      is_so = (x.characters, [], y.characters, z.characters, x.is_so, tt, y.is_so, z.is_so, simp append_assoc refl);
    }

pub literal_spelt : (rule : Numbers) (l : Literal) (t : List ℕ) → all_scalars t ≡ true → IsLiteral rule l t → Spelt (IsLiteral rule l) (literal_text l)
literal_spelt rule (text bytes) t e h = string_spelt t bytes e h
literal_spelt rule (number b) t e h = billionths_spelt rule t b h
literal_spelt rule (decimal_literal d) t e h = decimal_spelt rule t d h
literal_spelt rule (truth true) t e h = record { characters = codes "true"; spells = spell_ascii (codes "true") (omega arith, (omega arith, (omega arith, (omega arith, tt)))); is_so = refl }
literal_spelt rule (truth false) t e h = record { characters = codes "false"; spells = spell_ascii (codes "false") (omega arith, (omega arith, (omega arith, (omega arith, (omega arith, tt))))); is_so = refl }
literal_spelt rule null t e h = record { characters = codes "null"; spells = spell_ascii (codes "null") (omega arith, (omega arith, (omega arith, (omega arith, tt)))); is_so = refl }
