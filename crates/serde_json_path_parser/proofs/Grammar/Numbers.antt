-- Integers and number literals: what is read is one, each is read, and where a refusal of one stands.
use Rattle.serde_json_path_parser.proofs.Words.{◌==◌, ℤ, pos, negsuc, ints, largest, ExpectedSelector, IntegerOutOfRange, is_at, cases_Bool, begins, is_blank, is_digit, value_from, IsDecimal, IsInt, front, past, byte_count, is_first_digit, read_digits, negative, read_int, begins_int, ◌||◌, encode_utf8, ExpectedExpression, AllPass, AreDigits, fraction_of, is_exponent, read_whole, read_whole_text, mul-lt-mul_of_pos_right, one-le-pow, length-append, pow-add, encode_ascii, encode_utf8_all, ◌≡◌, ℕ, suc, ◌+◌, ◌-◌, ◌*◌, ◌≤◌, inl, inr, Bool, true, false, List, [], ◌∷◌, ◌++◌, drop, Ok, refl, sym, ap, ◌∙◌, arith, ◌^◌, length, ◌<◌, min, LongHand, AllDigits, digits_value_after}
use Rattle.serde_json_path_parser.proofs.Reading.{begins_where, differs, begins_differs, no_blank, whole, front_each, front_begins, front_begins_not, front_all, past_run, value_least, some_begun, begins_front, after_one, Plain, OutcomeIn, Outcome, gives, choose, guarded, past_in, made}
use Rattle.std.specs.Char.{digit_value}
use Rattle.std.proofs.lemmas.Str.{digit_value_digit}
use Rattle.std.proofs.lemmas.Str.Parse.{digits_value_short, numerals_by_value, tells_digits}

-- ---- first digits

pub first_is_digit : (c : ℕ) → is_first_digit c ≡ true → is_digit c ≡ true
first_is_digit c e = grind (arith, e)

some_value : (cs : List ℕ) → begins is_first_digit cs ≡ true → 1 ≤ value_from 0 (front is_digit cs)
some_value cs h1 = grind (arith, first_is_digit, value_least)

-- ---- what a reading gives

-- a whole number, which is worth what its digits write
abbrev pub IsWhole : List ℕ → Type 0
IsWhole text = IsDecimal text (value_from 0 text)

-- digits that are read whole, the first of them not `0`
front_is_whole : (cs : List ℕ) → begins is_first_digit cs ≡ true → IsWhole (front is_digit cs)
front_is_whole cs first = grind (arith, first_is_digit, begins_where, front_begins, front_begins_not, front_each, begins_differs)

-- that many digits, which are not 0, and no more than an integer may be
abbrev IsPositive : List ℕ → ℕ → Type 0
IsPositive t n = IsDecimal t n × (1 ≤ n) × (n ≤ largest)

digits_outcome : (start cs : List ℕ) → begins is_first_digit cs ≡ true → OutcomeIn IsPositive Plain start cs (read_digits (byte_count start) cs)
digits_outcome start cs first = guarded IntegerOutOfRange LongHand refl (λ e.
    let most : value_from 0 (front is_digit cs) ≤ largest = grind (arith, e) in
    gives _ (record { text = front is_digit cs; is_so = (front_is_whole cs first, some_value cs first, most); split = whole is_digit cs }))

negative_is : (text : List ℕ) (n : ℕ) → IsPositive text n → IsInt (45 ∷ text) (negative n)
negative_is text n h1 = grind (arith)

positive_is : (text : List ℕ) (n : ℕ) → IsDecimal text n → n ≤ largest → IsInt text (pos n)
positive_is text n d most = (d, (omega (arith, ints, most), omega (arith, ints, most)))

pub zero_is : IsDecimal (48 ∷ []) 0
zero_is = record { first = refl; passes = (refl, tt); plain = inl refl; value_of = refl }

pub int_outcome : (cs : List ℕ) → Outcome IsInt Plain cs (read_int cs)
int_outcome cs =
    choose (λ e. guarded ExpectedSelector LongHand refl (λ f. past_in (45 ∷ []) (after_one 45 cs e) (made negative negative_is (digits_outcome cs (drop 1 cs) f)))) (λ _.
    choose (λ e. gives (pos 0, drop 1 cs) (record { text = 48 ∷ []; is_so = positive_is (48 ∷ []) 0 zero_is (omega arith); split = after_one 48 cs e })) (λ _.
    guarded ExpectedSelector LongHand refl (λ f. made pos (λ t n h. positive_is t n h.0 h.2) (digits_outcome cs cs f))))

-- ---- each integer is read

digits_again : (start t : List ℕ) (n : ℕ) (rest : List ℕ) → IsDecimal t n → n ≤ largest → begins is_digit rest ≡ false → read_digits (byte_count start) (t ++ rest) ≡ Ok (n, rest)
digits_again start t n rest d most e = grind (arith, past_run, front_all)

pub first_digit : (t rest : List ℕ) → begins is_digit t ≡ true → is_at "0" t ≡ false → begins is_first_digit (t ++ rest) ≡ true
first_digit t rest h1 h2 = grind (arith)

pub int_again : (t : List ℕ) (i : ℤ) (rest : List ℕ) → IsInt t i → begins is_digit rest ≡ false → read_int (t ++ rest) ≡ Ok (i, rest)
int_again t (pos n) rest h e = elim h.0.plain [
  | inl z ↦ ap (λ (l : List ℕ). read_int (l ++ rest)) z ∙ ap (λ (k : ℕ). Ok (pos k, rest)) (sym (h.0.value_of ∙ ap (value_from 0) z))
  | inr z ↦
      let first = first_digit t rest h.0.first z in
      let read = digits_again (t ++ rest) t n rest h.0 (let most = h.1.1 in omega (arith, ints, most)) e in
      rw (begins_differs is_first_digit 45 (t ++ rest) refl first, begins_differs is_first_digit 48 (t ++ rest) refl first, first, read) refl
]
int_again t (negsuc n) rest ((digits, d, same), in_range) e = elim d.plain [
  | inl z ↦ absurd (let none : suc n ≡ 0 = d.value_of ∙ ap (value_from 0) z in omega (arith, none))
  | inr z ↦
      let read = digits_again (45 ∷ (digits ++ rest)) digits (suc n) rest d (let least = in_range.0 in omega (arith, ints, least)) e in
      rw (same, first_digit digits rest d.first z, read) refl
]

-- ---- how an integer begins

pub digit_begins : (c : ℕ) → is_digit c ≡ true → begins_int c ≡ true
digit_begins c d = grind (arith, d)

-- each character that may begin an integer answers so, and an integer with it
pub int_first : (p : ℕ → Bool) (b : Bool) (t : List ℕ) (i : ℤ) (rest : List ℕ) → ((c : ℕ) → begins_int c ≡ true → p c ≡ b) → IsInt t i → begins p (t ++ rest) ≡ b
int_first p b t i rest h1 h2 = grind (arith, digit_begins)

pub int_not : (k : ℕ) (t : List ℕ) (i : ℤ) (rest : List ℕ) → begins_int k ≡ false → IsInt t i → begins (λ c. c == k) (t ++ rest) ≡ false
int_not k t i rest never is = int_first (λ c. c == k) false t i rest (λ c e. differs begins_int k c never e) is

pub int_no_blank : (t : List ℕ) (i : ℤ) (rest : List ℕ) → IsInt t i → begins is_blank (t ++ rest) ≡ false
int_no_blank t i rest is = int_first is_blank false t i rest (λ c e. no_blank begins_int c refl refl refl refl e) is

-- ---- what a reading gives, of a number that begins at start

-- a text that is given as it stands
abbrev pub AsText : (List ℕ → Type 0) → List ℕ → List ℕ → Type 0
AsText is text given = (given ≡ text) × is text

pub whole_text_outcome : (start cs : List ℕ) → OutcomeIn (AsText IsWhole) Plain start cs (read_whole_text (byte_count start) cs)
whole_text_outcome start cs =
    choose (λ e. gives (48 ∷ [], drop 1 cs) (record { text = 48 ∷ []; is_so = (refl, zero_is); split = after_one 48 cs e })) (λ _.
    guarded ExpectedExpression LongHand refl (λ e. gives _ (record { text = front is_digit cs; is_so = (refl, front_is_whole cs e); split = whole is_digit cs })))

pub whole_outcome : (start cs : List ℕ) → OutcomeIn IsDecimal Plain start cs (read_whole (byte_count start) cs)
whole_outcome start cs = made (value_from 0) (λ t n is. rw is.0 is.1) (whole_text_outcome start cs)

pub front_are_digits : (cs : List ℕ) → begins is_digit cs ≡ true → AreDigits (front is_digit cs)
front_are_digits cs some = (front_each is_digit cs, some_begun is_digit (front is_digit cs) (front_begins is_digit is_digit cs (λ c d. d) some))

-- ---- each number is read

-- a character that is read as a part of the number before it, or refused there, after some number
abbrev pub goes_on : ℕ → Bool
goes_on c = is_digit c || c == 46 || is_exponent c

-- a list that begins with no such character begins with no part of a number
pub no_part : (cs : List ℕ) → begins goes_on cs ≡ false → (begins is_digit cs ≡ false) × (is_at "." cs ≡ false) × (begins is_exponent cs ≡ false)
no_part cs h1 = grind (arith)

pub whole_text_again : (start t : List ℕ) (n : ℕ) (rest : List ℕ) → IsDecimal t n → begins is_digit rest ≡ false → read_whole_text (byte_count start) (t ++ rest) ≡ Ok (t, rest)
whole_text_again start t n rest d e = grind (arith, first_digit, past_run, front_all, begins_differs)

pub whole_again : (start t : List ℕ) (n : ℕ) (rest : List ℕ) → IsDecimal t n → begins is_digit rest ≡ false → read_whole (byte_count start) (t ++ rest) ≡ Ok (n, rest)
whole_again start t n rest d e = rw (whole_text_again start t n rest d e) (ap (λ (k : ℕ). Ok (k, rest)) (sym d.value_of))

pub digits_begin : (digits rest : List ℕ) → AreDigits digits → begins is_digit (digits ++ rest) ≡ true
digits_begin [] rest are = absurd (let some = are.1 in omega (arith, some))
digits_begin (c ∷ digits) rest are = are.0.0

pub decimal_first : (p : ℕ → Bool) (b : Bool) (t : List ℕ) (n : ℕ) (rest : List ℕ) → ((c : ℕ) → is_digit c ≡ true → p c ≡ b) → IsDecimal t n → begins p (t ++ rest) ≡ b
decimal_first p b t n rest h is = grind (arith, begins_front, begins_where, some_begun)

-- ---- bytes

-- a digit is one byte
front_bytes : (cs : List ℕ) → length (encode_utf8_all cs) ≡ length (front is_digit cs) + length (encode_utf8_all (past is_digit cs))
front_bytes [] = refl
front_bytes (c ∷ cs) = elim (cases_Bool (is_digit c)) [
  | inl e ↦
      let ascii : c < 128 = grind (arith, e) in
      rw e (omega (arith, length-append (encode_utf8 c) (encode_utf8_all cs), ap length (encode_ascii c ascii), front_bytes cs))
  | inr e ↦ rw e (omega arith)
]

-- the bytes of the digits, as the bytes that were left before them and after
pub counted : (cs rest : List ℕ) (before after : ℕ) → rest ≡ past is_digit cs → before ≡ length (encode_utf8_all cs) → after ≡ length (encode_utf8_all rest) → before ≡ after + length (front is_digit cs)
counted cs rest before after e b a = grind (arith, front_bytes)

-- ---- the number

-- digits, as they are scanned, and what they write
pub digits_are : (n : ℕ) (ds : List ℕ) → AllPass is_digit ds → AllDigits 10 ds × (digits_value_after 10 n ds ≡ value_from n ds)
digits_are n [] passes = (tt, refl)
digits_are n (c ∷ ds) passes =
    let digit = passes.0 in
    let least : 48 ≤ c = grind (arith, digit) in
    let most : c ≤ 57 = grind (arith, digit) in
    let is : digit_value c ≡ c - 48 = omega (arith, digit_value_digit c (least, most)) in
    let rest = digits_are (n * 10 + (c - 48)) ds passes.1 in
    rw is ((omega (arith, most), rest.0), rest.1)

few_below : (k : ℕ) (ds : List ℕ) → AllPass is_digit ds → length ds ≤ k → value_from 0 ds < 10 ^ k
few_below k ds passes few =
    let d = digits_are 0 ds passes in
    rw (← d.1) (digits_value_short (numerals_by_value (AllDigits 10) tells_digits) ds k d.0 few)

-- a fraction is less than one
pub fraction_below : (ds : List ℕ) → AllPass is_digit ds → length ds ≤ 9 → fraction_of ds < 1000000000
fraction_below ds passes few =
    let below = few_below (length ds) ds passes (omega arith) in
    let some : 0 < 10 ^ (9 - length ds) = one-le-pow (9 - length ds) 10 (omega arith) in
    let grown : value_from 0 ds * 10 ^ (9 - length ds) < 10 ^ length ds * 10 ^ (9 - length ds) = mul-lt-mul_of_pos_right (omega (arith, below)) some in
    let nine : length ds + (9 - length ds) ≡ 9 = omega (arith, few) in
    let whole : 10 ^ length ds * 10 ^ (9 - length ds) ≡ 1000000000 = sym (pow-add 10 (length ds) (9 - length ds)) ∙ ap (λ (k : ℕ). 10 ^ k) nine in
    omega (arith, grown, whole)

-- a fraction by the number of its digits and by how many they are
pub fraction_is : (ds : List ℕ) (value power count : ℕ) → AllPass is_digit ds → count ≡ length ds → count ≤ 9 → value ≡ min (value_from 0 ds) (2 ^ 128 - 1) → power ≡ 10 ^ (9 - count)
    → value * power ≡ fraction_of ds
fraction_is ds value power count passes c few v p =
    let within : length ds ≤ 9 = omega (arith, c, few) in
    let same : value ≡ value_from 0 ds = omega (arith, v, few_below 9 ds passes within) in
    let scale : power ≡ 10 ^ (9 - length ds) = p ∙ ap (λ (k : ℕ). 10 ^ (9 - k)) c in
    rw (same, scale) refl
