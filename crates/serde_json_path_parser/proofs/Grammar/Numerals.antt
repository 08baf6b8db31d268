-- Numerals of any length, and number literals by either rule: what is read is one, each is read, and how one begins.
use Rattle.serde_json_path_parser.proofs.Words.{past, refusal_at, FractionTooLong, read_fraction, read_amount, AllPass, fraction_of, Ghosts, Reader, Failure, Refused, IsAsRead, left, option_map, refusal, Amount, IsAmount, IsFraction, IsLiteral, IsNumber, IsNumberLiteral, IsNumeralOf, NumberOutOfRange, Numbers, whole_numbers, all_numbers, as_literal, begins_int, billionths, held_as, held_or, literal_of, number, read_signed, read_number, scan, sign_text, ints, nat_le, cases_Bool, none-some, subst, Literal, append-nil, drop, length, Option, None, Some, ℤ, pos, if◌then◌else◌, ◌+◌, ◌-◌, ◌*◌, ◌^◌, ◌≤◌, eqb-true, Err, ◌==◌, ◌≡◌, ℕ, Bool, true, false, List, [], ◌∷◌, ◌++◌, Ok, refl, sym, ap, ◌∙◌, inl, inr, arith, append_assoc, begins, is_digit, is_exponent, is_sign, is_at, byte_count, front, Parsed, with_front, after_first, AreDigits, AreSignedDigits, IsExponent, IsNumeral, IsPlaces, read_some_digits, read_places, read_signed_digits, read_exponent, read_numeral, ExponentOrEmptyFraction, LongHand, plain_held, most_billionths, held_decimal, neg_ℤ, digits_value, leb-true, ok_or, literal_view}
use Rattle.serde_json_path_parser.proofs.Reading.{whole, front_all, past_run, begins_where, differs, after_one, Plain, OutcomeIn, Outcome, gives, choose, guarded, refused, onward, past_in, made, after_in, weaker}
use Rattle.serde_json_path_parser.proofs.Grammar.Numbers.{whole_outcome, whole_again, digits_are, digit_begins, AsText, goes_on, no_part, front_are_digits, digits_begin, whole_text_outcome, whole_text_again, decimal_first}
use Rattle.serde_json_path_syntax.specs.declared.literal.Literal as declared

-- ---- what a reading gives, of a numeral that begins at start

digits_outcome : (start cs : List ℕ) → OutcomeIn (AsText AreDigits) Plain start cs (read_some_digits (byte_count start) cs)
digits_outcome start cs = guarded ExponentOrEmptyFraction LongHand refl (λ some.
    gives _ (record { text = front is_digit cs; is_so = (refl, front_are_digits cs some); split = whole is_digit cs }))

-- a character that passes, and what is read after it
first_outcome : {Is Is_whole : List ℕ → Type 0} (p : ℕ → Bool) (start cs : List ℕ) (read : List ℕ → Parsed (List ℕ)) → ((c : ℕ) (t : List ℕ) → p c ≡ true → Is t → Is_whole (c ∷ t))
    → ((ds : List ℕ) → OutcomeIn (AsText Is) Plain start ds (read ds)) → begins p cs ≡ true → OutcomeIn (AsText Is_whole) Plain start cs (after_first read cs)
first_outcome p start [] read good each e = absurd cc
first_outcome p start (c ∷ cs) read good each e =
    past_in (c ∷ []) refl (made (λ n. c ∷ n) (λ t n is. (ap (λ (l : List ℕ). c ∷ l) is.0, good c t e is.1)) (each cs))

none_outcome : {Is : List ℕ → Type 0} (start cs : List ℕ) → Is [] → OutcomeIn (AsText Is) Plain start cs (Ok ([], cs))
none_outcome start cs is = gives ([], cs) (record { text = []; is_so = (refl, is); split = refl })

places_outcome : (start cs : List ℕ) → OutcomeIn (AsText IsPlaces) Plain start cs (read_places (byte_count start) cs)
unfolding read_places
places_outcome start cs = choose
    (first_outcome (λ c. c == 46) start cs (read_some_digits (byte_count start)) (λ c t e is. inr (t, is, ap (λ (k : ℕ). k ∷ t) (eqb-true c 46 e))) (digits_outcome start))
    (λ _. none_outcome start cs (inl refl))

signed_outcome : (start cs : List ℕ) → OutcomeIn (AsText AreSignedDigits) Plain start cs (read_signed_digits (byte_count start) cs)
unfolding read_signed_digits
signed_outcome start cs = choose
    (first_outcome is_sign start cs (read_some_digits (byte_count start)) (λ c t e is. inr (c, t, e, is, refl)) (digits_outcome start))
    (λ _. weaker (λ t n is. (is.0, inl is.1)) (digits_outcome start cs))

exponent_outcome : (start cs : List ℕ) → OutcomeIn (AsText IsExponent) Plain start cs (read_exponent (byte_count start) cs)
unfolding read_exponent
exponent_outcome start cs = choose
    (first_outcome is_exponent start cs (read_signed_digits (byte_count start)) (λ c t e is. inr (c, t, e, is, refl)) (signed_outcome start))
    (λ _. none_outcome start cs (inl refl))

pub numeral_outcome : (start cs : List ℕ) → OutcomeIn (AsText IsNumeral) Plain start cs (read_numeral (byte_count start) cs)
unfolding read_numeral
numeral_outcome start cs = after_in (whole_text_outcome start cs) (λ w _ a.
    after_in (made {is_made = λ t n. (n ≡ a.text ++ t) × IsPlaces t} (λ n. w.0 ++ n) (λ t n is. (cc (is.0, a.is_so.0), is.1)) (places_outcome start w.1)) (λ p _ b.
    made (λ n. p.0 ++ n) (λ t n is. (cc (is.0, b.is_so.0, append_assoc a.text b.text t), (a.text, b.text, t, _, a.is_so.1, b.is_so.1, is.1, refl))) (exponent_outcome start p.1)))

-- the fraction that places write, where they are nine at most
places_fraction : (t : List ℕ) → IsPlaces t → length (drop 1 t) ≤ 9 → IsFraction t (fraction_of (drop 1 t))
places_fraction t h1 h2 = grind (arith)

fraction_outcome : (start cs : List ℕ) → OutcomeIn IsFraction Plain start cs (read_fraction (byte_count start) cs)
unfolding read_fraction
fraction_outcome start cs = onward (places_outcome start cs) (λ p _ r.
    choose (λ _. refused ExponentOrEmptyFraction LongHand refl) (λ _.
    guarded FractionTooLong LongHand refl (λ few. gives _ (record { text = r.text; is_so = fraction_so p.0 r.text r.is_so few; split = r.split }))))
  where
    fraction_so : (given t : List ℕ) → AsText IsPlaces t given → nat_le (length (drop 1 given)) 9 ≡ true → IsFraction t (fraction_of (drop 1 given))
    fraction_so given t is few = rw is.0 (places_fraction t is.1 (let e = rw is.0 at few in grind (arith, e)))

amount_outcome : (start cs : List ℕ) → OutcomeIn IsAmount Plain start cs (read_amount (byte_count start) cs)
unfolding read_amount
amount_outcome start cs = after_in (whole_outcome start cs) (λ w e r.
    made (λ n. (w.0 * 1000000000) + n) (λ t n is. (r.text, t, w.0, n, r.is_so, is, refl, refl)) (fraction_outcome start w.1))

-- ---- each numeral is read

digits_again : (start : ℕ) (t rest : List ℕ) → AreDigits t → begins is_digit rest ≡ false → read_some_digits start (t ++ rest) ≡ Ok (t, rest)
digits_again start t rest is e = rw (digits_begin t rest is, front_all is_digit t rest is.0 e, past_run is_digit t rest is.0 e) refl

places_again : (start : ℕ) (t rest : List ℕ) → IsPlaces t → begins is_digit rest ≡ false → is_at "." rest ≡ false → read_places start (t ++ rest) ≡ Ok (t, rest)
unfolding read_places
places_again start t rest is e none = grind (arith, digits_again)

signed_again : (start : ℕ) (t rest : List ℕ) → AreSignedDigits t → begins is_digit rest ≡ false → read_signed_digits start (t ++ rest) ≡ Ok (t, rest)
unfolding read_signed_digits
signed_again start t rest is e = grind (arith, digits_again, digits_begin, begins_where)

exponent_again : (start : ℕ) (t rest : List ℕ) → IsExponent t → begins is_digit rest ≡ false → begins is_exponent rest ≡ false → read_exponent start (t ++ rest) ≡ Ok (t, rest)
unfolding read_exponent
exponent_again start t rest is e none = grind (arith, signed_again)

-- no digit stands after a whole number, whatever follows
no_digit : (t rest : List ℕ) → IsPlaces t → begins is_digit rest ≡ false → begins is_digit (t ++ rest) ≡ false
no_digit t rest is e = elim is [ inl empty ↦ rw empty e | inr some ↦ rw some.2 refl ]

-- what an exponent never begins with, its text and more does not, if the rest does not
not_before : (p : ℕ → Bool) (t rest : List ℕ) → ((c : ℕ) → is_exponent c ≡ true → p c ≡ false) → IsExponent t → begins p rest ≡ false → begins p (t ++ rest) ≡ false
not_before p t rest h is e = elim is [ inl empty ↦ rw empty e | inr some ↦ rw some.4 (h some.0 some.2) ]

-- the parts of a numeral, and what follows
parted : {t : List ℕ} (a b c rest : List ℕ) → t ≡ a ++ (b ++ c) → t ++ rest ≡ a ++ (b ++ (c ++ rest))
parted a b c rest e = rw e (simp append_assoc refl)

pub numeral_again : (start t rest : List ℕ) → IsNumeral t → begins goes_on rest ≡ false → read_numeral (byte_count start) (t ++ rest) ≡ Ok (t, rest)
unfolding read_numeral
numeral_again start t rest (a, b, c, n, is_whole, are_places, is_exp, same) e =
    let (digit, point, exponent) = no_part rest e in
    let none = not_before is_digit c rest (λ k x. grind (arith, x)) is_exp digit in
    let no_point = not_before (λ k. k == 46) c rest (λ k x. differs is_exponent 46 k refl x) is_exp point in
    rw (parted a b c rest same, whole_text_again start a n (b ++ (c ++ rest)) is_whole (no_digit b (c ++ rest) are_places none), places_again (byte_count start) b (c ++ rest) are_places none no_point, exponent_again (byte_count start) c rest is_exp digit exponent)
    (ap (λ (l : List ℕ). Ok (l, rest)) (append_assoc a b c ∙ sym same))

-- a fraction by its places, what they are worth, and whether there is a point
fraction_parts : (t : List ℕ) (n : ℕ) → IsFraction t n → IsPlaces t × AllPass is_digit (drop 1 t) × (length (drop 1 t) ≤ 9) × (n ≡ fraction_of (drop 1 t)) × (point : Bool) × (t ≡ (if point then 46 ∷ drop 1 t else [])) × (point ≡ false → drop 1 t ≡ [])
fraction_parts t n h1 = grind (arith)

fraction_again : (start : ℕ) (t : List ℕ) (n : ℕ) (rest : List ℕ) → IsFraction t n → begins goes_on rest ≡ false → read_fraction start (t ++ rest) ≡ Ok (n, rest)
unfolding read_fraction
fraction_again start t n rest is e = grind (arith, fraction_parts, no_part, places_again)

amount_again : (start t : List ℕ) (n : ℕ) (rest : List ℕ) → IsAmount t n → begins goes_on rest ≡ false → read_amount (byte_count start) (t ++ rest) ≡ Ok (n, rest)
unfolding read_amount
amount_again start t n rest (a, b, w, f, is_whole, is, same, sum) e =
    let (digit, point, exponent) = no_part rest e in
    rw (same, append_assoc a b rest, whole_again start a w (b ++ rest) is_whole (no_digit b rest (fraction_parts b f is).0 digit), fraction_again (byte_count start) b f rest is e, sum) refl

-- ---- how a numeral begins

pub numeral_first : (p : ℕ → Bool) (b : Bool) (t rest : List ℕ) → ((c : ℕ) → is_digit c ≡ true → p c ≡ b) → IsNumeral t → begins p (t ++ rest) ≡ b
numeral_first p b t rest h1 h2 = grind (arith, decimal_first, parted)

-- ---- what is read by whole numbers is read by all numbers

-- n, or -n
abbrev signed : Bool → ℕ → ℤ
signed negative n = if negative then neg_ℤ (pos n) else pos n

-- a number by its sign and what comes after it
number_parts : (t : List ℕ) (b : ℤ) → IsNumber t b → (negative : Bool) × (digits : List ℕ) × (n : ℕ) × IsAmount digits n × (t ≡ sign_text negative ++ digits) × (n ≤ most_billionths negative) × (b ≡ signed negative n)
number_parts t b ((n, inl (is, same)), range) = (false, t, n, is, refl, let most = range.1 in omega (arith, ints, most, same), same)
number_parts t b ((n, inr (digits, is, whole, same)), range) = (true, digits, n, is, whole, let least = range.0 in omega (arith, ints, least, same), omega (arith, ints, same))

amount_held : (negative : Bool) (t : List ℕ) (n : ℕ) → IsAmount t n → n ≤ most_billionths negative → IsNumeral t × (held_as negative (scan t) ≡ Some (billionths (signed negative n)))
amount_held negative t n (a, b, w, f, d, is, same, sum) few =
    let (places, passes, nine, worth, point, split, none) = fraction_parts b f is in
    let ds = drop 1 b in
    let whole = digits_are 0 a d.passes in
    let fraction = digits_are 0 ds passes in
    let value : digits_value 10 a * 1000000000 + digits_value 10 ds * 10 ^ (9 - length ds) ≡ n = rw (whole.1, ← d.value_of, fraction.1, ← worth) (sym sum) in
    let held = plain_held negative point a ds whole.0 fraction.0 none nine (rw value few) in
    ((a, b, [], w, d, places, inl refl, same ∙ ap (λ (l : List ℕ). a ++ l) (sym (append-nil b))), ap (λ (l : List ℕ). held_as negative (scan l)) (same ∙ ap (λ (l : List ℕ). a ++ l) split) ∙ held ∙ ap (λ (m : ℕ). Some (billionths (signed negative m))) value)

pub as_numeral : (rule : Numbers) (t : List ℕ) (a : Amount) → IsNumberLiteral rule t a → IsNumeralOf t a
as_numeral whole_numbers t (billionths b) h =
    let (negative, digits, n, is, whole, few, worth) = number_parts t b h in
    let held = amount_held negative digits n is few in
    (negative, digits, held.0, whole, held.1 ∙ ap (λ (i : ℤ). Some (billionths i)) (sym worth))
as_numeral whole_numbers t (held_decimal d) h = absurd h
as_numeral all_numbers t a h = h

-- ---- number literals, by either rule: what a reading gives

-- so many billionths with that sign, as a number
number_is : (negative : Bool) (t : List ℕ) (n : ℕ) → IsAmount t n → n ≤ most_billionths negative → IsNumber (sign_text negative ++ t) (signed negative n)
number_is true t n is few = ((n, inr (t, is, refl, omega (arith, ints))), (omega (arith, ints, few), omega (arith, ints, few)))
number_is false t n is few = ((n, inl (is, refl)), (omega (arith, ints, few), omega (arith, ints, few)))

held_number : (negative : Bool) (t : List ℕ) (n : ℕ) (a : Amount) → IsAmount t n → held_or negative (Some n) None ≡ Some a → IsNumberLiteral whole_numbers (sign_text negative ++ t) a
held_number negative t n a is e = elim (cases_Bool (nat_le n (most_billionths negative))) [
  | inl few ↦
      let same : billionths (signed negative n) ≡ a = let at = rw few at e in cc in
      subst (IsNumberLiteral whole_numbers (sign_text negative ++ t)) same (number_is negative t n is (leb-true n (most_billionths negative) few))
  | inr many ↦ absurd (none-some _ (rw many at e))
]

literal_is : (rule : Numbers) (t : List ℕ) (a : Amount) → IsNumberLiteral rule t a → IsLiteral rule (literal_of a) t
literal_is rule t a h1 = grind (arith)

module _ (rule : Numbers) (negative : Bool) (start cs : List ℕ) where
  -- a literal after its sign
  abbrev IsAfterSign : List ℕ → Literal → Type 0
  IsAfterSign t l = IsLiteral rule l (sign_text negative ++ t)

  literal_outcome : (t rest : List ℕ) (o : Option Amount) → cs ≡ t ++ rest → ((a : Amount) → o ≡ Some a → IsNumberLiteral rule (sign_text negative ++ t) a) → OutcomeIn IsAfterSign Plain start cs (as_literal start o rest)
  literal_outcome t rest o h1 h2 = grind (arith, gives, literal_is, refused)

after_sign_outcome : (rule : Numbers) (negative : Bool) (start cs : List ℕ) → OutcomeIn (IsAfterSign rule negative start cs) Plain start cs (read_signed rule negative start cs)
after_sign_outcome whole_numbers negative start cs = onward (amount_outcome start cs) (λ n e r.
    literal_outcome whole_numbers negative start cs r.text n.1 (held_or negative (Some n.0) None) r.split (λ a is. held_number negative r.text n.0 a r.is_so is))
after_sign_outcome all_numbers negative start cs = onward (numeral_outcome start cs) (λ t e r.
    literal_outcome all_numbers negative start cs r.text t.1 (held_as negative (scan t.0)) r.split (λ a is. (negative, r.text, r.is_so.1, refl, rw r.is_so.0 at is)))

pub number_outcome : (rule : Numbers) (cs : List ℕ) → Outcome (λ t l. IsLiteral rule l t) Plain cs (read_number rule cs)
number_outcome rule cs = choose (λ e. past_in (45 ∷ []) (after_one 45 cs e) (after_sign_outcome rule true cs (drop 1 cs))) (λ _. after_sign_outcome rule false cs cs)

-- ---- each is read

at_sign : (rule : Numbers) (negative : Bool) (t rest : List ℕ) → IsNumeral t → read_number rule ((sign_text negative ++ t) ++ rest) ≡ read_signed rule negative ((sign_text negative ++ t) ++ rest) (t ++ rest)
at_sign rule negative t rest h1 = grind (arith, differs, numeral_first)

pub number_again : (rule : Numbers) (t : List ℕ) (a : Amount) (rest : List ℕ) → IsNumberLiteral rule t a → begins goes_on rest ≡ false → read_number rule (t ++ rest) ≡ Ok (literal_of a, rest)
number_again whole_numbers t (billionths b) rest h e =
    let (negative, digits, n, is, whole, few, worth) = number_parts t b h in
    let judged : nat_le n (most_billionths negative) ≡ true = grind (arith, few) in
    rw whole (at_sign whole_numbers negative digits rest (amount_held negative digits n is few).0 ∙ rw (amount_again _ digits n rest is e, judged) (ap (λ (i : ℤ). Ok (number i, rest)) (sym worth)))
number_again whole_numbers t (held_decimal d) rest h e = absurd h
number_again all_numbers t a rest (negative, numeral, is, same, held) e =
    rw same (at_sign all_numbers negative numeral rest is ∙ rw (numeral_again _ numeral rest is e, held) refl)

-- ---- how a number begins

numeral_begins : (p : ℕ → Bool) (b : Bool) (t : List ℕ) (a : Amount) (rest : List ℕ) → ((c : ℕ) → begins_int c ≡ true → p c ≡ b) → IsNumeralOf t a → begins p (t ++ rest) ≡ b
numeral_begins p b t a rest h1 h2 = grind (arith, digit_begins, numeral_first)

-- each character that may begin a number answers so, and a number with it
pub number_first : (rule : Numbers) (p : ℕ → Bool) (b : Bool) (t : List ℕ) (a : Amount) (rest : List ℕ) → ((c : ℕ) → begins_int c ≡ true → p c ≡ b) → IsNumberLiteral rule t a → begins p (t ++ rest) ≡ b
number_first rule p b t a rest h is = numeral_begins p b t a rest h (as_numeral rule t a is)

-- ---- as the code reads it

-- two texts before what is read
pub first_pushed : (before first : List ℕ) (read : Parsed (List ℕ)) → with_front before (with_front first read) ≡ with_front (before ++ first) read
first_pushed before first read = grind (arith, append_assoc)

-- the literal of an amount is given, or the refusal
pub literal_given : {S : Type 0} {g : Ghosts S} (start : List ℕ) (reader : Reader S g) (o : Option Amount) (l : Option declared.Literal) (stop : Failure) → option_map literal_view l ≡ option_map literal_of o → stop ≡ Refused (refusal NumberOutOfRange LongHand start)
    → IsAsRead literal_view (ok_or l stop) reader (as_literal start o (left reader))
literal_given start reader o l stop h1 h2 = grind (arith)

-- digits that are read after a point, with no exponent after them
pub fraction_read : {old cs rest : List ℕ} {c : ℕ} (start : ℕ) → old ≡ c ∷ cs → is_at "." old ≡ true → begins is_digit cs ≡ true → rest ≡ past is_digit cs → begins is_exponent rest ≡ false
    → read_fraction start old ≡ (if nat_le (length (front is_digit cs)) 9 then Ok (fraction_of (front is_digit cs), rest) else Err (refusal_at FractionTooLong LongHand start))
unfolding read_fraction read_places
fraction_read start e point some is plain = grind (arith)
