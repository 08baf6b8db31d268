-- The text of a decimal that a literal is held as is held as that decimal too; and which literals are held as billionths.
use Rattle.serde_json_path_numbers.proofs.Words.{◌≡◌, ℕ, zero, suc, ◌+◌, ◌-◌, ◌-ℤ◌, ◌*◌, ◌/◌, ◌%◌, ◌^◌, ◌<◌, ◌≤◌, ◌==◌, Bool, true, false, if◌then◌else◌, List, [], ◌∷◌, ◌++◌, length, drop, take, codes, refl, sym, ap, subst, ◌∙◌, arith, nat_tests, ints, Option, Some, None, ℤ, pos, negsuc, inl, inr, ◌⊎◌, leb-true, mul-le-mul_left, pow-le-pow_right, mul-one, mul_assoc, mod-lt, div-le_self, div-add-mod', div-lt_iff_lt-mul, append-nil, length-append, length-drop, drop_of_length-le, take_all, take-append-drop, pow-add, pow-suc, pow-succ', ten_to_pos, nat_le, none-some, cases_Bool, cases_lt, decimal, decimal_digit, decimal_is_IsNumeral, sign_text, digit_value, digits_value, digits_value-append, digits_value_short, numerals_by_value, tells_digits, AllDigits, AllDigits-append, scan_numeral-text_of, scan_numeral-AllDigits, float_is_finite, Float, binary64, round, round-fits, unsigned_abs, IsInLiteralRange, nearest_to_decimal, most_billionths, Parts, scan, text_of, exponent_text, digits_of, nearest, point_at, with_sign, IsWellFormed, Decimal, decimal_of, has_point, is_beyond, place_digits, size_text, Amount, billionths, decimal_billionths, double_billionths, exponent_of, held_as, held_double, held_or, held_short, plain_billionths, shortest_of, whole_billionths}
use Rattle.serde_json_path_numbers.specs.Numerals as numerals
use Rattle.serde_json_path_numbers.proofs.Digits.{digit_is, digits_value-cons}
use Rattle.serde_json_path_numbers.proofs.Fewest.{IsShortest, again, ends_in, is_shortest}
use Rattle.serde_json_path_numbers.proofs.Numerals.{read_is}

-- ---- digits

record AreDigitsOf (n count : ℕ) (ds : List ℕ) : Type 0 where
  all : AllDigits 10 ds
  value : digits_value 10 ds ≡ n
  many : length ds ≡ count

decimal_is : (n : ℕ) → n < 2 ^ 64 → (count : ℕ) × (1 ≤ count) × AreDigitsOf n count (decimal n)
decimal_is n small = let d = decimal_is_IsNumeral n small in (length (decimal n), d.0.0, record { all = d.0.1; value = d.1; many = refl })

places_are : (k n : ℕ) → n < 10 ^ k → AreDigitsOf n k (place_digits k n)
places_are zero n small = record { all = tt; value = omega (arith, small); many = refl }
places_are (suc k) n small =
    let first = n / 10 ^ k in
    let digit : first < 10 = (div-lt_iff_lt-mul (ten_to_pos k)).1 (omega (arith, small, pow-succ' 10 k)) in
    let rest = places_are k (n % 10 ^ k) (mod-lt n (ten_to_pos k)) in
    let is : digit_value (48 + first) ≡ first = digit_is first digit in
    rw (decimal_digit first digit) (record {
      all = (omega (arith, is, digit), rest.all);
      value = digits_value-cons (48 + first) (place_digits k (n % 10 ^ k)) ∙ rw (is, rest.many, rest.value) (div-add-mod' n (10 ^ k));
      many = ap suc rest.many;
    })

-- ---- what passes a stage

abbrev Passes : Bool → Option ℕ → Type 0
Passes negative o = (other : Option Amount) → held_or negative o other ≡ other

passed : (negative : Bool) (o : Option ℕ) (other : Option Amount) (d : Decimal) → held_or negative o other ≡ Some (numerals.decimal d) → Passes negative o × (other ≡ Some (numerals.decimal d))
passed negative None other d is = (λ o. refl, is)
passed negative (Some n) other d is = elim (cases_Bool (nat_le n (most_billionths negative))) [
  | inl few ↦ absurd (grind (arith, nat_tests, few, is))
  | inr many ↦ (λ o. rw many refl, rw many at is)
]

-- a whole number beyond the range
beyond_passes : (negative : Bool) (d k : ℕ) → is_beyond negative d (pos k) ≡ true → Passes negative (Some (d * 10 ^ k * 1000000000))
beyond_passes negative d k beyond other =
    let same : d * 10 ^ (k + 9) ≡ d * 10 ^ k * 1000000000 = ap (λ m. d * m) (pow-add 10 k 9) ∙ sym (mul_assoc d (10 ^ k) 1000000000) in
    grind (arith, nat_tests, beyond, same)

-- of digits the last ones end as all do
ends_alike : (ds : List ℕ) (i : ℕ) → i < length ds → digits_value 10 (drop i ds) % 10 ≡ digits_value 10 ds % 10
ends_alike ds i within =
    let after = drop i ds in
    let before = digits_value 10 (take i ds) in
    let some : length after ≡ suc (length after - 1) = omega (arith, length-drop i ds, within) in
    let value : digits_value 10 ds ≡ before * 10 ^ length after + digits_value 10 after = ap (digits_value 10) (sym (take-append-drop i ds)) ∙ digits_value-append (take i ds) after in
    let tens : before * 10 ^ length after ≡ before * 10 ^ (length after - 1) * 10 = ap (λ m. before * 10 ^ m) some ∙ ap (λ m. before * m) (pow-suc 10 (length after - 1)) ∙ sym (mul_assoc before (10 ^ (length after - 1)) 10) in
    omega (arith, value, tens)

-- digits after the point that end in no 0
no_whole : (negative : Bool) (p : Parts) (d : ℕ) → digits_of p ≡ d → 1 ≤ d % 10 → point_at p < length (p.whole ++ p.fraction) → Passes negative (whole_billionths p)
no_whole negative p d is last within other =
    let alike = ends_alike (p.whole ++ p.fraction) (point_at p) within in
    let none : (digits_value 10 (drop (point_at p) (p.whole ++ p.fraction)) == 0) ≡ false = grind (arith, nat_tests, alike, is, last) in
    rw none refl

-- few digits with few places are billionths
more_places : (negative : Bool) (d k : ℕ) → d < 10 ^ 19 → Passes negative (decimal_billionths (d, negsuc k)) → 9 ≤ k
more_places negative d k few passes = elim (cases_lt k 9) [
  | inl less ↦
      let product : d * 10 ^ (8 - k) ≤ d * 10 ^ 8 = mul-le-mul_left d (let up : 8 - k ≤ 8 = omega arith in pow-le-pow_right {n = 10} (omega arith) up) in
      let most : d * 10 ^ (8 - k) ≤ most_billionths negative = elim negative as (λ s. d * 10 ^ (8 - k) ≤ most_billionths s) [ true ↦ omega (arith, product, few) | false ↦ omega (arith, product, few) ] in
      let few_places : nat_le 9 k ≡ false = grind (arith, nat_tests, less) in
      let in_range : nat_le (d * 10 ^ (8 - k)) (most_billionths negative) ≡ true = grind (arith, nat_tests, most) in
      let none = rw (few_places, in_range) at passes None in
      absurd (none-some _ (sym none))
  | inr more ↦ more
]

-- ---- the numerals that are printed

record IsPrinted (negative : Bool) (d : ℕ) (e : ℤ) (p : Parts) : Type 0 where
  text : text_of p ≡ size_text d e
  well_formed : IsWellFormed p
  digits : digits_of p ≡ d
  power : exponent_of p ≡ Some e
  near : nearest binary64 false p ≡ nearest_to_decimal binary64 false d e
  plain : plain_billionths p ≡ None
  whole : Passes negative (whole_billionths p)

exponent_is : (down : Bool) (ds : List ℕ) (count : ℕ) → 1 ≤ count → length ds ≡ count → exponent_text down ds ≡ 101 ∷ (sign_text down ++ ds)
exponent_is down [] count some many = absurd (omega (arith, some, many))
exponent_is down (d ∷ ds) count some many = refl

-- with an exponent
module _ (negative down : Bool) (d k : ℕ) (e : ℤ) (few : d < 10 ^ 19) (low : k ≤ 1000) (is : with_sign down k ≡ e) where
  abbrev sized : Parts
  sized = record { whole = decimal d; point = false; fraction = []; exponent_negative = down; exponent = decimal k; len = length (decimal d ++ (codes "e" ++ (sign_text down ++ decimal k))) }

  sized_is : size_text d e ≡ decimal d ++ (codes "e" ++ (sign_text down ++ decimal k)) → round binary64 false (d * 10 ^ (if down then 0 else k)) (10 ^ (if down then k else 0)) ≡ nearest_to_decimal binary64 false d e
      → Passes negative (whole_billionths sized) → IsPrinted negative d e sized
  sized_is text near whole =
      let (digits, some, ds) = decimal_is d (omega (arith, few)) in
      let (places, more, es) = decimal_is k (omega (arith, low)) in
      record {
        text = rw (exponent_is down (decimal k) places more es.many) (sym text);
        well_formed = record {
          whole_digits = ds.all;
          fraction_digits = tt;
          exponent_digits = es.all;
          no_point = λ e. refl;
          no_exponent = λ none. absurd (let count = es.many in omega (arith, more, count, ap length none));
          len_is = rw (exponent_is down (decimal k) places more es.many) refl;
        };
        digits = rw (append-nil (decimal d)) ds.value;
        power = rw es.value (let same : (with_sign down k -ℤ pos 0) ≡ e = omega (arith, ints, is) in grind (arith, nat_tests, low, same));
        near = rw (append-nil (decimal d), ds.value, es.value) (ap (λ (m : ℕ). round binary64 false (d * 10 ^ (if down then 0 else k)) (10 ^ m)) (omega arith) ∙ near);
        plain = let count = es.many in grind (arith, nat_tests, more, count);
        whole = whole;
      }

-- with a point
module _ (negative : Bool) (d k : ℕ) (few : d < 10 ^ 19) (many : 9 ≤ k) where
  abbrev before : ℕ
  before = d / 10 ^ suc k

  abbrev after : List ℕ
  after = place_digits (suc k) (d % 10 ^ suc k)

  abbrev pointed : Parts
  pointed = record { whole = decimal before; point = true; fraction = after; exponent_negative = false; exponent = []; len = length (decimal before ++ (codes "." ++ after)) }

  pointed_is : has_point d (negsuc k) ≡ true → 1 ≤ d % 10 → IsPrinted negative d (negsuc k) pointed
  pointed_is point last =
      let (digits, some, ds) = decimal_is before (omega (arith, few, div-le_self d (10 ^ suc k))) in
      let rest = places_are (suc k) (d % 10 ^ suc k) (mod-lt d (ten_to_pos (suc k))) in
      let all : digits_value 10 (decimal before ++ after) ≡ d = digits_value-append (decimal before) after ∙ rw (ds.value, rest.many, rest.value) (div-add-mod' d (10 ^ suc k)) in
      record {
        text = rw (point, append-nil after) refl;
        well_formed = record {
          whole_digits = ds.all;
          fraction_digits = rest.all;
          exponent_digits = tt;
          no_point = λ e. cc;
          no_exponent = λ e. refl;
          len_is = rw (append-nil after) refl;
        };
        digits = all;
        power = rw (rest.many) (grind (arith, nat_tests));
        near = rw (all, rest.many, mul-one d) (ap (λ (m : ℕ). round binary64 false d (10 ^ m)) (omega arith));
        plain = let count = rest.many in grind (arith, nat_tests, count, many);
        whole = no_whole negative pointed d all last (omega (arith, length-append (decimal before) after, rest.many));
      }

printed : (negative : Bool) (d : ℕ) (e : ℤ) → d < 10 ^ 19 → unsigned_abs e ≤ 1000 → is_beyond negative d e ≡ true → ((k : ℕ) → e ≡ negsuc k → (9 ≤ k) × (1 ≤ d % 10)) → (p : Parts) × IsPrinted negative d e p
printed negative d (pos k) few low beyond last =
    let (digits, some, ds) = decimal_is d (omega (arith, few)) in
    let (places, more, es) = decimal_is k (omega (arith, low)) in
    let p = sized negative false d k (pos k) few low refl in
    let size = length (decimal d) in
    let up : size + k - size ≡ k = omega arith in
    let whole : Passes negative (whole_billionths p) = rw (append-nil (decimal d), es.value, drop_of_length-le (decimal d) {i = size + k} (omega arith), take_all (size + k) (decimal d) (omega arith), ds.value, up) (beyond_passes negative d k beyond) in
    (p, sized_is negative false d k (pos k) few low refl refl refl whole)
printed negative d (negsuc k) few low beyond last = elim (cases_Bool (has_point d (negsuc k))) [
  | inl point ↦ (pointed negative d k few (last k refl).0, pointed_is negative d k few (last k refl).0 point (last k refl).1)
  | inr none ↦
      let (digits, some, ds) = decimal_is d (omega (arith, few)) in
      let (places, more, es) = decimal_is (suc k) (omega (arith, low)) in
      let p = sized negative true d (suc k) (negsuc k) few low refl in
      let whole = no_whole negative p d (rw (append-nil (decimal d)) ds.value) (last k refl).1 (rw (append-nil (decimal d), es.value) (let count = ds.many in omega (arith, some, count))) in
      (p, sized_is negative true d (suc k) (negsuc k) few low refl (rw none refl) (rw (mul-one d) refl) whole)
]

-- ---- the whole

-- a numeral that is held as a decimal, step by step
record IsHeldAs (negative : Bool) (p : Parts) (d : Decimal) : Type 0 where
  finite : float_is_finite (nearest binary64 false p) ≡ true
  double : Passes negative (double_billionths (nearest binary64 false p))
  found : shortest_of negative (nearest binary64 false p) p (exponent_of p) ≡ Some (d.digits, d.exponent)
  decimal : Passes negative (decimal_billionths (d.digits, d.exponent))
  sign : d.negative ≡ negative

same_held : (a b : Decimal) → Some (numerals.decimal a) ≡ Some (numerals.decimal b) → a ≡ b
same_held a b e = cc

short_is : (negative : Bool) (s : Option (ℕ × ℤ)) (d : Decimal) → held_short negative s ≡ Some (numerals.decimal d)
    → (s ≡ Some (d.digits, d.exponent)) × Passes negative (decimal_billionths (d.digits, d.exponent)) × (d.negative ≡ negative)
short_is negative None d is = absurd (none-some _ is)
short_is negative (Some s) d is =
    let by = passed negative (decimal_billionths s) _ d is in
    let same = same_held (decimal_of negative s.0 s.1) d by.1 in
    (ap (λ (c : Decimal). Some (c.digits, c.exponent)) same, subst (λ (c : Decimal). Passes negative (decimal_billionths (c.digits, c.exponent))) same by.0, sym (ap (λ (c : Decimal). c.negative) same))

held_is : (negative : Bool) (p : Parts) (d : Decimal) → held_as negative p ≡ Some (numerals.decimal d) → IsHeldAs negative p d
held_is negative p d is =
    let x = nearest binary64 false p in
    let rest = (passed negative (whole_billionths p) _ d (passed negative (plain_billionths p) _ d is).1).1 in
    elim (cases_Bool (float_is_finite x)) [
      | inl finite ↦
          let double = passed negative (double_billionths x) _ d (rw finite at rest) in
          let short = short_is negative (shortest_of negative x p (exponent_of p)) d double.1 in
          record { finite = finite; double = double.0; found = short.0; decimal = short.1; sign = short.2 }
      | inr beyond ↦ absurd (none-some _ (rw beyond at rest))
    ]

found_in : (negative : Bool) (x : Float) (text : List ℕ) (power : Option ℤ) (d : ℕ) (e : ℤ) → shortest_of negative x (scan text) power ≡ Some (d, e) → IsShortest negative x (d, e)
found_in negative x text None d e is = absurd (none-some _ is)
found_in negative x text (Some power) d e is =
    let p = scan text in
    let all = scan_numeral-AllDigits text in
    let below = digits_value_short (numerals_by_value (AllDigits 10) tells_digits) (p.whole ++ p.fraction) (length (p.whole ++ p.fraction)) (AllDigits-append p.whole p.fraction all.0 all.1) (omega arith) in
    is_shortest negative x (length (p.whole ++ p.fraction)) (digits_of p) power (d, e) below is

-- what has digits after the point has ten at least, and the last is not 0
last_is : (negative : Bool) (x : Float) (d k : ℕ) → IsShortest negative x (d, negsuc k) → Passes negative (decimal_billionths (d, negsuc k)) → (9 ≤ k) × (1 ≤ d % 10)
last_is negative x d zero f passes = absurd (let many = more_places negative d 0 f.few passes in omega (arith, many))
last_is negative x d (suc k) f passes = (more_places negative d (suc k) f.few passes, ends_in negative x d k f)

pub read_back : (negative : Bool) (text : List ℕ) (d : Decimal) → held_as negative (scan text) ≡ Some (numerals.decimal d)
    → (d.negative ≡ negative) × (d.digits < 10 ^ 19) × (unsigned_abs d.exponent ≤ 1000) × (held_as negative (scan (size_text d.digits d.exponent)) ≡ Some (numerals.decimal d))
read_back negative text d is =
    let x = nearest binary64 false (scan text) in
    let h = held_is negative (scan text) d is in
    let f = found_in negative x text (exponent_of (scan text)) d.digits d.exponent h.found in
    let reads = f.reads in
    let low : unsigned_abs d.exponent ≤ 1000 = grind (arith, nat_tests, reads) in
    let last : (k : ℕ) → d.exponent ≡ negsuc k → (9 ≤ k) × (1 ≤ d.digits % 10) =
    λ k same. last_is negative x d.digits k (subst (λ e. IsShortest negative x (d.digits, e)) same f) (subst (λ e. Passes negative (decimal_billionths (d.digits, e))) same h.decimal) in
    let (p, q) = printed negative d.digits d.exponent f.few low (grind (arith, nat_tests, reads)) last in
    let near : nearest binary64 false p ≡ x = q.near ∙ read_is negative x d.digits d.exponent (round-fits binary64 false _ _) reads in
    let found : shortest_of negative x p (exponent_of p) ≡ Some (d.digits, d.exponent) = rw (q.power, q.digits) (again negative x (length (p.whole ++ p.fraction)) (d.digits, d.exponent) f) in
    let held : held_as negative p ≡ Some (numerals.decimal d) =
    rw (q.plain) (q.whole _ ∙ rw (near, h.finite) (h.double _ ∙ rw found (h.decimal _ ∙ ap (λ s. Some (numerals.decimal (decimal_of s d.digits d.exponent))) (sym h.sign)))) in
    (h.sign, f.few, low, ap (λ t. held_as negative (scan t)) (sym q.text) ∙ ap (held_as negative) (scan_numeral-text_of p q.well_formed) ∙ held)

-- ---- numerals that are held as billionths

in_range : (negative : Bool) (n : ℕ) → n ≤ most_billionths negative → IsInLiteralRange (with_sign negative n)
in_range true n few = (omega (arith, ints, few), omega (arith, ints, few))
in_range false n few = (omega (arith, ints, few), omega (arith, ints, few))

-- where something is held, and else the other
either : (negative : Bool) (o : Option ℕ) (other : Option Amount) (b : ℤ) → held_or negative o other ≡ Some (billionths b) → IsInLiteralRange b ⊎ (other ≡ Some (billionths b))
either negative None other b is = inr is
either negative (Some n) other b is = elim (cases_Bool (nat_le n (most_billionths negative))) [
  | inl few ↦
      let same : with_sign negative n ≡ b = let at = rw few at is in cc in
      inl (subst IsInLiteralRange same (in_range negative n (leb-true n (most_billionths negative) few)))
  | inr many ↦ inr (rw many at is)
]

short_in_range : (negative : Bool) (s : Option (ℕ × ℤ)) (b : ℤ) → held_short negative s ≡ Some (billionths b) → IsInLiteralRange b
short_in_range negative None b is = absurd (none-some _ is)
short_in_range negative (Some s) b is = elim (either negative (decimal_billionths s) _ b is) [ inl range ↦ range | inr other ↦ absurd cc ]

double_in_range : (negative : Bool) (p : Parts) (x : Float) (b : ℤ) → held_double negative p x ≡ Some (billionths b) → IsInLiteralRange b
double_in_range negative p x b is = elim (cases_Bool (float_is_finite x)) [
  | inl finite ↦ elim (either negative (double_billionths x) _ b (rw finite at is)) [ inl range ↦ range | inr short ↦ short_in_range negative (shortest_of negative x p (exponent_of p)) b short ]
  | inr beyond ↦ absurd (none-some _ (rw beyond at is))
]

pub held_in_range : (negative : Bool) (p : Parts) (b : ℤ) → held_as negative p ≡ Some (billionths b) → IsInLiteralRange b
held_in_range negative p b is = elim (either negative (plain_billionths p) _ b is) [
  | inl range ↦ range
  | inr whole ↦ elim (either negative (whole_billionths p) _ b whole) [ inl range ↦ range | inr double ↦ double_in_range negative p _ b double ]
]

-- a numeral without an exponent, and with few digits after its point
pub plain_held : (negative point : Bool) (a ds : List ℕ) → AllDigits 10 a → AllDigits 10 ds → (point ≡ false → ds ≡ []) → length ds ≤ 9
    → digits_value 10 a * 1000000000 + digits_value 10 ds * 10 ^ (9 - length ds) ≤ most_billionths negative
    → held_as negative (scan (a ++ (if point then 46 ∷ ds else []))) ≡ Some (billionths (with_sign negative (digits_value 10 a * 1000000000 + digits_value 10 ds * 10 ^ (9 - length ds))))
plain_held negative point a ds whole fraction none few range =
    let tail = if point then 46 ∷ ds else [] in
    let p : Parts = record { whole = a; point = point; fraction = ds; exponent_negative = false; exponent = []; len = length (a ++ (tail ++ [])) } in
    let w : IsWellFormed p = record { whole_digits = whole; fraction_digits = fraction; exponent_digits = tt; no_point = none; no_exponent = λ e. refl; len_is = refl } in
    let same : scan (a ++ tail) ≡ p = ap (λ t. scan (a ++ t)) (sym (append-nil tail)) ∙ scan_numeral-text_of p w in
    rw same (grind (arith, nat_tests, few, range))
