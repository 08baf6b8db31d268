-- Digits written from the last to the first.
use Rattle.serde_json_path_numbers.proofs.Words.{◌≡◌, ℕ, suc, ◌+◌, ◌*◌, ◌/◌, ◌%◌, ◌^◌, ◌<◌, ◌≤◌, List, [], ◌∷◌, ◌++◌, length, drop, refl, sym, ap, ◌∙◌, arith, drop-cons, get_or-set_same, drop-set-lt, length-set, le-ltb, lt-ltb, length-append, div-add-mod', mod-lt, pow-suc, div-lt_iff_lt-mul, mul-one, append-nil, Bool, true, false, slice_set, Format, round, digit_value, digits_value, digits_value_after, AllDigits, scan_numeral-text_of, Parts, scan, nearest}

pub digit_is : (d : ℕ) → d < 10 → digit_value (48 + d) ≡ d
digit_is d h = rw (le-ltb (48 + d) 48 (omega arith), lt-ltb (48 + d) 58 (omega arith)) (omega arith)

-- digits after a number move it up
after_is : (n : ℕ) (ds : List ℕ) → digits_value_after 10 n ds ≡ n * 10 ^ length ds + digits_value 10 ds
after_is n [] = omega arith
after_is n (d ∷ ds) = rw (after_is (n * 10 + digit_value d) ds, after_is (0 * 10 + digit_value d) ds, pow-suc) (omega arith)

pub digits_value-cons : (d : ℕ) (ds : List ℕ) → digits_value 10 (d ∷ ds) ≡ digit_value d * 10 ^ length ds + digits_value 10 ds
digits_value-cons d ds = after_is (0 * 10 + digit_value d) ds ∙ ap (λ k. k * 10 ^ length ds + digits_value 10 ds) (omega arith)

-- from the place `at` on, the text has the last digits of the number, and the first are left
pub record AreWritten (text : List ℕ) (at left number : ℕ) : Type 0 where
  pub within : at ≤ length text
  pub digits : AllDigits 10 (drop at text)
  pub value : left * 10 ^ length (drop at text) + digits_value 10 (drop at text) ≡ number
  pub fits : left < 10 ^ at

moved : (left d power rest number : ℕ) → d ≡ left % 10 → left * power + rest ≡ number → left / 10 * (power * 10) + (d * power + rest) ≡ number
moved left d power rest number e h = rw e (omega (arith, ap (λ k. k * power) (div-add-mod' left 10)))

pub one_more : (text : List ℕ) (at left number : ℕ) → AreWritten text (suc at) left number
    → AreWritten (slice_set text at (48 + left % 10)) at (left / 10) number
one_more text at left number w =
    let digit = 48 + left % 10 in
    let is : digit_value digit ≡ left % 10 = digit_is (left % 10) (mod-lt left (omega arith)) in
    let here : at < length (slice_set text at digit) = omega (arith, length-set text at digit, w.within) in
    let rest : drop at (slice_set text at digit) ≡ digit ∷ drop (suc at) text = drop-cons (slice_set text at digit) at 0 here ∙ rw (get_or-set_same text at digit 0 w.within, drop-set-lt (suc at) text at digit (omega arith)) refl in
    record {
      within = omega arith;
      digits = rw rest (rw is (mod-lt left (omega arith)), w.digits);
      value = rw (rest, digits_value-cons digit (drop (suc at) text), pow-suc) (moved left (digit_value digit) (10 ^ length (drop (suc at) text)) _ number is w.value);
      fits = (div-lt_iff_lt-mul (omega arith)).1 (omega (arith, w.fits, pow-suc 10 at));
    }

-- ---- the text of so many billionths

abbrev billionths_of : List ℕ → Parts
billionths_of ds = record { whole = ds; point = false; fraction = []; exponent_negative = true; exponent = 57 ∷ []; len = length ds + 3 }

nine : digit_value 57 < 10
nine = omega arith

scanned : (ds : List ℕ) → AllDigits 10 ds → scan (ds ++ 101 ∷ 45 ∷ 57 ∷ []) ≡ billionths_of ds
scanned ds h =
    scan_numeral-text_of (billionths_of ds) (record {
      whole_digits = h;
      fraction_digits = tt;
      exponent_digits = (nine, tt);
      no_point = λ e. refl;
      no_exponent = λ e. cc;
      len_is = sym (length-append ds (101 ∷ 45 ∷ 57 ∷ []));
    })

pub nearest_written : (f : Format) (negative : Bool) (ds : List ℕ) (n : ℕ) → AllDigits 10 ds → digits_value 10 ds ≡ n
    → nearest f negative (scan (ds ++ 101 ∷ 45 ∷ 57 ∷ [])) ≡ round f negative n 1000000000
nearest_written f negative ds n h e = rw (scanned ds h, append-nil ds, e, mul-one n) refl
