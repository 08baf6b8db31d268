-- What `scan` finds in a number, by its parts.
use Rattle.std.proofs.Common.{◌≡◌, ◌==◌, ◌+◌, ◌-◌, ℕ, Bool, true, false, cond, ◌&&◌, ◌||◌, List, [], ◌∷◌, ◌++◌, length, take, drop, slice_index, refl, sym, ap, ap₂, ◌∙◌, arith, if◌then◌else◌, length-append, append_assoc}
use Rattle.std.proofs.lemmas.Bool.{and_parts}
use Rattle.std.proofs.lemmas.List.{get_or-append-add}
use Rattle.std.proofs.Math.Seq.{drop-append-add, drop-append_seam, take-append_seam}
use Rattle.std.specs.Char.{is_ascii_digit}
use Rattle.std.specs.List.{prefix_len}
use Rattle.std.specs.Prelude.{slice_range}
use Rattle.fast_float.specs.Text.{digits_end, exponent_start, has_exponent, scan}
use Rattle.jsonpath_document.proofs.Shapes.{all_digits, IsPointPart, no_point, a_point}

prefix_all : (w r : List ℕ) → all_digits w ≡ true → prefix_len is_ascii_digit (w ++ r) ≡ length w + prefix_len is_ascii_digit r
prefix_all [] r h = omega arith
prefix_all (x ∷ xs) r h =
    let both = and_parts _ _ h in
    let more = prefix_all xs r both.1 in
    ap (λ z. cond z (1 + prefix_len is_ascii_digit (xs ++ r)) 0) both.0 ∙ (omega (arith, more))

prefix_none : (r : List ℕ) → is_ascii_digit (slice_index r 0) ≡ false → prefix_len is_ascii_digit r ≡ 0
prefix_none [] h = refl
prefix_none (x ∷ xs) h = ap (λ z. cond z (1 + prefix_len is_ascii_digit xs) 0) h

digits_over : (front w r : List ℕ) → all_digits w ≡ true → is_ascii_digit (slice_index r 0) ≡ false → digits_end (front ++ (w ++ r)) (length front) ≡ length front + length w
digits_over front w r h k =
    ap (λ t. length front + prefix_len is_ascii_digit t) (drop-append_seam front (w ++ r))
    ∙ omega (arith, prefix_all w r h, prefix_none r k)

pub at : (front r : List ℕ) (i : ℕ) → slice_index (front ++ r) (length front + i) ≡ slice_index r i
at front r i = get_or-append-add front r i 0

-- what is found, where the digits before an exponent end at a place
record FoundAt (text w f : List ℕ) (b : ℕ) : Type 0 where
  whole : (scan text).whole ≡ w
  fraction : (scan text).fraction ≡ f
  negative : (scan text).exponent_negative ≡ has_exponent text b && (slice_index text (b + 1) == 45)
  exponent : (scan text).exponent ≡ (if has_exponent text b then slice_range text (exponent_start text b) (digits_end text (exponent_start text b)) else [])

found_at : (text : List ℕ) (a : ℕ) (z : Bool) (b : ℕ) → digits_end text 0 ≡ a → (slice_index text a == 46) ≡ z → (if z then digits_end text (a + 1) else a) ≡ b
    → FoundAt text (slice_range text 0 a) (if z then slice_range text (a + 1) b else []) b
unfolding scan
found_at text a z b e f g =
    let start = digits_end text 0 in
    let point : (slice_index text start == 46) ≡ z = ap (λ n. slice_index text n == 46) e ∙ f in
    let end = if slice_index text start == 46 then digits_end text (start + 1) else start in
    let ends : end ≡ b = ap₂ (λ n y. if y then digits_end text (n + 1) else n) e point ∙ g in record {
      whole = ap (λ n. slice_range text 0 n) e;
      fraction = ap₂ (λ n y. if y then slice_range text (n + 1) end else []) e point ∙ ap (λ m. if z then slice_range text (a + 1) m else []) ends;
      negative = ap (λ m. has_exponent text m && (slice_index text (m + 1) == 45)) ends;
      exponent = ap (λ m. if has_exponent text m then slice_range text (exponent_start text m) (digits_end text (exponent_start text m)) else []) ends;
    }

-- ---- an exponent, by its own bytes

abbrev pub sign_len : List ℕ → ℕ
sign_len q = if slice_index q 1 == 45 || slice_index q 1 == 43 then 2 else 1

abbrev pub is_power : List ℕ → Bool
is_power q = (slice_index q 0 == 101 || slice_index q 0 == 69) && is_ascii_digit (slice_index q (sign_len q))

abbrev pub power_digits : List ℕ → List ℕ
power_digits q = if is_power q then take (prefix_len is_ascii_digit (drop (sign_len q) q)) (drop (sign_len q) q) else []

module _ (front q : List ℕ) where
  abbrev text : List ℕ
  text = front ++ q

  abbrev end : ℕ
  end = length front

  start_is : exponent_start text end ≡ end + sign_len q
  start_is =
      ap (λ x. if x == 45 || x == 43 then end + 2 else end + 1) (at front q 1)
      ∙ (elim (slice_index q 1 == 45 || slice_index q 1 == 43) as (λ z. (if z then end + 2 else end + 1) ≡ end + (if z then 2 else 1)) [ true ↦ refl | false ↦ refl ])

  first_is : slice_index text end ≡ slice_index q 0
  first_is = let same : end ≡ end + 0 = omega arith in ap (λ n. slice_index text n) same ∙ at front q 0

  power_is : has_exponent text end ≡ is_power q
  power_is = ap₂ (λ x y. (x == 101 || x == 69) && is_ascii_digit y) first_is (ap (λ n. slice_index text n) start_is ∙ at front q (sign_len q))

  digits_is : slice_range text (exponent_start text end) (digits_end text (exponent_start text end)) ≡ take (prefix_len is_ascii_digit (drop (sign_len q) q)) (drop (sign_len q) q)
  digits_is =
      let left : drop (end + sign_len q) text ≡ drop (sign_len q) q = drop-append-add front q (sign_len q) in
      let size : end + sign_len q + prefix_len is_ascii_digit (drop (end + sign_len q) text) - (end + sign_len q) ≡ prefix_len is_ascii_digit (drop (end + sign_len q) text) = omega arith in
      ap (λ n. slice_range text n (digits_end text n)) start_is ∙ ap (λ n. take n (drop (end + sign_len q) text)) size
      ∙ ap (λ t. take (prefix_len is_ascii_digit t) t) left

  exponent_is : (if has_exponent text end then slice_range text (exponent_start text end) (digits_end text (exponent_start text end)) else []) ≡ power_digits q
  exponent_is = ap₂ (λ z t. if z then t else []) power_is digits_is

  negative_is : has_exponent text end && (slice_index text (end + 1) == 45) ≡ is_power q && (slice_index q 1 == 45)
  negative_is = ap₂ (λ z x. z && (x == 45)) power_is (at front q 1)

-- ---- all parts

abbrev pub fraction_of : List ℕ → List ℕ
fraction_of p = drop 1 p

front_is : (w r : List ℕ) → slice_range (w ++ r) 0 (length w) ≡ w
front_is w r = let same : length w - 0 ≡ length w = omega arith in ap (λ n. take n (w ++ r)) same ∙ take-append_seam w r

-- what is found in a number of these parts
pub record IsScanned (w p q : List ℕ) : Type 0 where
  pub whole : (scan (w ++ (p ++ q))).whole ≡ w
  pub fraction : (scan (w ++ (p ++ q))).fraction ≡ fraction_of p
  pub negative : (scan (w ++ (p ++ q))).exponent_negative ≡ is_power q && (slice_index q 1 == 45)
  pub exponent : (scan (w ++ (p ++ q))).exponent ≡ power_digits q

pub scanned : (w p q : List ℕ) → all_digits w ≡ true → IsPointPart p → is_ascii_digit (slice_index q 0) ≡ false → (slice_index q 0 == 46) ≡ false → IsScanned w p q
scanned w p q ws no_point dq pq =
    let first : digits_end (w ++ q) 0 ≡ length w = digits_over [] w q ws dq ∙ omega arith in
    let found = found_at (w ++ q) (length w) false (length w) first (ap (λ x. x == 46) (first_is w q) ∙ pq) refl in record {
      whole = found.whole ∙ front_is w q;
      fraction = found.fraction;
      negative = found.negative ∙ negative_is w q;
      exponent = found.exponent ∙ exponent_is w q;
    }
scanned w p q ws (a_point f fs) dq pq =
    let all = w ++ (46 ∷ (f ++ q)) in
    let end = length (w ++ 46 ∷ f) in
    let same : all ≡ (w ++ 46 ∷ f) ++ q = sym (append_assoc w (46 ∷ f) q) in
    let first : digits_end all 0 ≡ length w = digits_over [] w (46 ∷ (f ++ q)) ws refl ∙ omega arith in
    let left : drop (length w + 1) all ≡ f ++ q = drop-append-add w (46 ∷ (f ++ q)) 1 in
    let size : end ≡ length w + 1 + length f = length-append w (46 ∷ f) ∙ omega arith in
    let last : digits_end all (length w + 1) ≡ end =
    ap (λ t. length w + 1 + prefix_len is_ascii_digit t) left ∙ omega (arith, prefix_all f q fs, prefix_none q dq, size) in
    let count : end - (length w + 1) ≡ length f = omega (arith, size) in
    let found = found_at all (length w) true end first (ap (λ x. x == 46) (first_is w (46 ∷ (f ++ q)))) last in record {
      whole = found.whole ∙ front_is w (46 ∷ (f ++ q));
      fraction = found.fraction ∙ ap₂ take count left ∙ take-append_seam f q;
      negative = found.negative ∙ ap (λ t. has_exponent t end && (slice_index t (end + 1) == 45)) same ∙ negative_is (w ++ 46 ∷ f) q;
      exponent = found.exponent ∙ ap (λ t. if has_exponent t end then slice_range t (exponent_start t end) (digits_end t (exponent_start t end)) else []) same ∙ exponent_is (w ++ 46 ∷ f) q;
    }
