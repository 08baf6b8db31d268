-- The fewest digits: one less is fewer, and in the end there is none less.
use Rattle.serde_json_path_numbers.proofs.Words.{◌≡◌, ℕ, zero, suc, ◌+◌, ◌*◌, ◌/◌, ◌%◌, ◌^◌, ◌<◌, ◌≤◌, Bool, true, refl, sym, ap, subst, ◌∙◌, false, arith, nat_tests, ints, Some, None, ℤ, pos, negsuc, Float, Option, ◌+ℤ◌, binary64, option_map, unwrap_or, one_less, fewest, first_digits, reads_as, shortest, cases_lt, cases_Bool, none-some, nearest_to_decimal, pow-succ', div-div-eq-div-mul, le-div_iff_mul-le, ten_to_pos, inl, inr, mul_assoc, mul_comm, mul-le-mul_left, pow-suc, round_same, eq-zero-or-pos}

module _ (negative : Bool) (x : Float) where
  -- the end from n digits on
  pub record IsEnd (n : ℕ) (d : ℕ × ℤ) : Type 0 where
    pub below : d.0 ≤ n
    pub none : one_less negative x d ≡ None

  -- what is one less has fewer digits
  fewer : (n : ℕ) (e : ℤ) (d : ℕ × ℤ) → one_less negative x (n, e) ≡ Some d → d.0 < n
  fewer n e d is = grind (arith, nat_tests, is)

  ends_by : (k n : ℕ) (e : ℤ) (o : Option (ℕ × ℤ)) → ((m : ℕ) (f : ℤ) → m ≤ k → IsEnd m (fewest negative x k (m, f))) → n ≤ suc k → one_less negative x (n, e) ≡ o
      → IsEnd n (unwrap_or (option_map (fewest negative x k) o) (n, e))
  ends_by k n e None rest few is = record { below = omega arith; none = is }
  ends_by k n e (Some (m, f)) rest few is =
      let less = fewer n e (m, f) is in
      let end = rest m f (omega (arith, few, less)) in
      let below = end.below in
      record { below = omega (arith, less, below); none = end.none }

  ends : (k n : ℕ) (e : ℤ) → n ≤ k → IsEnd n (fewest negative x k (n, e))
  ends zero n e few = let none : n ≡ 0 = omega (arith, few) in rw none (record { below = omega arith; none = refl })
  ends (suc k) n e few = ends_by k n e (one_less negative x (n, e)) (ends k) few refl

  -- where none is less, as often as may be
  pub stays : (k : ℕ) (d : ℕ × ℤ) → one_less negative x d ≡ None → fewest negative x k d ≡ d
  stays zero d none = refl
  stays (suc k) d none = rw none refl

  -- it matters not how often, once it is often enough
  same_by : (k j n : ℕ) (e : ℤ) (o : Option (ℕ × ℤ)) → ((m : ℕ) (f : ℤ) → m ≤ k → m ≤ j → fewest negative x k (m, f) ≡ fewest negative x j (m, f)) → n ≤ suc k → n ≤ suc j
      → one_less negative x (n, e) ≡ o → unwrap_or (option_map (fewest negative x k) o) (n, e) ≡ unwrap_or (option_map (fewest negative x j) o) (n, e)
  same_by k j n e None rest few more is = refl
  same_by k j n e (Some (m, f)) rest few more is = let less = fewer n e (m, f) is in rest m f (omega (arith, few, less)) (omega (arith, more, less))

  same_end : (k j n : ℕ) (e : ℤ) → n ≤ k → n ≤ j → fewest negative x k (n, e) ≡ fewest negative x j (n, e)
  same_end zero j n e few more = let none : n ≡ 0 = omega (arith, few) in rw none (sym (stays j (0, e) refl))
  same_end (suc k) zero n e few more = let none : n ≡ 0 = omega (arith, more) in rw none refl
  same_end (suc k) (suc j) n e few more = same_by k j n e (one_less negative x (n, e)) (same_end k j) few more refl

  pub goes_on : (n : ℕ) (e : ℤ) (m : ℕ) (f : ℤ) → one_less negative x (n, e) ≡ Some (m, f) → fewest negative x n (n, e) ≡ fewest negative x m (m, f)
  goes_on zero e m f is = absurd (none-some _ is)
  goes_on (suc n) e m f is = let less = fewer (suc n) e (m, f) is in rw is (same_end n m m f (omega (arith, less)) (omega arith))

pub ruleset of_fewest = (goes_on, stays)

-- ---- the first digits

-- a number of few digits is its first ones
pub all_first : (k n : ℕ) (e : ℤ) → n < 10 ^ 19 → first_digits k (n, e) ≡ (n, e)
all_first zero n e few = refl
all_first (suc k) n e few = grind (arith, nat_tests, few)

cut_first : (k n : ℕ) (e : ℤ) → 10 ^ 19 ≤ n → first_digits (suc k) (n, e) ≡ first_digits k (n / 10, e +ℤ pos 1)
cut_first k n e many = grind (arith, nat_tests, many)

pub first_at : (k r n c : ℕ) (e : ℤ) → n / 10 ^ k ≡ c → 10 ^ 18 ≤ c → c < 10 ^ 19 → first_digits (k + r) (n, e) ≡ (c, e +ℤ pos k)
first_at zero r n c e is many few =
    let same : n ≡ c = omega (arith, is) in
    let here : (e +ℤ pos 0) ≡ e = omega (arith, ints) in
    let none : 0 + r ≡ r = omega arith in
    rw (same, here, none) (all_first r c e few)
first_at (suc k) r n c e is many few =
    let next : n / 10 / 10 ^ k ≡ c = div-div-eq-div-mul n 10 (10 ^ k) ∙ ap (λ m. n / m) (sym (pow-succ' 10 k)) ∙ is in
    let unit : ((e +ℤ pos 1) +ℤ pos k) ≡ (e +ℤ pos (suc k)) = omega (arith, ints) in
    let least : c * 10 ^ suc k ≤ n = (le-div_iff_mul-le (ten_to_pos (suc k))).0 (omega (arith, is)) in
    let ten : c * 10 ^ suc k ≡ c * 10 ^ k * 10 = ap (λ m. c * m) (pow-suc 10 k) ∙ sym (mul_assoc c (10 ^ k) 10) in
    let some : c ≤ c * 10 ^ k = omega (arith, mul-le-mul_left c (ten_to_pos k)) in
    let large : 10 ^ 19 ≤ n = omega (arith, least, ten, some, many) in
    let more : suc k + r ≡ suc (k + r) = omega arith in
    rw more (cut_first (k + r) n e large ∙ first_at k r (n / 10) c (e +ℤ pos 1) next many few ∙ ap (λ (f : ℤ). (c, f)) unit)

few_first : (k n : ℕ) (e : ℤ) → n < 10 ^ k → (first_digits k (n, e)).0 < 10 ^ 19
few_first zero n e few = omega (arith, few)
few_first (suc k) n e few = elim (cases_lt n (10 ^ 19)) [
  | inl less ↦ subst (λ (d : ℕ × ℤ). d.0 < 10 ^ 19) (sym (all_first (suc k) n e less)) less
  | inr more ↦
      let rest : n / 10 < 10 ^ k = omega (arith, few, pow-succ' 10 k) in
      subst (λ (d : ℕ × ℤ). d.0 < 10 ^ 19) (sym (cut_first k n e more)) (few_first k (n / 10) (e +ℤ pos 1) rest)
]

-- ---- the shortest

pub record IsShortest (negative : Bool) (x : Float) (d : ℕ × ℤ) : Type 0 where
  pub reads : reads_as negative x d.0 d.1 ≡ true
  pub few : d.0 < 10 ^ 19
  pub none : one_less negative x d ≡ None

pub is_shortest : (negative : Bool) (x : Float) (k n : ℕ) (e : ℤ) (d : ℕ × ℤ) → n < 10 ^ k → shortest negative x k (n, e) ≡ Some d → IsShortest negative x d
is_shortest negative x k n e d few is =
    let first = first_digits k (n, e) in
    let last = fewest negative x first.0 first in
    let end = ends negative x first.0 first.0 first.1 (omega arith) in
    let below = end.below in
    elim (cases_Bool (reads_as negative x last.0 last.1)) [
      | inl reads ↦
          let same : last ≡ d = let at = rw reads at is in cc in
          subst (IsShortest negative x) same (record { reads = reads; few = omega (arith, below, few_first k n e few); none = end.none })
      | inr other ↦ absurd (none-some _ (rw other at is))
    ]

-- and found again
pub again : (negative : Bool) (x : Float) (k : ℕ) (d : ℕ × ℤ) → IsShortest negative x d → shortest negative x k d ≡ Some d
again negative x k d h = rw (all_first k d.0 d.1 h.few, stays negative x d.0 d h.none, h.reads) refl

-- of several digits after the point the last is not 0, or it would be dropped
pub ends_in : (negative : Bool) (x : Float) (d k : ℕ) → IsShortest negative x (d, negsuc (suc k)) → 1 ≤ d % 10
ends_in negative x d k h = elim (eq-zero-or-pos (d % 10)) [
  | inl none ↦
      let ten : 10 ^ suc (suc k) ≡ 10 ^ suc k * 10 = pow-suc 10 (suc k) in
      let cut : d ≡ d / 10 * 10 = omega (arith, none) in
      let cross : d * 10 ^ suc k ≡ d / 10 * 10 ^ suc (suc k) = ap (λ m. m * 10 ^ suc k) cut ∙ mul_assoc (d / 10) 10 (10 ^ suc k) ∙ ap (λ m. d / 10 * m) (mul_comm 10 (10 ^ suc k) ∙ sym ten) in
      let same : nearest_to_decimal binary64 false d (negsuc (suc k)) ≡ nearest_to_decimal binary64 false (d / 10) (negsuc k) =
      round_same binary64 false d (10 ^ suc (suc k)) (d / 10) (10 ^ suc k) (ten_to_pos (suc (suc k))) (ten_to_pos (suc k)) cross in
      let reads = h.reads in
      let stop = h.none in
      absurd (grind (arith, nat_tests, same, reads, stop, none))
  | inr some ↦ some
]
