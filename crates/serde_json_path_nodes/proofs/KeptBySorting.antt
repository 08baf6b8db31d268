-- Numbered elements are sorted by an order and then by number, those that tie with their neighbour are removed, and the
-- others are sorted back by number: what is left are the elements that no earlier one ties with, in their order.
use Rattle.serde_json_path_nodes.proofs.Words.{common_steps, ◌≡◌, ℕ, ◌+◌, ◌<◌, ◌≤◌, Bool, true, false, cond, not, ◌&&◌, ltb, nat_eq, List, [], ◌∷◌, length, get_or, refl, ap, sym, ◌∙◌, arith, IsTotalOrder, All, AllByRecursion, IsDistinct, dedup, dedup_from, filter, list_any, sum_by, IsNonDecreasingBy, IsPermutation, IsSortedBy, eq_by_cmp, is_eq, is_lt, nat_cmp, on, then_cmp, Ordering, Less, ne_eqb, nat_tests, nat_cmp_total, nat_eq_equiv, on_total, then_total, tied_back, get_or_default, All-filter, All-same, All-tail, filter_agree, All-permutation, IsNonDecreasingBy-drop, list_any-IsPermutation, sum_by-IsPermutation, IsStrictlySortedBy, IsNonDecreasingBy-filter, sum_by-cons, sum_by-le, sorted_from_all_adjacent, apart_from_distinct, IsDistinct-from_apart, IsDistinct-IsPermutation}

-- ---- filters and sums

module _ {X : Type 0} where
  -- tests that agree at the elements of a list keep the same of them
  filter_agree_all : (p q : X → Bool) (xs : List X) → AllByRecursion (λ x. p x ≡ q x) xs → filter p xs ≡ filter q xs
  filter_agree_all p q [] agree = refl
  filter_agree_all p q (x ∷ xs) agree = rw (agree.0, filter_agree_all p q xs agree.1)

  filter-second : (p : X → Bool) (x y : X) (xs : List X) → p y ≡ false → filter p (x ∷ y ∷ xs) ≡ filter p (x ∷ xs)
  filter-second p x y xs fails = ap (λ b. cond (p x) (x ∷ cond b (y ∷ filter p xs) (filter p xs)) (cond b (y ∷ filter p xs) (filter p xs))) fails

  -- what a filter leaves out adds nothing to the sum
  sum_by-filter : (f : X → ℕ) (p : X → Bool) (xs : List X) → sum_by f (filter p xs) ≡ sum_by (λ x. cond (p x) (f x) 0) xs
  sum_by-filter f p [] = refl
  sum_by-filter f p (x ∷ xs) =
      grind (arith, nat_tests, sum_by-cons f x (filter p xs), sum_by-cons (λ y. cond (p y) (f y) 0) x xs, sum_by-filter f p xs)

-- ---- a list that is sorted by number is determined by its elements

module _ {X : Type 0} (number : X → ℕ) where
  -- no element is below the first
  below_none : (bound : ℕ) (y : X) (ys : List X) → IsNonDecreasingBy number (y ∷ ys) → bound ≤ number y
      → sum_by (λ z. cond (ltb (number z) bound) 1 0) (y ∷ ys) ≡ 0
  below_none bound y ys rise low =
      grind (arith, nat_tests, sum_by-le (λ z. cond (ltb (number z) bound) 1 0) 0 (y ∷ ys), rise 0)

  -- so of two such lists with the same sums neither begins below the other
  head_le : (x y : X) (xs ys : List X) → IsNonDecreasingBy number (y ∷ ys) → ((f : X → ℕ) → sum_by f (x ∷ xs) ≡ sum_by f (y ∷ ys))
      → number y ≤ number x
  head_le x y xs ys rise sums =
      let below : X → ℕ = λ z. cond (ltb (number z) (number y)) 1 0 in
      grind (arith, nat_tests, sums below, sum_by-cons below x xs, below_none (number y) y ys rise (omega arith))

  -- lists with the same sums are the same, where the number tells the element
  pub sorted_same : (P : X → Type 0) (tells : (x y : X) → P x → P y → number x ≡ number y → x ≡ y) (xs ys : List X)
      → IsNonDecreasingBy number xs → IsNonDecreasingBy number ys → All P xs → All P ys
      → ((f : X → ℕ) → sum_by f xs ≡ sum_by f ys) → xs ≡ ys
  sorted_same P tells [] [] rise rise_again all all_again sums = refl
  sorted_same P tells [] (y ∷ ys) rise rise_again all all_again sums = absurd (omega (arith, sums (λ _. 1), sum_by-cons (λ _. 1) y ys))
  sorted_same P tells (x ∷ xs) [] rise rise_again all all_again sums = absurd (omega (arith, sums (λ _. 1), sum_by-cons (λ _. 1) x xs))
  sorted_same P tells (x ∷ xs) (y ∷ ys) rise rise_again all all_again sums =
      let level : number x ≡ number y = omega (arith, head_le x y xs ys rise_again sums, head_le y x ys xs rise (λ f. sym (sums f))) in
      let head : x ≡ y = tells x y (all 0 x (omega arith)) (all_again 0 y (omega arith)) level in
      let tails : (f : X → ℕ) → sum_by f xs ≡ sum_by f ys = λ f. omega (arith, sums f, sum_by-cons f x xs, sum_by-cons f y ys, ap f head) in
      let tail = sorted_same P tells xs ys (IsNonDecreasingBy-drop number 1 (x ∷ xs) rise) (IsNonDecreasingBy-drop number 1 (y ∷ ys) rise_again) (All-tail P x xs all) (All-tail P y ys all_again) tails in
      cc

-- ---- an order and a number

module _ {X : Type 0} (order : X → X → Ordering) (number : X → ℕ) where
  -- y ties with x and has a lower number
  abbrev pub repeats : X → X → Bool
  repeats x y = is_eq (order x y) && ltb (number y) (number x)

  -- no element ties with x and has a lower number
  abbrev pub is_first_among : List X → X → Bool
  is_first_among all x = not (list_any (repeats x) all)

  abbrev pub order_then_number : X → X → Ordering
  order_then_number = then_cmp order (on number nat_cmp)

  later : (x y : X) → order_then_number x y ≡ Less → is_eq (order x y) ≡ true → number x < number y
  later x y less tie = grind (arith, nat_tests)

  -- nothing repeats an element that comes later
  repeats_no_later : (x : X) (xs : List X) → AllByRecursion (λ y. order_then_number x y ≡ Less) xs → list_any (repeats x) xs ≡ false
  repeats_no_later x [] above = refl
  repeats_no_later x (y ∷ ys) above = grind (arith, nat_tests, later x y above.0, repeats_no_later x ys above.1)

  first_is_first : (x : X) (xs : List X) → AllByRecursion (λ y. order_then_number x y ≡ Less) xs → is_first_among (x ∷ xs) x ≡ true
  first_is_first x xs above = grind (arith, nat_tests, repeats_no_later x xs above)

  module _ (total : IsTotalOrder order) where
    -- what repeats an element that repeats an earlier one repeats the earlier one
    repeats_through : (x y z : X) → order_then_number x y ≡ Less → is_eq (order y x) ≡ true → repeats z y ≡ true → repeats z x ≡ true
    repeats_through x y z less tie repeat = grind (arith, nat_tests)

    -- two elements with another between them that does not tie with the first
    apart : (x y z : X) → order_then_number x y ≡ Less → is_eq (order y x) ≡ false → order_then_number y z ≡ Less → is_eq (order z x) ≡ false
    apart x y z less no_tie less_again = grind (arith, nat_tests)

    -- so no element after one that does not tie with the first repeats the first
    repeats_none_before : (x y : X) (all zs : List X) → order_then_number x y ≡ Less → is_eq (order y x) ≡ false
        → AllByRecursion (λ z. order_then_number y z ≡ Less) zs → AllByRecursion (λ z. is_first_among (x ∷ all) z ≡ is_first_among all z) zs
    repeats_none_before x y all [] less no_tie above = tt
    repeats_none_before x y all (z ∷ zs) less no_tie above = grind (arith, nat_tests, apart, repeats_none_before x y all zs less no_tie above.1)

    -- the second of two elements is left out where it ties with the first, and else what comes after does not repeat the first
    second_repeats : (x y : X) (ys : List X) → order_then_number x y ≡ Less → is_eq (order y x) ≡ true
        → filter (is_first_among (x ∷ ys)) (x ∷ ys) ≡ filter (is_first_among (x ∷ y ∷ ys)) (x ∷ y ∷ ys)
    second_repeats x y ys less tie = grind (arith, nat_tests, common_steps, tied_back, filter_agree, filter-second, later, repeats_through)

    second_is_apart : (x y : X) (ys : List X) → AllByRecursion (λ z. order_then_number x z ≡ Less) (y ∷ ys) → AllByRecursion (λ z. order_then_number y z ≡ Less) ys
        → is_eq (order y x) ≡ false → x ∷ filter (is_first_among (y ∷ ys)) (y ∷ ys) ≡ filter (is_first_among (x ∷ y ∷ ys)) (x ∷ y ∷ ys)
    second_is_apart x y ys above above_next no_tie =
        let all = is_first_among (x ∷ y ∷ ys) in
        let here : all y ≡ is_first_among (y ∷ ys) y = grind (arith, nat_tests, no_tie) in
        let agree = filter_agree_all all (is_first_among (y ∷ ys)) (y ∷ ys) (here, repeats_none_before x y (y ∷ ys) ys above.0 no_tie above_next) in
        grind (arith, nat_tests, agree, first_is_first x (y ∷ ys) above)

    -- in a list that rises strictly, those that differ from their neighbour are those that repeat nothing
    dedup_from_is : (x : X) (xs : List X) → IsStrictlySortedBy order_then_number (x ∷ xs)
        → dedup_from (eq_by_cmp order) x xs ≡ filter (is_first_among (x ∷ xs)) (x ∷ xs)
    unfolding IsStrictlySortedBy
    dedup_from_is x [] rise = grind (arith, nat_tests, first_is_first x [])
    dedup_from_is x (y ∷ ys) rise =
        grind (arith, nat_tests, second_repeats x y ys rise.0.0, second_is_apart x y ys rise.0 rise.1.0, dedup_from_is x ys (rise.0.1, rise.1.1), dedup_from_is y ys rise.1)

    dedup-strict : (xs : List X) → IsStrictlySortedBy order_then_number xs → dedup (eq_by_cmp order) xs ≡ filter (is_first_among xs) xs
    dedup-strict [] rise = refl
    dedup-strict (x ∷ xs) rise = dedup_from_is x xs rise

    pub order_then_number-total : IsTotalOrder order_then_number
    order_then_number-total = then_total total (on_total number nat_cmp_total)

    -- where numbers differ, a sorted list rises strictly
    strict_from_sorted : (xs : List X) → IsSortedBy (λ x y. is_lt (order_then_number x y)) xs → IsDistinct (on number nat_eq) xs
        → IsStrictlySortedBy order_then_number xs
    unfolding IsStrictlySortedBy
    strict_from_sorted [] up distinct = tt
    strict_from_sorted (first ∷ others) up distinct = sorted_from_all_adjacent order_then_number-total (first ∷ others) first (λ k within.
        let x = get_or (first ∷ others) k first in
        let y = get_or (first ∷ others) (k + 1) first in
        grind (arith, nat_tests, order_then_number-total.antisymm x y, up k first (omega arith) within, apart_from_distinct (on number nat_eq) (first ∷ others) k (k + 1) first distinct (omega arith) within))

    -- numbered elements are sorted, freed of repeats and sorted back
    module _ (numbered sorted back : List X) (numbers : (k : ℕ) (d : X) → k < length numbered → number (get_or numbered k d) ≡ k)
        (moved : IsPermutation numbered sorted) (up : IsSortedBy (λ x y. is_lt (order_then_number x y)) sorted)
        (moved_back : IsPermutation (dedup (eq_by_cmp order) sorted) back) (rises : IsNonDecreasingBy number back) where
      -- the number of an element tells it
      abbrev IsAtItsNumber : X → Type 0
      IsAtItsNumber x = (d : X) → get_or numbered (number x) d ≡ x

      told_by_number : (x y : X) → IsAtItsNumber x → IsAtItsNumber y → number x ≡ number y → x ≡ y
      told_by_number x y first second level = sym (first x) ∙ ap (λ n. get_or numbered n x) level ∙ second x

      numbered_at : All IsAtItsNumber numbered
      numbered_at k d within e = ap (λ n. get_or numbered n e) (numbers k d within) ∙ get_or_default numbered k e d within

      numbered_differ : IsDistinct (on number nat_eq) numbered
      numbered_differ = grind (arith, nat_tests, common_steps, ne_eqb, IsDistinct-from_apart)

      -- what is kept of the sorted elements
      kept_is : dedup (eq_by_cmp order) sorted ≡ filter (is_first_among numbered) sorted
      kept_is =
          dedup-strict sorted (strict_from_sorted sorted up (IsDistinct-IsPermutation (on number nat_eq) (λ x y. nat_eq_equiv.symm (number x) (number y)) numbered sorted moved numbered_differ))
          ∙ filter_agree (is_first_among sorted) (is_first_among numbered) (λ x. ap not (sym (list_any-IsPermutation (repeats x) numbered sorted moved))) sorted

      same_sums : (f : X → ℕ) → sum_by f back ≡ sum_by f (filter (is_first_among numbered) numbered)
      same_sums f =
          let counted : X → ℕ = λ x. cond (is_first_among numbered x) (f x) 0 in
          cc (sum_by-IsPermutation f (dedup (eq_by_cmp order) sorted) back moved_back, ap (sum_by f) kept_is, sum_by-filter f (is_first_among numbered) sorted, sum_by-IsPermutation counted numbered sorted moved, sum_by-filter f (is_first_among numbered) numbered)

      pub kept_by_sorting : back ≡ filter (is_first_among numbered) numbered
      kept_by_sorting =
          let all_kept : All IsAtItsNumber (dedup (eq_by_cmp order) sorted) =
          All-same IsAtItsNumber _ _ kept_is (All-filter (is_first_among numbered) IsAtItsNumber sorted (All-permutation IsAtItsNumber numbered sorted moved numbered_at)) in
          sorted_same number IsAtItsNumber told_by_number back (filter (is_first_among numbered) numbered) rises
          (IsNonDecreasingBy-filter number (is_first_among numbered) numbered (λ i j d le within. omega (arith, numbers i d (omega arith), numbers j d within)))
          (All-permutation IsAtItsNumber (dedup (eq_by_cmp order) sorted) back moved_back all_kept)
          (All-filter (is_first_among numbered) IsAtItsNumber numbered numbered_at)
          same_sums
