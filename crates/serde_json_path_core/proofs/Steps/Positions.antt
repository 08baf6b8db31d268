-- The positions of a slice, and how they go on by one.
use Rattle.serde_json_path_core.proofs.Words.{nat_tests, common_steps, ◌≡◌, ℕ, zero, suc, ◌+◌, ◌-◌, min, ◌<◌, ◌≤◌, List, [], ◌∷◌, drop, length, get_or, Bool, true, false, None, ◌⊎◌, inl, inr, refl, sym, ap, ◌∙◌, arith, true≢false, cases_lt, view, items_view, Value, get_item_within, get_item_past, by_position, strided, next_position}
use Rattle.serde_json_path_core.proofs.Meaning.SlicePositions.{next_strided}

pub first_is : {A : Type 0} {xs ys : List A} {x : A} → xs ≡ x ∷ ys → xs ≡ x ∷ drop 1 xs
first_is {A} {xs} {ys} {x} e = e ∙ ap (λ zs. x ∷ drop 1 zs) (sym e)

-- nothing is left where no position is, nor past the items
pub strided-none : (items : List Value) (count : ℕ) (upwards : Bool) (first stride : ℕ) → (count ≡ 0) ⊎ (length items ≤ first) → strided count upwards first stride (items_view items) ≡ []
strided-none items count upwards first stride h = grind (arith, nat_tests, common_steps, next_strided, get_item_past)

-- the item at the first position, and the others
pub strided-first : (items : List Value) (count : ℕ) (upwards : Bool) (first stride : ℕ) (d : Value) → (count ≡ 0 → ⊥) → first < length items
    → strided count upwards first stride (items_view items)
    ≡ (by_position first, view (get_or items first d)) ∷ strided (count - 1) upwards (next_position upwards first stride) stride (items_view items)
strided-first items count upwards first stride d some within = grind (arith, nat_tests, common_steps, get_item_within, next_strided)

-- upwards, a position that stops at some number past the items has no item, as the one that it stands for
pub strided-up : (items : List Value) (count : ℕ) (upwards : Bool) (first stride next greatest : ℕ) → upwards ≡ true → next ≡ min (first + stride) greatest → length items ≤ greatest
    → strided count upwards (next_position upwards first stride) stride (items_view items) ≡ strided count upwards next stride (items_view items)
strided-up items count upwards first stride next greatest up is most = grind (arith, nat_tests, common_steps, cases_lt, strided-none)

-- downwards, a position stops at 0
pub strided-down : (items : List Value) (count : ℕ) (upwards : Bool) (first stride next : ℕ) → upwards ≡ false → next ≡ first - stride
    → strided count upwards (next_position upwards first stride) stride (items_view items) ≡ strided count upwards next stride (items_view items)
strided-down items count upwards first stride next down is = grind (arith, nat_tests, common_steps)

-- one position, and those after it
pub ruleset of_positions = (first_is, strided-none, strided-first)
