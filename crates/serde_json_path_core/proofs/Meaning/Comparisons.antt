-- The computed comparisons answer as the definitions say.
use Rattle.serde_json_path_core.proofs.Words.{◌≡◌, ℤ, ◌&&◌, Option, Some, Ordering, Less, nat_cmp, refl, sym, arith, true≢false, chars, bytes_eq, ◌<ℤ◌, int_lt, Decides, slice_cmp, is_lt, Decides-int_eq, Decides-and, Decides-or, Decides-not, ints, bytes_eq-Decides, Data, null, boolean, number, string, array, object, Items, no_items, item, Members, no_members, member, as_integer, Operator, equal, not_equal, less, less_or_equal, greater, greater_or_equal, Compared, nothing, billionths, amount_of, AreEqualAmounts, AreRisingAmounts, EqualData, EqualItems, EqualMembers, AreEqual, IsLess, Compares, same_data, same_items, same_members, is_same, comes_before, compare, int_eq, Num, document_number, Numbers, whole_numbers, all_numbers, AreEqualExact, AreRisingExact, EqualNumbers, EqualSides, RisingSides, exact_of, of_both, rising_sides, same_number, same_sides, always, never, Bool, IsTrue, booleans_Decides, Float, eq, lt, nat_tests, common_steps}
use Rattle.serde_json_path_core.specs.Compared.{value}

Decides-int_lt : (a b : ℤ) → Decides (int_lt a b) (a <ℤ b)
Decides-int_lt a b = (λ e. grind (arith, ints), λ h. grind (arith, ints))

amounts_same : (a b : Option ℤ) → Decides (of_both int_eq a b) (AreEqualAmounts a b)
amounts_same a b = grind (arith, nat_tests, common_steps, never)

-- a test that is its own fact
Decides-true : (b : Bool) → Decides b (IsTrue b)
Decides-true b = (λ e. e, λ h. h)

exact_rising : (a b : Option Float) → Decides (of_both lt a b) (AreRisingExact a b)
exact_rising a b = grind (arith, nat_tests, common_steps, Decides-true, never)

sides_same : (numbers : Numbers) (a b : Compared) → Decides (same_sides numbers a b) (EqualSides numbers a b)
sides_same numbers a b = grind (arith, nat_tests, common_steps, amounts_same, Decides-true, never)

sides_rising : (numbers : Numbers) (a b : Compared) → Decides (rising_sides numbers a b) (RisingSides numbers a b)
sides_rising numbers a b = grind (arith, nat_tests, common_steps, Decides-int_lt, never, exact_rising)

module _ (numbers : Numbers) where
  mutual
    -- two values are the same exactly where they are equal
    pub data_same : (a b : Data) → Decides (same_data numbers a b) (EqualData numbers a b)
    data_same (array xs) (array ys) = items_same xs ys
    data_same (object xs) (object ys) = members_same xs ys
    data_same a b = first_of (assumption, grind (arith, nat_tests, common_steps, always, amounts_same, Decides-true, bytes_eq-Decides, never))

    items_same : (xs ys : Items) → Decides (same_items numbers xs ys) (EqualItems numbers xs ys)
    items_same (item a xs) (item b ys) = Decides-and (same_data numbers a b) (same_items numbers xs ys) (data_same a b) (items_same xs ys)
    items_same xs ys = grind (arith, nat_tests, common_steps, always, never)

    members_same : (xs ys : Members) → Decides (same_members numbers xs ys) (EqualMembers numbers xs ys)
    members_same (member k a xs) (member l b ys) =
        let rest = Decides-and (same_data numbers a b) (same_members numbers xs ys) (data_same a b) (members_same xs ys) in
        let all = Decides-and (bytes_eq k l) (same_data numbers a b && same_members numbers xs ys) (bytes_eq-Decides k l) rest in
        (λ e. let h = all.0 e in (h.0, h.1.0, h.1.1), λ h. all.1 (h.0, (h.1, h.2)))
    members_same xs ys = grind (arith, nat_tests, common_steps, always, bytes_eq-Decides, never)

  -- `==`
  pub Decides-is_same : (a b : Compared) → Decides (is_same numbers a b) (AreEqual numbers a b)
  Decides-is_same (value a) (billionths b) = sides_same numbers (value a) (billionths b)
  Decides-is_same a b = grind (arith, nat_tests, common_steps, always, data_same, sides_same, never)

  -- `<`
  pub Decides-comes_before : (a b : Compared) → Decides (comes_before numbers a b) (IsLess numbers a b)
  Decides-comes_before a b = grind (arith, nat_tests, common_steps, sides_rising)

  -- a comparison of what two sides stand for holds exactly where it computes to true
  pub Decides-compare : (op : Operator) (a b : Compared) → Decides (compare numbers op a b) (Compares numbers op a b)
  Decides-compare equal a b = Decides-is_same a b
  Decides-compare not_equal a b = Decides-not (is_same numbers a b) (Decides-is_same a b)
  Decides-compare less a b = Decides-comes_before a b
  Decides-compare less_or_equal a b = Decides-or (comes_before numbers a b) (is_same numbers a b) (Decides-comes_before a b) (Decides-is_same a b)
  Decides-compare greater a b = Decides-comes_before b a
  Decides-compare greater_or_equal a b = Decides-or (comes_before numbers b a) (is_same numbers b a) (Decides-comes_before b a) (Decides-is_same b a)
