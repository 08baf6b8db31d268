-- Equality of parts, of any kind and one by one.
use Rattle.serde_json_path_syntax.proofs.Words.{and_parts, is_operand, nat_tests, common_steps, ◌≡◌, ◌≢◌, ◌≤◌, ◌⊎◌, List, [], ◌∷◌, length, Bool, true, false, ◌&&◌, refl, sym, ap, ◌∙◌, arith, length-map, branch_in, branches_named, ands_in, arguments_in, call_in, operand_in, or_in, ors_in, query_in, segments_in, selectors_in, parts_bound, Branch, a_query, a_segment, a_selector, an_or, an_and, a_basic, an_operand, a_call, same_branch, same_and, same_arguments, same_call, same_operand, same_or, same_query, same_segments, same_selectors, Part, each_is, is_and, is_argument, is_basic, is_call, is_comparable, is_or, is_query, is_segment, is_selector, is_tested, pointwise}
use Rattle.serde_json_path_syntax.proofs.Tree.NamedParts.{operand_of_comparable, operand_of_tested}

-- ---- parts of two trees that are compared one by one

module _ (ps qs : List Branch) where
  abbrev pub same_named : List Part → List Part → Bool
  same_named xs ys = pointwise same_branch (branches_named ps xs) (branches_named qs ys)

  pub uneven : (xs ys : List Part) → length xs ≢ length ys → same_named xs ys ≡ false
  uneven xs ys h = grind (arith, nat_tests, common_steps, length-map)

  -- xs and ys are left of lefts and rights, where those before are alike
  pub record AreLeft (lefts rights xs ys : List Part) : Type 0 where
    pub same : same_named xs ys ≡ same_named lefts rights
    pub lengths : length xs ≡ length ys
    pub left_within : parts_bound xs ≤ parts_bound lefts
    pub right_within : parts_bound ys ≤ parts_bound rights

  pub all_left : (lefts rights : List Part) → length lefts ≡ length rights → AreLeft lefts rights lefts rights
  all_left lefts rights lengths = record { same = refl; lengths = lengths; left_within = omega arith; right_within = omega arith }

  module _ {lefts rights : List Part} where
    -- the next two are unlike
    pub unlike_next : (p q : Part) (xs ys : List Part) → same_branch (branch_in ps p.number) (branch_in qs q.number) ≡ false → AreLeft lefts rights (p ∷ xs) (q ∷ ys) → same_named lefts rights ≡ false
    unlike_next p q xs ys h known = sym known.same ∙ ap (λ b. b && same_named xs ys) h

    -- none is left
    pub none_left : (xs ys : List Part) → (length xs ≡ 0) ⊎ (length ys ≡ 0) → AreLeft lefts rights xs ys → same_named lefts rights ≡ true
    none_left xs ys over known = grind (arith, nat_tests, common_steps)

-- ---- one

pub query_same : (p q : Branch) → is_query p ≡ true → is_query q ≡ true → same_branch p q ≡ same_query (query_in p) (query_in q)
query_same p q h g = grind (arith, nat_tests, common_steps)

pub or_same : (p q : Branch) → is_or p ≡ true → is_or q ≡ true → same_branch p q ≡ same_or (or_in p) (or_in q)
or_same p q h g = grind (arith, nat_tests, common_steps)

pub operand_same : (p q : Branch) → is_operand p ≡ true → is_operand q ≡ true → same_branch p q ≡ same_operand (operand_in p) (operand_in q)
operand_same p q h g = grind (arith, nat_tests, common_steps)

pub call_same : (p q : Branch) → is_call p ≡ true → is_call q ≡ true → same_branch p q ≡ same_call (call_in p) (call_in q)
call_same p q h g = grind (arith, nat_tests, common_steps)

-- ---- many

pub segments_same : (xs ys : List Branch) → each_is is_segment xs ≡ true → each_is is_segment ys ≡ true → pointwise same_branch xs ys ≡ same_segments (segments_in xs) (segments_in ys)
segments_same (a_segment k s ∷ xs) (a_segment l t ∷ ys) h g = ap (λ rest. same_branch (a_segment k s) (a_segment l t) && rest) (segments_same xs ys h g)
segments_same xs ys h g = grind (arith, nat_tests, common_steps, same_branch)

pub selectors_same : (xs ys : List Branch) → each_is is_selector xs ≡ true → each_is is_selector ys ≡ true → pointwise same_branch xs ys ≡ same_selectors (selectors_in xs) (selectors_in ys)
selectors_same (a_selector s ∷ xs) (a_selector t ∷ ys) h g = ap (λ rest. same_branch (a_selector s) (a_selector t) && rest) (selectors_same xs ys h g)
selectors_same xs ys h g = grind (arith, nat_tests, common_steps, same_branch)

pub ors_same : (xs ys : List Branch) → each_is is_and xs ≡ true → each_is is_and ys ≡ true → pointwise same_branch xs ys ≡ same_or (ors_in xs) (ors_in ys)
ors_same (an_and a ∷ xs) (an_and b ∷ ys) h g = ap (λ rest. same_branch (an_and a) (an_and b) && rest) (ors_same xs ys h g)
ors_same xs ys h g = grind (arith, nat_tests, common_steps, same_branch)

pub ands_same : (xs ys : List Branch) → each_is is_basic xs ≡ true → each_is is_basic ys ≡ true → pointwise same_branch xs ys ≡ same_and (ands_in xs) (ands_in ys)
ands_same (a_basic a ∷ xs) (a_basic b ∷ ys) h g = ap (λ rest. same_branch (a_basic a) (a_basic b) && rest) (ands_same xs ys h g)
ands_same xs ys h g = grind (arith, nat_tests, common_steps, same_branch)

pub arguments_same : (xs ys : List Branch) → each_is is_argument xs ≡ true → each_is is_argument ys ≡ true → pointwise same_branch xs ys ≡ same_arguments (arguments_in xs) (arguments_in ys)
arguments_same (an_operand a ∷ xs) (an_operand b ∷ ys) h g = ap (λ rest. same_branch (an_operand a) (an_operand b) && rest) (arguments_same xs ys h g)
arguments_same (an_or a ∷ xs) (an_or b ∷ ys) h g = ap (λ rest. same_branch (an_or a) (an_or b) && rest) (arguments_same xs ys h g)
arguments_same xs ys h g = grind (arith, nat_tests, common_steps, same_branch)

-- what the parts that are left are the same by
pub ruleset of_parts = (uneven, all_left, unlike_next, none_left)

-- what the trees of branches are the same by
pub ruleset of_kinds = (nat_tests, common_steps, and_parts, operand_of_comparable, operand_of_tested, query_same, or_same, operand_same, call_same, segments_same, selectors_same, ors_same, ands_same, arguments_same)
