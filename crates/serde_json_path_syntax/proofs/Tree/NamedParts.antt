-- Parts that nodes name: their bounds, their kinds, and what stands for them.
use Rattle.serde_json_path_syntax.proofs.Words.{◌≡◌, ℕ, ◌<◌, ◌≤◌, true, false, nat_lt, arith, rules, zero, suc, List, [], ◌∷◌, length, get_or, ap, ◌-◌, take, drop, Bool, sym, subst, slice_get, option_map, refl, ◌∙◌, parts_bound, Part, and_parts, Decides-and, Decides, take_all, argument_branch, argument_in, branch_in, branches_named, selector_in, selectors_in, segments_in, ors_in, ands_in, arguments_in, are_singular, each_is, is_and, is_argument, is_basic, is_comparable, is_operand, is_query, is_segment, is_selector, is_singular_segment, is_tested, Branch, a_query, an_operand, query_in, long_hand, Selectors, selector, Selector, name, wildcard, index, slice, filter, IsSingularSegment, slice_get_read, slice_get_past, ArePartsFor, AreSelectorsOf, AreOrPartsOf, AreAndPartsOf, KeepsTrees, segment_branches, selector_branches, or_branches, and_branches, argument_branches, branches, SyntaxBuilder, selectors_list, nat_tests, common_steps}
use Rattle.serde_json_path_syntax.specs.Tree as tree
use Rattle.serde_json_path_syntax.proofs.Lists.{always, never}

-- ---- what a comparison of numbers tells

pub below_length : (i n : ℕ) → true ≡ nat_lt i n → i < n
below_length i n e = search (rules, arith)

pub past_length : (i n : ℕ) → false ≡ nat_lt i n → n ≤ i
past_length i n e = search (rules, arith)

-- ---- the bound of some parts' numbers

-- each part's number is below the bound
pub within_get : (parts : List Part) (i : ℕ) (d : Part) → i < length parts → (get_or parts i d).number < parts_bound parts
within_get (p ∷ parts) (suc i) d h =
    let later = within_get parts i d (omega (arith, h)) in
    omega arith
within_get parts i d h = grind (arith, nat_tests, common_steps)

pub within_bound : (parts : List Part) (i : ℕ) (part : Part) → i < length parts → part ≡ get_or parts i part → part.number < parts_bound parts
within_bound parts i part h e = subst (λ (p : Part). p.number < parts_bound parts) (sym e) (within_get parts i part h)

-- ---- the parts after the first, and each of several parts

abbrev pub others : List Part → List Part
others parts = take (length parts - 1) (drop 1 parts)

pub others-cons : (part : Part) (parts : List Part) → others (part ∷ parts) ≡ parts
others-cons part parts = take_all (length (part ∷ parts) - 1) parts (omega arith)

pub others-bound : (parts : List Part) → parts_bound (others parts) ≤ parts_bound parts
others-bound parts = grind (arith, nat_tests, common_steps, others-cons)

-- what is so of several branches, if it is then so of the first and of the others, is so of each
pub one_of : (All : List Branch → Type 0) (One : Branch → Type 0) → ((p : Branch) (more : List Branch) → All (p ∷ more) → One p × All more)
    → (ps : List Branch) (parts : List Part) (i : ℕ) (d : Part) → i < length parts → All (branches_named ps parts) → One (branch_in ps (get_or parts i d).number)
one_of All One split ps [] i d below h = absurd (omega (arith, below))
one_of All One split ps (part ∷ parts) zero d below h = (split (branch_in ps part.number) (branches_named ps parts) h).0
one_of All One split ps (part ∷ parts) (suc i) d below h = one_of All One split ps parts i d (omega (arith, below)) (split (branch_in ps part.number) (branches_named ps parts) h).1

module _ (is : Branch → Bool) (ps : List Branch) where
  abbrev AllAre : List Part → Type 0
  AllAre parts = each_is is (branches_named ps parts) ≡ true

  -- they are of the kind that all are
  pub others_are : (parts : List Part) → AllAre parts → AllAre (others parts)
  others_are parts h = grind (arith, nat_tests, common_steps, others-cons, and_parts)

  -- each is
  pub one_is : (parts : List Part) (i : ℕ) (d : Part) → i < length parts → AllAre parts → is (branch_in ps (get_or parts i d).number) ≡ true
  one_is = one_of (λ branches. each_is is branches ≡ true) (λ p. is p ≡ true) (λ p more. and_parts (is p) (each_is is more)) ps

-- a bracket with two selectors or more is no singular segment
pub two_selectors : (ps : List Branch) (parts : List Part) → 2 ≤ length parts → IsSingularSegment (long_hand (selectors_in (branches_named ps parts))) → ⊥
two_selectors ps (a ∷ b ∷ parts) two h = refused (selector_in (branch_in ps a.number)) (selector_in (branch_in ps b.number)) (selectors_in (branches_named ps parts)) h
  where
    refused : (first second : Selector) (more : Selectors) → IsSingularSegment (long_hand (selector first (selector second more))) → ⊥
    refused (name k) second more h = h
    refused _ second more h = h
two_selectors ps _ two h = omega (arith, two)

-- ---- parts that stand for branches: their numbers are good, and what is made of them is made of those branches

pub parts_below : (builder : SyntaxBuilder) (parts : List Part) (ps : List Branch) → ArePartsFor builder parts ps → parts_bound parts ≤ length builder.arena.nodes.items
parts_below builder (part ∷ parts) (p ∷ ps) h =
    let later = parts_below builder parts ps h.1 in omega (arith, h.0.0)
parts_below builder parts ps h = grind (arith, nat_tests, common_steps)

pub branches_of_parts : (builder : SyntaxBuilder) (parts : List Part) (ps : List Branch) → ArePartsFor builder parts ps → branches_named (branches builder.arena.nodes.items) parts ≡ ps
branches_of_parts builder [] [] h = refl
branches_of_parts builder (part ∷ parts) (p ∷ ps) h = ap (λ branch. branch ∷ branches_named (branches builder.arena.nodes.items) parts) h.0.1 ∙ ap (λ more. p ∷ more) (branches_of_parts builder parts ps h.1)
branches_of_parts builder _ _ h = absurd h

-- ---- what is made of the branches of trees, and their kinds

pub segments_are : (segs : tree.Segments) → (each_is is_segment (segment_branches segs) ≡ true) × (segments_in (segment_branches segs) ≡ segs)
segments_are tree.no_segments = (refl, refl)
segments_are (tree.segment kind seg more) = let later = segments_are more in (later.0, ap (tree.segment kind seg) later.1)

pub selectors_are : (sels : tree.Selectors) → (each_is is_selector (selector_branches sels) ≡ true) × (selectors_in (selector_branches sels) ≡ sels)
selectors_are tree.no_selectors = (refl, refl)
selectors_are (tree.selector sel more) = let later = selectors_are more in (later.0, ap (tree.selector sel) later.1)

pub ors_are : (e : tree.LogicalOr) → (each_is is_and (or_branches e) ≡ true) × (ors_in (or_branches e) ≡ e)
ors_are tree.no_or = (refl, refl)
ors_are (tree.or e more) = let later = ors_are more in (later.0, ap (tree.or e) later.1)

pub ands_are : (e : tree.LogicalAnd) → (each_is is_basic (and_branches e) ≡ true) × (ands_in (and_branches e) ≡ e)
ands_are tree.no_and = (refl, refl)
ands_are (tree.and e more) = let later = ands_are more in (later.0, ap (tree.and e) later.1)

pub arguments_are : (args : tree.Arguments) → (each_is is_argument (argument_branches args) ≡ true) × (arguments_in (argument_branches args) ≡ args)
arguments_are tree.no_arguments = (refl, refl)
arguments_are (tree.argument (tree.operand o) more) = let later = arguments_are more in (later.0, ap (tree.argument (tree.operand o)) later.1)
arguments_are (tree.argument (tree.logical_argument e) more) = let later = arguments_are more in (later.0, ap (tree.argument (tree.logical_argument e)) later.1)

-- parts of which there is one at least stand for their branches
pub selectors_for : (builder : SyntaxBuilder) (parts : List Part) (sels : tree.Selectors) → AreSelectorsOf builder parts sels → ArePartsFor builder parts (selector_branches sels)
selectors_for builder parts sels h = grind (arith, nat_tests, common_steps)

pub or_parts_for : (builder : SyntaxBuilder) (parts : List Part) (e : tree.LogicalOr) → AreOrPartsOf builder parts e → ArePartsFor builder parts (or_branches e)
or_parts_for builder parts e h = grind (arith, nat_tests, common_steps)

pub and_parts_for : (builder : SyntaxBuilder) (parts : List Part) (e : tree.LogicalAnd) → AreAndPartsOf builder parts e → ArePartsFor builder parts (and_branches e)
and_parts_for builder parts e h = grind (arith, nat_tests, common_steps)

-- ---- singular queries

Decides-is_singular_segment : (seg : tree.Segment) → Decides (is_singular_segment seg) (IsSingularSegment seg)
Decides-is_singular_segment seg = grind (arith, nat_tests, common_steps, always, never)

pub Decides-are_singular : (segs : tree.Segments) → Decides (are_singular segs) (tree.AreSingular segs)
Decides-are_singular (tree.segment tree.child seg more) =
    Decides-and (is_singular_segment seg) (are_singular more) (Decides-is_singular_segment seg) (Decides-are_singular more)
Decides-are_singular segs = grind (arith, nat_tests, common_steps, always, Decides-is_singular_segment, never)

-- ---- operands that may be compared, and such as may be tested

pub comparable_is : (o : tree.Operand) → tree.IsComparable o → is_comparable (an_operand o) ≡ true
comparable_is o h = grind (arith, nat_tests, common_steps, Decides-are_singular)

pub tested_is : (o : tree.Operand) → tree.IsTested o → is_tested (an_operand o) ≡ true
tested_is o h = grind (arith, nat_tests, common_steps)

pub operand_of_comparable : (p : Branch) → is_comparable p ≡ true → is_operand p ≡ true
operand_of_comparable p h = grind (arith, nat_tests, common_steps)

pub operand_of_tested : (p : Branch) → is_tested p ≡ true → is_operand p ≡ true
operand_of_tested p h = grind (arith, nat_tests, common_steps)

-- ---- what stands as an operand or an argument

pub argument_is : (x : tree.Argument) (p : Branch) → p ≡ argument_branch x → (is_argument p ≡ true) × (x ≡ argument_in p)
argument_is x p e = grind (arith, nat_tests, common_steps)

pub query_is : (p : Branch) → is_query p ≡ true → p ≡ a_query (query_in p)
query_is p h = grind (arith, nat_tests, common_steps)

pub ruleset of_argument = (argument_is, query_is)

-- what a node is made of that names several parts
pub ruleset of_named_parts = (
  parts_below,
  branches_of_parts,
  selectors_for,
  or_parts_for,
  and_parts_for,
  segments_are,
  selectors_are,
  ors_are,
  ands_are,
  arguments_are,
)

pub parts_for_kept : (old new : SyntaxBuilder) → KeepsTrees old new → (parts : List Part) (ps : List Branch) → ArePartsFor old parts ps → ArePartsFor new parts ps
parts_for_kept old new keeps (part ∷ parts) (p ∷ ps) h = (keeps part p h.0, parts_for_kept old new keeps parts ps h.1)
parts_for_kept old new keeps parts ps h = grind (arith, nat_tests, common_steps)

-- the selectors of so many parts, one by one
pub selectors_get : (ps : List Branch) (parts : List Part) (i : ℕ) → slice_get (selectors_list (selectors_in (branches_named ps parts))) i ≡ option_map (λ (part : Part). selector_in (branch_in ps part.number)) (slice_get parts i)
selectors_get ps (part ∷ parts) (suc i) = selectors_get ps parts i
selectors_get ps parts i = grind (arith, nat_tests, common_steps)

-- one of several selectors
pub ruleset of_one_selector = (selectors_get, one_is, within_bound, slice_get_read, slice_get_past, below_length, past_length)

-- ---- a bracket with one selector

-- it names one part
pub one_named : (ps : List Branch) (parts : List Part) (only : Selector) → selectors_list (selectors_in (branches_named ps parts)) ≡ only ∷ [] → length parts ≡ 1
one_named ps (part ∷ []) only e = refl
one_named ps _ only e = absurd cc
