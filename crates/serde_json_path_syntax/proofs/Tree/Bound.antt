-- The tree of a vector of nodes in which texts of literals stand for others.
use Rattle.serde_json_path_syntax.proofs.Words.{AllocError, Result, Ok, Err, IfOk, ◌≡◌, ℕ, List, [], ◌∷◌, ◌++◌, ◌<◌, Bool, Option, Some, None, refl, ◌∙◌, length, map, map-append, slice_index_or, arith, nat_tests, common_steps, AllZip-get_or, AllZip-long, Query, query, Branch, Part, Node, branches, branches_from, branch_in, branch_of, branches_named, calls_among, fits, each_is, is_query, is_segment, is_selector, is_and, is_basic, is_call, is_argument, is_comparable, is_tested, query_at, query_in, IsCopy, IsGrown, AreFitting, no_branch, literal}
use Rattle.serde_json_path_syntax.proofs.Bound.{singular_stays}
use Rattle.serde_json_path_syntax.specs.Bound.{bound, bound_segments, bound_segment, bound_selectors, bound_selector, bound_or, bound_and, bound_basic, bound_operand, bound_call, bound_arguments, bound_argument, bound_literal}
use Rattle.serde_json_path_syntax.specs.Flat.{segment_parts, segment_kind_in, segment_in, selector_in, or_in, and_in, basic_in, operand_in, call_in, argument_in, segments_in, selectors_in, ors_in, ands_in, arguments_in, parts_in, held_view, segment_of, selector_of, basic_of}
use Rattle.serde_json_path_syntax.specs.Kinds.{IsOfKind, is_singular, literal_fits, selector_fits, basic_fits}
use Rattle.serde_json_path_syntax.specs.Inside.Copies.{AreBoundCopies, IsBoundCopy, bound_branch, bound_branches}
use Rattle.serde_json_path_syntax.specs.declared.literal.LiteralValue.{LiteralValue}
use Rattle.serde_json_path_syntax.specs.declared.node.Basic.{Basic}
use Rattle.serde_json_path_syntax.specs.declared.node.Node.TheVariants as node
use Rattle.serde_json_path_syntax.specs.declared.node.Operand.{Operand}
use Rattle.serde_json_path_syntax.specs.declared.node.Operand.TheVariants as one_operand
use Rattle.serde_json_path_syntax.specs.declared.node.Segment.{Segment}
use Rattle.serde_json_path_syntax.specs.declared.node.Selector.{Selector}
use Rattle.std.proofs.Math.ListN.{get_or-map}

module _ (value : List ℕ → List ℕ) where
  -- ---- what is in a branch, and of which kind it is

  abbrev with : Branch → Branch
  with = bound_branch value

  query_in_bound : (b : Branch) → query_in (with b) ≡ bound value (query_in b)
  query_in_bound b = grind (arith, nat_tests, common_steps)

  kind_in_bound : (b : Branch) → segment_kind_in (with b) ≡ segment_kind_in b
  kind_in_bound b = grind (arith, nat_tests, common_steps)

  segment_in_bound : (b : Branch) → segment_in (with b) ≡ bound_segment value (segment_in b)
  segment_in_bound b = grind (arith, nat_tests, common_steps)

  selector_in_bound : (b : Branch) → selector_in (with b) ≡ bound_selector value (selector_in b)
  selector_in_bound b = grind (arith, nat_tests, common_steps)

  or_in_bound : (b : Branch) → or_in (with b) ≡ bound_or value (or_in b)
  or_in_bound b = grind (arith, nat_tests, common_steps)

  and_in_bound : (b : Branch) → and_in (with b) ≡ bound_and value (and_in b)
  and_in_bound b = grind (arith, nat_tests, common_steps)

  basic_in_bound : (b : Branch) → basic_in (with b) ≡ bound_basic value (basic_in b)
  basic_in_bound b = grind (arith, nat_tests, common_steps)

  operand_in_bound : (b : Branch) → operand_in (with b) ≡ bound_operand value (operand_in b)
  operand_in_bound b = grind (arith, nat_tests, common_steps)

  call_in_bound : (b : Branch) → call_in (with b) ≡ bound_call value (call_in b)
  call_in_bound b = grind (arith, nat_tests, common_steps)

  argument_in_bound : (b : Branch) → argument_in (with b) ≡ bound_argument value (argument_in b)
  argument_in_bound b = grind (arith, nat_tests, common_steps)

  singular_query : (q : Query) → is_singular (bound value q) ≡ is_singular q
  singular_query (query kind segs) = singular_stays value segs

  comparable_bound : (b : Branch) → is_comparable (with b) ≡ is_comparable b
  comparable_bound b = grind (arith, nat_tests, common_steps, singular_query)

  tested_bound : (b : Branch) → is_tested (with b) ≡ is_tested b
  tested_bound b = grind (arith, nat_tests, common_steps)

  -- ---- what is in some branches

  segments_in_bound : (bs : List Branch) → segments_in (map with bs) ≡ bound_segments value (segments_in bs)
  segments_in_bound [] = refl
  segments_in_bound (b ∷ bs) = rw (kind_in_bound b, segment_in_bound b, segments_in_bound bs)

  selectors_in_bound : (bs : List Branch) → selectors_in (map with bs) ≡ bound_selectors value (selectors_in bs)
  selectors_in_bound [] = refl
  selectors_in_bound (b ∷ bs) = rw (selector_in_bound b, selectors_in_bound bs)

  ors_in_bound : (bs : List Branch) → ors_in (map with bs) ≡ bound_or value (ors_in bs)
  ors_in_bound [] = refl
  ors_in_bound (b ∷ bs) = rw (and_in_bound b, ors_in_bound bs)

  ands_in_bound : (bs : List Branch) → ands_in (map with bs) ≡ bound_and value (ands_in bs)
  ands_in_bound [] = refl
  ands_in_bound (b ∷ bs) = rw (basic_in_bound b, ands_in_bound bs)

  arguments_in_bound : (bs : List Branch) → arguments_in (map with bs) ≡ bound_arguments value (arguments_in bs)
  arguments_in_bound [] = refl
  arguments_in_bound (b ∷ bs) = rw (argument_in_bound b, arguments_in_bound bs)

  each_is_bound : (is : Branch → Bool) → ((b : Branch) → is (with b) ≡ is b) → (bs : List Branch) → each_is is (map with bs) ≡ each_is is bs
  each_is_bound is same [] = refl
  each_is_bound is same (b ∷ bs) = rw (same b, each_is_bound is same bs)

  -- ---- the branches of parts

  part_bound : (earlier : List Branch) (i : ℕ) → branch_in (map with earlier) i ≡ with (branch_in earlier i)
  part_bound earlier i = get_or-map with earlier i no_branch

  parts_bound : (earlier : List Branch) (parts : List Part) → branches_named (map with earlier) parts ≡ map with (branches_named earlier parts)
  parts_bound earlier [] = refl
  parts_bound earlier (part ∷ parts) = rw (part_bound earlier part.number, parts_bound earlier parts)

  -- ---- nodes, which make and fit branches in which texts stand for others

  module _ (earlier : List Branch) where
    part_fits : (is : Branch → Bool) → ((b : Branch) → is (with b) ≡ is b) → (i : ℕ) → is (branch_in (map with earlier) i) ≡ is (branch_in earlier i)
    part_fits is same i = rw (part_bound earlier i, same (branch_in earlier i))

    parts_fit : (is : Branch → Bool) → ((b : Branch) → is (with b) ≡ is b) → (parts : List Part) → each_is is (branches_named (map with earlier) parts) ≡ each_is is (branches_named earlier parts)
    parts_fit is same parts = rw (parts_bound earlier parts, each_is_bound is same (branches_named earlier parts))

    segment_bound : (seg : Segment) → segment_of (map with earlier) seg ≡ bound_segment value (segment_of earlier seg)
    segment_bound seg = grind (arith, nat_tests, common_steps, parts_bound, selectors_in_bound)

    selector_bound : (sel : Selector) → selector_of (map with earlier) sel ≡ bound_selector value (selector_of earlier sel)
    selector_bound sel = grind (arith, nat_tests, common_steps, part_bound, or_in_bound)

    basic_bound : (b : Basic) → basic_of (map with earlier) b ≡ bound_basic value (basic_of earlier b)
    basic_bound b = grind (arith, nat_tests, common_steps, part_bound, or_in_bound, operand_in_bound)

    selector_fits_bound : (sel : Selector) → selector_fits (map with earlier) sel ≡ selector_fits earlier sel
    selector_fits_bound sel = grind (arith, nat_tests, common_steps, part_bound)

    basic_fits_bound : (b : Basic) → basic_fits (map with earlier) b ≡ basic_fits earlier b
    basic_fits_bound b = grind (arith, nat_tests, common_steps, part_bound, comparable_bound, tested_bound)

  -- a literal whose text stands for another one
  pub literal_copied : (old copy : LiteralValue) → held_view copy ≡ bound_literal value (held_view old) → literal_fits copy ≡ literal_fits old
      → IsBoundCopy value (node.Operand (one_operand.Literal old)) (node.Operand (one_operand.Literal copy))
  literal_copied old copy e f = record { branch = λ earlier. rw e; fits = λ earlier. f; parts = refl; called = refl }

  pub query_copied : (part : Part) → IsBoundCopy value (node.Operand (one_operand.Query part)) (node.Operand (one_operand.Query part))
  query_copied part = record { branch = λ earlier. rw (part_bound earlier part.number, query_in_bound (branch_in earlier part.number)); fits = λ earlier. part_fits earlier is_query (λ b. grind (arith, nat_tests, common_steps)) part.number; parts = refl; called = refl }

  pub call_copied : (part : Part) → IsBoundCopy value (node.Operand (one_operand.Call part)) (node.Operand (one_operand.Call part))
  call_copied part = record { branch = λ earlier. rw (part_bound earlier part.number, call_in_bound (branch_in earlier part.number)); fits = λ earlier. part_fits earlier is_call (λ b. grind (arith, nat_tests, common_steps)) part.number; parts = refl; called = refl }

  -- any other node
  branch_same : (n : Node) → ((o : Operand) → n ≡ node.Operand o → ⊥) → (earlier : List Branch) → branch_of (map with earlier) n ≡ with (branch_of earlier n)
  branch_same (node.Query start parts) other earlier = rw (parts_bound earlier (parts_in parts), segments_in_bound (branches_named earlier (parts_in parts)))
  branch_same (node.Segment kind seg) other earlier = rw (segment_bound earlier seg)
  branch_same (node.Selector sel) other earlier = rw (selector_bound earlier sel)
  branch_same (node.LogicalOr parts) other earlier = rw (parts_bound earlier (parts_in parts), ors_in_bound (branches_named earlier (parts_in parts)))
  branch_same (node.LogicalAnd parts) other earlier = rw (parts_bound earlier (parts_in parts), ands_in_bound (branches_named earlier (parts_in parts)))
  branch_same (node.Basic b) other earlier = rw (basic_bound earlier b)
  branch_same (node.Operand o) other earlier = absurd (other o refl)
  branch_same (node.Call k s parts) other earlier = rw (parts_bound earlier parts.items, arguments_in_bound (branches_named earlier parts.items))

  fits_same : (n : Node) → ((o : Operand) → n ≡ node.Operand o → ⊥) → (earlier : List Branch) → fits (map with earlier) n ≡ fits earlier n
  fits_same (node.Query start parts) other earlier = parts_fit earlier is_segment (λ b. grind (arith, nat_tests, common_steps)) (parts_in parts)
  fits_same (node.Segment kind seg) other earlier = parts_fit earlier is_selector (λ b. grind (arith, nat_tests, common_steps)) (segment_parts seg)
  fits_same (node.Selector sel) other earlier = selector_fits_bound earlier sel
  fits_same (node.LogicalOr parts) other earlier = parts_fit earlier is_and (λ b. grind (arith, nat_tests, common_steps)) (parts_in parts)
  fits_same (node.LogicalAnd parts) other earlier = parts_fit earlier is_basic (λ b. grind (arith, nat_tests, common_steps)) (parts_in parts)
  fits_same (node.Basic b) other earlier = basic_fits_bound earlier b
  fits_same (node.Operand o) other earlier = absurd (other o refl)
  fits_same (node.Call k s parts) other earlier = parts_fit earlier is_argument (λ b. grind (arith, nat_tests, common_steps)) parts.items

  other_copied : (old copy : Node) → ((o : Operand) → old ≡ node.Operand o → ⊥) → IsCopy old copy → IsBoundCopy value old copy
  other_copied old copy other same = record {
    branch = λ earlier. same.branch (map with earlier) ∙ branch_same old other earlier;
    fits = λ earlier. same.fits (map with earlier) ∙ fits_same old other earlier;
    parts = same.parts;
    called = same.called;
  }

  pub other_made : (old : Node) → ((o : Operand) → old ≡ node.Operand o → ⊥) → (made : Result Node AllocError) → IfOk made (λ copy. IsCopy old copy) → IfOk made (λ copy. IsBoundCopy value old copy)
  other_made old other (Ok copy) same = other_copied old copy other same
  other_made old other (Err e) same = tt

  -- ---- vectors of nodes

  copies_from : (olds copies : List Node) → AreBoundCopies value olds copies → (earlier : List Branch)
      → branches_from (map with earlier) copies ≡ map with (branches_from earlier olds)
  copies_from [] [] h earlier = refl
  copies_from (old ∷ olds) (copy ∷ copies) h earlier =
      rw (h.0.branch earlier, ← map-append with earlier (branch_of earlier old ∷ [])) (copies_from olds copies h.1 (earlier ++ branch_of earlier old ∷ []))
  copies_from [] (copy ∷ copies) h earlier = absurd h
  copies_from (old ∷ olds) [] h earlier = absurd h

  -- the branches in which texts stand for others
  pub bound_copies_branches : (olds copies : List Node) → AreBoundCopies value olds copies → branches copies ≡ bound_branches value (branches olds)
  unfolding branches
  bound_copies_branches olds copies h = copies_from olds copies h []

  -- the same calls
  pub bound_copies_calls : (olds copies : List Node) → AreBoundCopies value olds copies → calls_among copies ≡ calls_among olds
  bound_copies_calls (old ∷ olds) (copy ∷ copies) h = rw (h.0.called, bound_copies_calls olds copies h.1)
  bound_copies_calls olds copies h = grind (arith, nat_tests, common_steps)

  -- each names earlier ones, and such as its places want
  module _ (olds copies : List Node) (h : AreBoundCopies value olds copies) where
    copy_at : (i : ℕ) (d : Node) → i < length copies → (i < length olds) × IsBoundCopy value (slice_index_or olds i d) (slice_index_or copies i d)
    copy_at i d below = grind (arith, nat_tests, common_steps, AllZip-get_or, AllZip-long)

    pub bound_copies_grown : IsGrown olds → IsGrown copies
    bound_copies_grown grown i d below = let (within, copy) = copy_at i d below in rw copy.parts (grown i d within)

    pub bound_copies_fitting : AreFitting olds → AreFitting copies
    bound_copies_fitting fitting i d below =
        let (within, copy) = copy_at i d below in
        rw (bound_copies_branches olds copies h, copy.fits (branches olds)) (fitting i d within)

  -- the query in which they do
  pub bound_query : (olds copies : List Node) → branches copies ≡ bound_branches value (branches olds) → (query : Option Part) → query_at copies query ≡ bound value (query_at olds query)
  bound_query olds copies e None = refl
  bound_query olds copies e (Some part) = rw (e, part_bound (branches olds) part.number, query_in_bound (branch_in (branches olds) part.number))

  -- a part stays of its kind
  pub query_stays : (olds copies : List Node) → branches copies ≡ bound_branches value (branches olds) → (part : Part) → IsOfKind is_query olds part → IsOfKind is_query copies part
  query_stays olds copies e part is = rw e (part_fits (branches olds) is_query (λ b. grind (arith, nat_tests, common_steps)) part.number ∙ is)

pub ruleset of_bound_copy = (literal_copied, query_copied, call_copied)

pub ruleset of_bound_copies = (bound_copies_branches, bound_copies_calls, bound_copies_grown, bound_copies_fitting, AllZip-long)
