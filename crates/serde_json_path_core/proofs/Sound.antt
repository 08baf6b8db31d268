-- The parts of a sound query are sound.
use Rattle.serde_json_path_core.proofs.Words.{nat_tests, common_steps, ◌≡◌, ℕ, zero, suc, ◌<◌, ◌≤◌, ◌&&◌, List, [], ◌∷◌, ◌++◌, Bool, true, length, get_or, slice_get, Option, Some, sym, subst, arith, ap, ◌∙◌, none-some, same_Some, Query, query, Segments, segments_of, Segment, dot_name, dot_wildcard, long_hand, Selectors, no_selectors, selector, Selector, name, wildcard, Operator, LogicalAnd, LogicalOr, no_or, or, and, Basic, relation, Operand, Call, call, FunctionSet, Signature, Kind, Fits, IsTyped, AreTypedSegments, IsTypedSegment, AreTypedSelectors, IsTypedSelector, IsTypedOr, IsTypedAnd, IsTypedBasic, IsTypedComparable, IsTypedCall, AreTypedArguments, arguments_of, calls_of, calls_in_segments, calls_in_segment, calls_in_selectors, calls_in_selector, calls_in_or, calls_in_and, calls_in_basic, calls_in_operand, calls_from, calls_in_arguments, calls_in_argument, name_of, IsIn, parts_bound, EndsIn, Branch, argument_in, arguments_in, branch_in, branches_named, segment_in, segments_in, and_in, ors_in, basic_in, ands_in, selectors_list, selectors_of, params_of, each_is, is_segment, is_and, is_basic, is_argument, one_of, and_parts, ∥∥₁_elim, AreCallsOf, IsSound, Part, ∥∥₁_map₂, fits_each, found_in, in_from, signature_in, typed_recovered, typed_by_names}
use Rattle.serde_json_path_syntax.proofs.Names.Once.{of_both}
use mathlib.Core.List.{is_set}
use mathlib.Core.Sum.{⊎_set}

-- ---- calls of the query

both-calls : (q : Query) (xs ys : List Call) → AreCallsOf q (xs ++ ys) → AreCallsOf q xs × AreCallsOf q ys
unfolding AreCallsOf
both-calls q xs ys each = of_both (λ c. IsIn c (calls_of q)) xs ys each

pub all-calls : (q : Query) → AreCallsOf q (calls_of q)
unfolding AreCallsOf
all-calls q = λ c i. i

-- a call whose calls are calls of the query is one itself
pub own-call : (q : Query) (c : Call) → AreCallsOf q (calls_from c) → IsIn c (calls_of q)
unfolding AreCallsOf
own-call q c each = each c (in_from c)

-- those in its arguments are, too
pub argument-calls : (q : Query) (c : Call) → AreCallsOf q (calls_from c) → AreCallsOf q (calls_in_arguments (arguments_of c))
argument-calls q (call f args) each = (both-calls q (calls_in_arguments args) (call f args ∷ []) each).0

-- the kind and the calls of arguments
abbrev pub AreArgumentsIn : Query → List Branch → Type 0
AreArgumentsIn q args = (each_is is_argument args ≡ true) × AreCallsOf q (calls_in_arguments (arguments_in args))

-- those of the first argument, and of the others
pub next-argument : (q : Query) (ps : List Branch) (parts : List Part) (part : Part) (more : List Part) → parts ≡ part ∷ more → AreArgumentsIn q (branches_named ps parts)
    → ((is_argument (branch_in ps part.number) ≡ true) × AreCallsOf q (calls_in_argument (argument_in (branch_in ps part.number)))) × AreArgumentsIn q (branches_named ps more)
next-argument q ps parts part more e each = grind (arith, nat_tests, common_steps, and_parts, both-calls)

-- ---- parts

-- the last of some parts have no greater numbers
pub bound-ends : (parts more : List Part) → EndsIn parts more → parts_bound more ≤ parts_bound parts
bound-ends parts more ends = let all : parts_bound more ≤ parts_bound (ends.0 ++ more) = past ends.0 in subst (λ xs. parts_bound more ≤ parts_bound xs) (sym ends.1) all
  where
    past : (front : List Part) → parts_bound more ≤ parts_bound (front ++ more)
    past [] = omega arith
    past (p ∷ front) = let fewer = past front in omega arith

module _ (F : FunctionSet) (q : Query) where
  -- the segments of a query
  pub sound-segments : (p : Query) (segs : Segments) → segs ≡ segments_of p → IsSound F q IsTyped calls_of p → IsSound F q AreTypedSegments calls_in_segments segs
  sound-segments (query kind below) segs e h = subst (IsSound F q AreTypedSegments calls_in_segments) (sym e) h

  -- a branch, or several, of that kind, whose tree is sound
  abbrev Is : {P A : Type 0} → (P → Bool) → (P → A) → ((List ℕ → Option Signature) → A → Type 0) → (A → List Call) → P → Type 0
  Is is tree typed calls p = (is p ≡ true) × IsSound F q typed calls (tree p)

  abbrev IsSegment : Branch → Type 0
  IsSegment p = Is is_segment segment_in IsTypedSegment calls_in_segment p

  abbrev AreSegments : List Branch → Type 0
  AreSegments ps = Is (each_is is_segment) segments_in AreTypedSegments calls_in_segments ps

  -- what is so of the first of several branches and of the others
  first_of : {T U : Type 0} (is : Branch → Bool) (p : Branch) (more : List Branch) (xs ys : List Call) → (is p && each_is is more ≡ true) × ((T × U) × AreCallsOf q (xs ++ ys))
      → ((is p ≡ true) × (T × AreCallsOf q xs)) × ((each_is is more ≡ true) × (U × AreCallsOf q ys))
  first_of is p more xs ys s = grind (arith, nat_tests, common_steps, and_parts, both-calls)

  first_segment : (p : Branch) (more : List Branch) → AreSegments (p ∷ more) → IsSegment p × AreSegments more
  first_segment p more s = first_of is_segment p more _ _ s

  -- one of the segments
  pub sound-segment : (ps : List Branch) (parts : List Part) (i : ℕ) (part : Part) → i < length parts → part ≡ get_or parts i part → AreSegments (branches_named ps parts) → IsSegment (branch_in ps part.number)
  sound-segment ps parts i part h e s = subst (λ (x : Part). IsSegment (branch_in ps x.number)) (sym e) (one_of AreSegments IsSegment first_segment ps parts i part h s)

  -- the last of so many
  pub sound-ends : (ps : List Branch) (parts more : List Part) → EndsIn parts more → AreSegments (branches_named ps parts) → AreSegments (branches_named ps more)
  sound-ends ps parts more ends s = past ends.0 (subst (λ xs. AreSegments (branches_named ps xs)) ends.1 s)
    where
      past : (front : List Part) → AreSegments (branches_named ps (front ++ more)) → AreSegments (branches_named ps more)
      past [] h = h
      past (p ∷ front) h = past front (first_segment (branch_in ps p.number) (branches_named ps (front ++ more)) h).1

  -- one of the operands of `||`, and of `&&`
  pub sound-and : (ps : List Branch) (parts : List Part) (i : ℕ) (d : Part) → i < length parts
      → Is (each_is is_and) ors_in IsTypedOr calls_in_or (branches_named ps parts) → Is is_and and_in IsTypedAnd calls_in_and (branch_in ps (get_or parts i d).number)
  sound-and = one_of (Is (each_is is_and) ors_in IsTypedOr calls_in_or) (Is is_and and_in IsTypedAnd calls_in_and) (λ p more s. first_of is_and p more _ _ s)

  pub sound-basic : (ps : List Branch) (parts : List Part) (i : ℕ) (d : Part) → i < length parts
      → Is (each_is is_basic) ands_in IsTypedAnd calls_in_and (branches_named ps parts) → Is is_basic basic_in IsTypedBasic calls_in_basic (branch_in ps (get_or parts i d).number)
  sound-basic = one_of (Is (each_is is_basic) ands_in IsTypedAnd calls_in_and) (Is is_basic basic_in IsTypedBasic calls_in_basic) (λ p more s. first_of is_basic p more _ _ s)

  -- both sides of a comparison
  pub sound-relation : (x : Operand) (op : Operator) (y : Operand) (b : Basic) → b ≡ relation x op y
      → IsSound F q IsTypedBasic calls_in_basic b → IsSound F q IsTypedComparable calls_in_operand x × IsSound F q IsTypedComparable calls_in_operand y
  sound-relation x op y b is sound = grind (arith, nat_tests, common_steps, both-calls)

  -- the same of an expression that begins with it, and what comes after it
  pub sound-sides : (e : LogicalOr) (x : Operand) (op : Operator) (y : Operand) (more : LogicalAnd) → e ≡ or (and (relation x op y) more) no_or
      → IsSound F q IsTypedOr calls_in_or e → IsSound F q IsTypedComparable calls_in_operand x × IsSound F q IsTypedComparable calls_in_operand y × IsSound F q IsTypedAnd calls_in_and more
  sound-sides e x op y more is sound = grind (arith, nat_tests, common_steps, both-calls, sound-relation)

  sound-bracketed : (sels : Selectors) (n : ℕ) (sel : Selector) → slice_get (selectors_list sels) n ≡ Some sel
      → IsSound F q AreTypedSelectors calls_in_selectors sels → IsSound F q IsTypedSelector calls_in_selector sel
  sound-bracketed no_selectors n sel e h = absurd (none-some sel e)
  sound-bracketed (selector first more) zero sel e h = grind (arith, nat_tests, common_steps, same_Some, both-calls)
  sound-bracketed (selector first more) (suc n) sel e h = sound-bracketed more n sel e (h.0.1, (both-calls q _ _ h.1).1)

  -- the selector of that number
  pub sound-selector : (seg : Segment) (n : ℕ) (sel : Selector) → slice_get (selectors_of seg) n ≡ Some sel
      → IsSound F q IsTypedSegment calls_in_segment seg → IsSound F q IsTypedSelector calls_in_selector sel
  sound-selector (dot_name k) zero sel e h = subst (IsSound F q IsTypedSelector calls_in_selector) (same_Some (name k) sel e) h
  sound-selector dot_wildcard zero sel e h = subst (IsSound F q IsTypedSelector calls_in_selector) (same_Some wildcard sel e) h
  sound-selector (long_hand sels) n sel e h = sound-bracketed sels n sel e h
  sound-selector _ n sel e h = absurd (none-some sel e)

-- ---- calls

-- the arguments of a well-typed call
pub typed-arguments : (F : FunctionSet) (c : Call) → IsTypedCall F.signature c → AreTypedArguments F.signature (arguments_of c) (params_of (F.signature (name_of c)))
typed-arguments F (call f args) h = subst (AreTypedArguments F.signature args) (sym (ap params_of h.1)) h.2

-- the types of its parameters, where the set fits
pub parameters-known : (F : FunctionSet) (used : List (List ℕ × Signature)) (c : Call) (kinds : List Kind) → ∥ Fits F used ∥₁ → IsTypedCall F.signature c
    → ((G : FunctionSet) (s : Signature) → Fits G used → G.signature (name_of c) ≡ Some s → kinds ≡ s.params)
    → kinds ≡ params_of (F.signature (name_of c))
parameters-known F used (call f args) kinds fits typed known =
    let P : Type 0 = kinds ≡ typed.0.params in
    let same : P = ∥∥₁_elim fits (hlevel (is_set, ⊎_set)) (λ h. known F typed.0 h typed.1) in
    same ∙ sym (ap params_of typed.1)

-- ---- a query that fits a set is sound as a whole: what is well-typed under some signatures is so under each that have these

-- the signatures that the set declares
declared : (F : FunctionSet) (used : List (List ℕ × Signature)) → Fits F used → (f : List ℕ) (s : Signature) → signature_in used f ≡ Some s → F.signature f ≡ Some s
declared F used fits f s e = fits_each F used fits (f, s) (found_in used f s e)

pub whole-sound : (F : FunctionSet) (used : List (List ℕ × Signature)) (q : Query) → ∥ Fits F used ∥₁ → ∥ IsTyped (signature_in used) q ∥₁ → IsSound F q IsTyped calls_of q
whole-sound F used q fits typed = (typed_recovered F.signature q (∥∥₁_map₂ fits typed (λ fit well. typed_by_names (signature_in used) F.signature q (λ f called. declared F used fit f) well)), all-calls q)
