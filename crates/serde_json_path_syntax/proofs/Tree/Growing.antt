-- The tree of a vector of nodes, as it grows and is copied, and that its nodes fit.
use Rattle.serde_json_path_syntax.proofs.Words.{drop_all, nat_tests, ◌≡◌, ℕ, zero, suc, ◌+◌, ◌<◌, ◌≤◌, List, [], ◌∷◌, ◌++◌, ◌↔◌, length, drop, Bool, Result, Ok, Err, IfOk, OnOk, OnErr, inl, inr, get_or, refl, sym, ap, ◌∙◌, subst, arith, length-append, true, false, if◌then◌else◌, slice_get, slice_index_or, Option, Some, None, common_steps, flat_map-append, append-nil, drop_more, Signature, FunctionSet, Fits, IsIn, fits, AreFitting, Branch, Part, parts_bound, called_by, calls_among, no_branch, branch_in, branches_named, parts_in, branch_of, branches_from, branch_at, NamesBelow, IsGrown, query_at, query_in, cases_lt, AreCopies, IsCopy, branches, result_by, result_of_call, result_through, SyntaxBuilder, AllocError, Node, LongHand, Relation, AllZip-get_or, AllZip-long}
use Rattle.serde_json_path_syntax.proofs.Lists.{in_append}
use Rattle.serde_json_path_syntax.proofs.Names.Once.{fits_append, fits_once, once_fits}
use Rattle.serde_json_path_syntax.specs.declared.node.Node.TheVariants as node
use Rattle.serde_json_path_syntax.specs.declared.node.Selector.TheVariants as one
use Rattle.serde_json_path_syntax.specs.declared.node.Operand.TheVariants as one_operand

-- ---- the branches of a growing vector of nodes: what a push makes, and what it keeps

branches_from-push : (earlier : List Branch) (nodes : List Node) (n : Node) → branches_from earlier (nodes ++ n ∷ []) ≡ branches_from earlier nodes ++ branch_of (branches_from earlier nodes) n ∷ []
branches_from-push earlier [] n = refl
branches_from-push earlier (m ∷ nodes) n = branches_from-push (earlier ++ branch_of earlier m ∷ []) nodes n

length-branches_from : (earlier : List Branch) (nodes : List Node) → length (branches_from earlier nodes) ≡ length earlier + length nodes
length-branches_from earlier [] = omega arith
length-branches_from earlier (n ∷ nodes) = length-branches_from (earlier ++ branch_of earlier n ∷ []) nodes ∙ omega (arith, length-append earlier (branch_of earlier n ∷ []))

-- what stands earlier stays
earlier_stays : (earlier : List Branch) (nodes : List Node) (i : ℕ) (d : Branch) → i < length earlier → get_or (branches_from earlier nodes) i d ≡ get_or earlier i d
earlier_stays earlier [] i d h = refl
earlier_stays earlier (n ∷ nodes) i d h =
    earlier_stays (earlier ++ branch_of earlier n ∷ []) nodes i d (omega (arith, length-append earlier (branch_of earlier n ∷ []))) ∙ grind (arith, common_steps)

-- what a node makes of earlier branches, and whether it names such as its places want
abbrev seen : List Branch → Node → Branch × Bool
seen earlier n = (branch_of earlier n, fits earlier n)

-- two lists of branches that agree below a bound look the same to a node that names numbers below it
module _ (a b : List Branch) (bound : ℕ) (f : (i : ℕ) → i < bound → branch_in a i ≡ branch_in b i) where
  named : (parts : List Part) → parts_bound parts ≤ bound → branches_named a parts ≡ branches_named b parts
  named [] h = refl
  named (part ∷ parts) h = rw (f part.number (omega (arith, h)), named parts (omega (arith, h)))

  same : (n : Node) → NamesBelow bound n → seen a n ≡ seen b n
  same n h = grind (arith, nat_tests, common_steps, named)

  same_branch : (n : Node) → NamesBelow bound n → branch_of a n ≡ branch_of b n
  same_branch n h = ap (λ s. s.0) (same n h)

  pub same_fits : (n : Node) → NamesBelow bound n → fits a n ≡ fits b n
  same_fits n h = ap (λ s. s.1) (same n h)

branch_from : (earlier : List Branch) (nodes : List Node) (i : ℕ) (d : Node) → ((k : ℕ) → k < length nodes → NamesBelow (length earlier + k) (get_or nodes k d)) → i < length nodes
    → branch_in (branches_from earlier nodes) (length earlier + i) ≡ branch_of (branches_from earlier nodes) (get_or nodes i d)
branch_from earlier [] i d grown h = absurd (omega arith)
branch_from earlier (n ∷ nodes) zero d grown h =
    let more = earlier ++ branch_of earlier n ∷ [] in
    let long : length more ≡ length earlier + 1 = length-append earlier (branch_of earlier n ∷ []) in
    let here : branch_in (branches_from more nodes) (length earlier + 0) ≡ branch_in more (length earlier + 0) = earlier_stays more nodes (length earlier + 0) no_branch (omega arith) in
    let last : branch_in more (length earlier + 0) ≡ branch_of earlier n = grind (arith, common_steps) in
    here ∙ last ∙ same_branch earlier (branches_from more nodes) (length earlier + 0)
    (λ j below. let k : branch_in more j ≡ branch_in earlier j = grind (arith, common_steps) in sym k ∙ sym (earlier_stays more nodes j no_branch (omega arith))) n (grown 0 h)
branch_from earlier (n ∷ nodes) (suc i) d grown h =
    let more = earlier ++ branch_of earlier n ∷ [] in
    let long : length more ≡ length earlier + 1 = length-append earlier (branch_of earlier n ∷ []) in
    let rest = branch_from more nodes i d (λ k below. subst (λ j. NamesBelow j (get_or nodes k d)) (omega arith) (grown (suc k) (omega arith))) (omega arith) in
    subst (λ j. branch_in (branches_from more nodes) j ≡ branch_of (branches_from more nodes) (get_or nodes i d)) (omega arith) rest

-- the branch of a number, as its node makes it
pub branch_at-is : (nodes : List Node) (i : ℕ) (d : Node) → IsGrown nodes → i < length nodes → branch_at nodes i ≡ branch_of (branches nodes) (get_or nodes i d)
unfolding branches
branch_at-is nodes i d grown h = grind (arith, nat_tests, common_steps, branch_from)

-- ---- a push

pushed_is : (old new : List Node) (n : Node) (p : ℕ) → new ≡ old ++ n ∷ [] → p ≡ length old → (p < length new) × (branch_at new p ≡ branch_of (branches old) n)
unfolding branches
pushed_is old new n p e f = grind (arith, nat_tests, common_steps, branches_from-push, length-branches_from)

pub branch_at-push : (nodes : List Node) (n : Node) (i : ℕ) → i < length nodes → branch_at (nodes ++ n ∷ []) i ≡ branch_at nodes i
unfolding branches
branch_at-push nodes n i h = grind (arith, nat_tests, common_steps, branches_from-push, length-branches_from)

pushed_keeps : (old new : List Node) (n : Node) (p : ℕ) (branch : Branch) → new ≡ old ++ n ∷ [] → (p < length old) × (branch_at old p ≡ branch) → (p < length new) × (branch_at new p ≡ branch)
pushed_keeps old new n p branch e h = grind (arith, nat_tests, common_steps, branch_at-push)

-- ---- a push that may be refused

module _ (old new : List Node) (n : Node) where
  pub push_made : (made : Result Part AllocError) → OnOk made (new ≡ old ++ n ∷ []) → IfOk made (λ part. part.number ≡ length old)
      → IfOk made (λ part. (part.number < length new) × (branch_at new part.number ≡ branch_of (branches old) n))
  push_made made is number = grind (arith, nat_tests, common_steps, pushed_is)

  pub push_keeps : (made : Result Part AllocError) → OnOk made (new ≡ old ++ n ∷ []) → OnErr made (new ≡ old) → (p : ℕ) (branch : Branch)
      → (p < length old) × (branch_at old p ≡ branch) → (p < length new) × (branch_at new p ≡ branch)
  push_keeps (Ok part) is same p branch h = pushed_keeps old new n p branch is h
  push_keeps (Err e) is same p branch h = subst (λ nodes. (p < length nodes) × (branch_at nodes p ≡ branch)) (sym same) h

  -- the calls among the nodes
  pub push_calls : (made : Result Part AllocError) → OnOk made (new ≡ old ++ n ∷ []) → OnOk made (calls_among new ≡ calls_among old ++ called_by n)
  push_calls made is = grind (arith, nat_tests, common_steps, flat_map-append)

  pub push_silent : (made : Result Part AllocError) → OnOk made (new ≡ old ++ n ∷ []) → OnErr made (new ≡ old) → called_by n ≡ [] → calls_among new ≡ calls_among old
  push_silent made is same silent = grind (arith, nat_tests, common_steps, push_calls)

-- ---- the types of results that calls keep

get_earlier : (nodes : List Node) (n : Node) (i : ℕ) → i < length nodes → slice_get (nodes ++ n ∷ []) i ≡ slice_get nodes i
get_earlier (m ∷ nodes) n (suc i) h = get_earlier nodes n i (omega (arith, h))
get_earlier nodes n i h = grind (arith, nat_tests, common_steps)

get_last : (nodes : List Node) (n : Node) → slice_get (nodes ++ n ∷ []) (length nodes) ≡ Some n
get_last [] n = refl
get_last (m ∷ nodes) n = get_last nodes n

-- an operand has that of the call that it names
pub called_result : (old new : SyntaxBuilder) (call : Part) (p : ℕ) → new.arena.nodes.items ≡ old.arena.nodes.items ++ node.Operand (one_operand.Call call) ∷ [] → p ≡ length old.arena.nodes.items → call.number < length old.arena.nodes.items
    → result_through new (slice_get new.arena.nodes.items p) ≡ result_of_call old call
called_result old new call p e f below = grind (arith, nat_tests, common_steps, named, get_earlier, get_last)

-- ---- the calls of the nodes

-- what a node calls is among them
pub called_among : (nodes : List Node) (i : ℕ) (d : Node) → i < length nodes → d ≡ get_or nodes i d → (u : List ℕ × Signature) → IsIn u (called_by d) → IsIn u (calls_among nodes)
called_among [] i d h e u here = absurd (omega arith)
called_among (n ∷ nodes) zero d h e u here = (in_append u (called_by n) (calls_among nodes)).1 (inl (subst (λ m. IsIn u (called_by m)) e here))
called_among (n ∷ nodes) (suc i) d h e u here = (in_append u (called_by n) (calls_among nodes)).1 (inr (called_among nodes i d (omega arith) e u here))

-- whether a set fits them: those of the node, and those after it
pub fits_from : (F : FunctionSet) (nodes : List Node) (i : ℕ) (d : Node) → i < length nodes
    → Fits F (calls_among (drop i nodes)) ↔ (Fits F (called_by (get_or nodes i d)) × Fits F (calls_among (drop (i + 1) nodes)))
fits_from F nodes i d h =
    subst (λ us. Fits F us ↔ (Fits F (called_by (get_or nodes i d)) × Fits F (calls_among (drop (i + 1) nodes)))) (sym (ap calls_among (drop_more nodes i d h)))
    (fits_append F (called_by (get_or nodes i d)) (calls_among (drop (i + 1) nodes)))

-- ---- nodes that name branches of the right kinds still do after a push

-- one more node
pub fitting_push : (nodes : List Node) (n : Node) → IsGrown nodes → AreFitting nodes → NamesBelow (length nodes) n → fits (branches nodes) n ≡ true → AreFitting (nodes ++ n ∷ [])
fitting_push nodes n grown fitting below fit i d h = grind (arith, nat_tests, common_steps, cases_lt, same_fits, branch_at-push)

-- one more node, or none
pub fitting_pushed : (b : Bool) (old new : List Node) (n : Node) → new ≡ (if b then old ++ n ∷ [] else old) → IsGrown old → AreFitting old → NamesBelow (length old) n → fits (branches old) n ≡ true → AreFitting new
fitting_pushed b old new n is grown fitting below fit = grind (arith, nat_tests, common_steps, fitting_push)

-- ---- nodes that are copies one by one make the same branches and the same calls, and each names earlier ones, such as its places want

copies_from : (olds copies : List Node) → AreCopies olds copies → (earlier : List Branch) → branches_from earlier copies ≡ branches_from earlier olds
copies_from (old ∷ olds) (copy ∷ copies) h earlier = rw (h.0.branch earlier, copies_from olds copies h.1 (earlier ++ branch_of earlier old ∷ []))
copies_from olds copies h earlier = grind (arith, nat_tests, common_steps)

-- the same branches
pub copied_branches : (olds copies : List Node) → AreCopies olds copies → branches copies ≡ branches olds
unfolding branches
copied_branches olds copies h = copies_from olds copies h []

-- the same calls
pub copied_calls : (olds copies : List Node) → AreCopies olds copies → calls_among copies ≡ calls_among olds
copied_calls (old ∷ olds) (copy ∷ copies) h = rw (h.0.called, copied_calls olds copies h.1)
copied_calls olds copies h = grind (arith, nat_tests, common_steps)

-- each names earlier ones, and such as its places want
module _ (olds copies : List Node) (h : AreCopies olds copies) where
  copy_at : (i : ℕ) (d : Node) → i < length copies → (i < length olds) × IsCopy (slice_index_or olds i d) (slice_index_or copies i d)
  copy_at i d below = grind (arith, nat_tests, common_steps, AllZip-get_or, AllZip-long)

  pub copied_grown : IsGrown olds → IsGrown copies
  copied_grown grown i d below = let (within, copy) = copy_at i d below in rw copy.parts (grown i d within)

  pub copied_fitting : AreFitting olds → AreFitting copies
  copied_fitting fitting i d below =
      let (within, copy) = copy_at i d below in
      rw (copied_branches olds copies h, copy.fits (branches olds)) (fitting i d within)

-- the same query
pub same_query : (olds copies : List Node) → branches copies ≡ branches olds → (query : Option Part) → query_at copies query ≡ query_at olds query
same_query olds copies e query = grind (arith, nat_tests, common_steps)

-- what a push that may be refused gives and keeps, and what copies keep
pub ruleset of_push = (push_made, push_keeps, push_calls, push_silent)

-- whether a set fits the calls of the nodes
pub ruleset of_fits = (nat_tests, common_steps, drop_all, fits_from, fits_once, once_fits)

pub ruleset of_copies = (copied_branches, copied_calls, copied_grown, copied_fitting, AllZip-long)
