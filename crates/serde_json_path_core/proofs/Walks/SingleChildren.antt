-- A query goes down by segments that select one child at most: the values that it selects stay.
use Rattle.serde_json_path_core.proofs.Words.{nat_tests, common_steps, IfSome, option_map_or, append-nil, drop_more, length-drop, take-append-drop, take_all, flat_map-map, map-map, Data, Step, Located, FunctionSet, Query, query, kind_of, segments_of, Segments, no_segments, segment, SegmentKind, child, descendant, Segment, Selector, stage_at, stage_of, Stage, branch_at, segment_in, segment_kind_in, segments_at, Node, Part, flat_map-same, map-flat_map, chosen, descents, itself, placed, reached, results, results_from, start_of, beneath, first_value, admitted, candidates, AreChildrenOf, EndsIn, IsIn, child_at, SelectOnly, candidate_values, single_view, values_from, dot_name, index, long_hand, name, no_selectors, selector, are_singular, is_single, ◌≡◌, ℕ, ◌+◌, ◌<◌, List, [], ◌∷◌, ◌++◌, ◌-◌, ◌≤◌, map, take, drop, flat_map, length, get_or, arith, inl, Option, Some, None, option_to_list, slice_get, slice_index_or, true, refl, sym, ap, ◌∙◌, flat_map_single, SingleSelector, within_get, one_is, option_map, get, by_name, object}
use Rattle.serde_json_path_core.proofs.Walks.Frames.{candidates-of}
use Rattle.serde_json_path_core.specs.declared.evaluation.single_children.SingleSelector.TheVariants as single
use Rattle.serde_json_path_core.proofs.Walks.Stacks.{chosen-list}

abbrev value_of : Located → Data
value_of n = n.value

values-beneath : (above : List Step) (ns : List Located) → map value_of (map (beneath above) ns) ≡ map value_of ns
values-beneath above ns = map-map value_of (beneath above) ns

-- the values of a node, and of those below it that a segment goes down to, depend on its value alone
values-reached : (kind : SegmentKind) (n : Located) → map value_of (reached kind (itself n.value)) ≡ map value_of (reached kind n)
values-reached kind n = grind (arith, nat_tests, common_steps, values-beneath)

-- some parts end with those from that one on
pub ends-at : {A : Type 0} (xs : List A) (i : ℕ) → EndsIn xs (take (length xs - i) (drop i xs))
ends-at xs i =
    let long : length (drop i xs) ≤ length xs - i = let e = length-drop i xs in omega arith in
    (take i xs, sym (take-append-drop i xs) ∙ ap (λ ys. take i xs ++ ys) (sym (take_all (length xs - i) (drop i xs) long)))

-- a part of some, and some parts that end with those from that one on
pub ruleset of_ends = (nat_tests, common_steps, within_get, one_is, ends-at)

value_in : (cs : List (Step × Data)) (d : Data) → d ∷ [] ≡ map (λ (c : Step × Data). c.1) cs → (c : Step × Data) × IsIn c cs × (d ≡ c.1)
value_in [] d e = absurd cc
value_in (c ∷ cs) d e = (c, inl refl, ap (λ ds. get_or ds 0 d) e)

-- the value of a name
pub member_value : (k : List ℕ) (v : Data) → option_to_list (get k v) ≡ candidate_values (name k) v
member_value k v = grind (arith, nat_tests, common_steps)

-- the value that a selector selects is a child's
pub child-selected : (s : SingleSelector) (v d : Data) → d ∷ [] ≡ candidate_values (single_view s) v → (step : Step) × (child_at v step ≡ Some d)
unfolding AreChildrenOf
child-selected s v d e =
    let c = value_in (candidates (single_view s) v) d e in
    (c.0.0, candidates-of (single_view s) v c.0 c.1 ∙ ap Some (sym c.2))

-- a segment of a singular query is one of a name or an index
pub singular_stage : (kind : SegmentKind) (seg : Segment) (more : Segments) → are_singular (segment kind seg more) ≡ true
    → (sel : Selector) × (stage_of kind seg ≡ record { kind = child; selectors = sel ∷ [] }) × (is_single sel ≡ true) × (are_singular more ≡ true)
singular_stage child (dot_name k) more h = (name k, refl, refl, h)
singular_stage child (long_hand (selector (name k) no_selectors)) more h = (name k, refl, refl, h)
singular_stage child (long_hand (selector (index i) no_selectors)) more h = (index i, refl, refl, h)
singular_stage _ _ more h = absurd cc

-- the same of one part more of so many
pub next-singular : (nodes : List Node) (parts : List Part) (i : ℕ) (part : Part) → i < length parts → part ≡ get_or parts i part → are_singular (segments_at nodes (drop i parts)) ≡ true
    → (sel : Selector) × (stage_at nodes part ≡ record { kind = child; selectors = sel ∷ [] }) × (is_single sel ≡ true) × (are_singular (segments_at nodes (drop (i + 1) parts)) ≡ true)
next-singular nodes parts i part within is h = grind (arith, nat_tests, common_steps, drop_more, singular_stage)

-- it is that of a name or an index, if this is the selector
pub single_stage : (stage : Stage) (sel : Selector) (single : Option SingleSelector) → stage ≡ record { kind = child; selectors = sel ∷ [] }
    → IfSome single (λ s. sel ≡ single_view s) → IfSome single (λ s. stage ≡ record { kind = child; selectors = single_view s ∷ [] })
single_stage stage sel single is e = grind (arith, nat_tests, common_steps)

module _ (F : FunctionSet) (top : Data) where
  -- the values that come of the children that a segment selects
  abbrev of_children : Segment → Segments → Data → List Data
  of_children seg more v = flat_map (λ (c : Step × Data). values_from F top more c.1) (chosen F top seg v)

  from_node : (kind : SegmentKind) (seg : Segment) (more : Segments) → ((n : Located) → map value_of (results_from F top more n) ≡ values_from F top more n.value) → (n : Located)
      → map value_of (results_from F top (segment kind seg more) n) ≡ flat_map (of_children seg more) (map value_of (reached kind n))
  from_node kind seg more anywhere n = grind (arith, nat_tests, common_steps, map-flat_map, reached, flat_map-same, flat_map-map)

  -- where a node is has no bearing on the values that segments select from it
  pub values-anywhere : (segs : Segments) (n : Located) → map value_of (results_from F top segs n) ≡ values_from F top segs n.value
  values-anywhere no_segments n = refl
  values-anywhere (segment kind seg more) n =
      from_node kind seg more (λ m. values-anywhere more m) n
      ∙ ap (flat_map (of_children seg more)) (sym (values-reached kind n))
      ∙ sym (from_node kind seg more (λ m. values-anywhere more m) (itself n.value))

  plain : (s : SingleSelector) (cs : List (Step × Data)) → admitted F top (single_view s) cs ≡ cs
  plain s cs = grind (arith, nat_tests, common_steps)

  -- the values that come of a child, if there is one
  child_only : (more : Segments) (found : Option Data) → flat_map (values_from F top more) (option_to_list found) ≡ option_map_or (values_from F top more) found []
  child_only more found = grind (arith, nat_tests, common_steps)

  -- the values that come of a child segment of one selector, which admits all
  values-only : (kind : SegmentKind) (seg : Segment) (more : Segments) (v : Data) (sel : Selector) → stage_of kind seg ≡ record { kind = child; selectors = sel ∷ [] }
      → ((cs : List (Step × Data)) → admitted F top sel cs ≡ cs)
      → values_from F top (segment kind seg more) v ≡ flat_map (λ (c : Step × Data). values_from F top more c.1) (candidates sel v)
  values-only kind seg more v sel is all =
      from_node kind seg more (λ m. values-anywhere more m) (itself v)
      ∙ ap (λ k. flat_map (of_children seg more) (map value_of (reached k (itself v)))) (ap (λ (stage : Stage). stage.kind) is)
      ∙ append-nil (of_children seg more v)
      ∙ ap (flat_map (λ (c : Step × Data). values_from F top more c.1))
      (sym (chosen-list F top seg v)
      ∙ ap (flat_map (λ sel. admitted F top sel (candidates sel v))) (ap (λ (stage : Stage). stage.selectors) is)
      ∙ append-nil (admitted F top sel (candidates sel v)) ∙ all (candidates sel v))

  -- one part more of so many
  pub goes_down : (nodes : List Node) (parts : List Part) (i : ℕ) (part : Part) (v : Data) (s : SingleSelector) (found : Option Data) → i < length parts → part ≡ get_or parts i part
      → stage_at nodes part ≡ record { kind = child; selectors = single_view s ∷ [] } → option_to_list found ≡ candidate_values (single_view s) v
      → values_from F top (segments_at nodes (drop i parts)) v ≡ option_map_or (values_from F top (segments_at nodes (drop (i + 1) parts))) found []
  goes_down nodes parts i part v s found within is stage selects =
      let more = segments_at nodes (drop (i + 1) parts) in
      ap (λ ps. values_from F top (segments_at nodes ps) v) (drop_more parts i part within ∙ ap (λ p. p ∷ drop (i + 1) parts) (sym is))
      ∙ values-only (segment_kind_in (branch_at nodes part.number)) (segment_in (branch_at nodes part.number)) more v (single_view s) stage (plain s)
      ∙ sym (flat_map-map (values_from F top more) (λ (c : Step × Data). c.1) (candidates (single_view s) v))
      ∙ ap (flat_map (values_from F top more)) (sym selects)
      ∙ child_only more found

  -- a query's values are those that its segments select from its start
  pub values-query : (q : Query) (v start : Data) (segs : Segments) → segs ≡ segments_of q → start ≡ start_of (kind_of q) top v → map value_of (results F top q v) ≡ values_from F top segs start
  values-query (query kind more) v start segs e s = sym (ap (λ x. values_from F top x start) e ∙ ap (values_from F top more) s)

-- the first value of nodes is the first of their values
pub first-of-values : (ns : List Located) → first_value ns ≡ slice_get (map value_of ns) 0
first-of-values ns = grind (arith, nat_tests, common_steps)

-- ---- segments that are one child segment of one selector

pub select-only : (nodes : List Node) (parts : List Part) (d : Part) (sel : Selector) → 1 ≤ length parts → length parts < 2
    → stage_at nodes (slice_index_or parts 0 d) ≡ record { kind = child; selectors = sel ∷ [] }
    → ((F : FunctionSet) (top : Data) (cs : List (Step × Data)) → admitted F top sel cs ≡ cs) → SelectOnly nodes parts sel
select-only nodes (part ∷ []) d sel some one is all =
    λ F top v. values-only F top (segment_kind_in (branch_at nodes part.number)) (segment_in (branch_at nodes part.number)) no_segments v sel is (all F top) ∙ flat_map_single (λ (c : Step × Data). c.1) (candidates sel v)
select-only nodes _ d sel some one is all = absurd (omega arith)

-- the same of a name or an index, if the selector is one
pub select-single : (nodes : List Node) (parts : List Part) (d : Part) (single : Option SingleSelector) → 1 ≤ length parts → length parts < 2
    → IfSome single (λ s. stage_at nodes (slice_index_or parts 0 d) ≡ record { kind = child; selectors = single_view s ∷ [] })
    → IfSome single (λ s. SelectOnly nodes parts (single_view s))
select-single nodes parts d single some one is = grind (arith, nat_tests, common_steps, select-only, plain)
