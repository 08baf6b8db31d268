-- In a list of numbered nodes, those that no node of a lower number shares its location with are `first_places`.
use Rattle.serde_json_path_nodes.proofs.Words.{◌≡◌, ℕ, suc, ◌+◌, ◌<◌, ◌≤◌, false, List, [], ◌∷◌, ◌++◌, length, get_or, map, refl, sym, ◌∙◌, arith, append_assoc, All, AllByRecursion, filter, list_any, on, nat_tests, map_push, All-nil, All-push, All-weaker, recursion_from_All, Ordering, is_among, first_places, first_places_after, AreNumbered, location_cmp, located, location_of, LocatedNode, list_any-append}
use Rattle.serde_json_path_nodes.proofs.KeptBySorting.{is_first_among, repeats}
use Rattle.serde_json_path_nodes.proofs.Orders.{location_cmp-ties}

abbrev pub by_location : LocatedNode → LocatedNode → Ordering
by_location = on (λ node. node.location) location_cmp

abbrev pub number_of : LocatedNode → ℕ
number_of node = node.number

-- the nodes are numbered in order, from `start` on
abbrev AreNumberedFrom : ℕ → List LocatedNode → Type 0
AreNumberedFrom start [] = Unit {0}
AreNumberedFrom start (node ∷ nodes) = (node.number ≡ start) × AreNumberedFrom (start + 1) nodes

-- the same, from the number at each index
numbered_from : (start : ℕ) (nodes : List LocatedNode) → ((k : ℕ) (d : LocatedNode) → k < length nodes → (get_or nodes k d).number ≡ start + k)
    → AreNumberedFrom start nodes
numbered_from start [] numbers = tt
numbered_from start (node ∷ nodes) numbers = (
  omega (arith, numbers 0 node (omega arith)),
  numbered_from (start + 1) nodes (λ k d within. omega (arith, numbers (suc k) d (omega arith))),
)

-- later nodes are no reason to leave one out
none_later : (node : LocatedNode) (start : ℕ) (nodes : List LocatedNode) → node.number ≤ start → AreNumberedFrom start nodes
    → list_any (repeats by_location number_of node) nodes ≡ false
none_later node start [] low numbered = refl
none_later node start (next ∷ nodes) low numbered = grind (arith, nat_tests, none_later node (start + 1) nodes (omega arith) numbered.1)

-- earlier nodes are, where they have its location
among_earlier : (node : LocatedNode) (nodes : List LocatedNode) → AllByRecursion (λ before. before.number < node.number) nodes
    → list_any (repeats by_location number_of node) nodes ≡ is_among node.location (map location_of (map located nodes))
among_earlier node [] earlier = refl
among_earlier node (before ∷ nodes) earlier = grind (arith, nat_tests, location_cmp-ties, among_earlier node nodes earlier.1)

-- the nodes from `start` on, of which the ones before them are `before`
first_places_from : (all before nodes : List LocatedNode) (start : ℕ) → all ≡ before ++ nodes
    → All (λ node. node.number < start) before → AreNumberedFrom start nodes
    → map located (filter (is_first_among by_location number_of all) nodes) ≡ first_places_after (map location_of (map located before)) (map located nodes)
first_places_from all before [] start split earlier numbered = refl
first_places_from all before (node ∷ nodes) start split earlier numbered =
    let seen = map location_of (map located before) in
    let rest = filter (is_first_among by_location number_of all) nodes in
    let low : All (λ other. other.number < node.number) before = All-weaker (λ other. other.number < start) (λ other. other.number < node.number) (λ other below. omega (arith, below, numbered.0)) before earlier in
    let among : list_any (repeats by_location number_of node) all ≡ is_among node.location seen =
    rw split (grind (
      arith,
      nat_tests,
      list_any-append (repeats by_location number_of node) before (node ∷ nodes),
      none_later node start (node ∷ nodes) (omega (arith, numbered.0)) numbered,
      among_earlier node before (recursion_from_All (λ other. other.number < node.number) before low),
    )) in
    let further = first_places_from all (before ++ node ∷ []) nodes (start + 1) (split ∙ sym (append_assoc before (node ∷ []) nodes))
    (All-push (λ other. other.number < start + 1) before node
    (All-weaker (λ other. other.number < start) (λ other. other.number < start + 1) (λ other below. omega (arith, below)) before earlier) (omega (arith, numbered.0))) numbered.1 in
    let push : map location_of (map located (before ++ node ∷ [])) ≡ seen ++ node.location ∷ [] =
    simp (map_push located before node, map_push location_of (map located before) (located node)) in
    grind (arith, nat_tests, among, further, push)

pub first_places_are_first : (nodes : List LocatedNode) → AreNumbered nodes
    → map located (filter (is_first_among by_location number_of nodes) nodes) ≡ first_places (map located nodes)
first_places_are_first nodes numbers =
    first_places_from nodes [] nodes 0 refl (All-nil _) (numbered_from 0 nodes (λ k d within. omega (arith, numbers k d within)))
