-- Nodes of which each location is taken once: of their beginning, of one node more, and of those that were taken so before.
use Rattle.jsonpath_lines.proofs.Words.{common_steps, ◌≡◌, ◌⊎◌, inl, inr, ℕ, Bool, true, false, ◌||◌, if◌then◌else◌, List, [], ◌∷◌, ◌++◌, Option, Some, None, length, map, take, refl, sym, ap, subst, ◌∙◌, append_assoc, append-nil, arith, take-append-le, first_places, first_places_after, is_among, Located, Step, located, location_of, AreEnough, IsExceeded, TookDistinct, length-append, length-map, most_held, up_to, ◌+◌, ◌≤◌, nat_tests, IfSome, LocatedNode, list_any-append, same_steps, same_steps_decides, DistinctNodes}

-- nodes that follow others
after_append : (earlier : List (List Step)) (nodes later : List Located)
    → first_places_after earlier (nodes ++ later) ≡ first_places_after earlier nodes ++ first_places_after (earlier ++ map location_of nodes) later
after_append earlier [] later = ap (λ e. first_places_after e later) (sym (append-nil earlier))
after_append earlier (n ∷ nodes) later =
    let first : List Located = if is_among n.location earlier then [] else n ∷ [] in
    let seen : List (List Step) = earlier ++ n.location ∷ [] in
    ap (λ l. first ++ l) (after_append seen nodes later)
    ∙ sym (append_assoc first (first_places_after seen nodes) (first_places_after (seen ++ map location_of nodes) later))
    ∙ ap (λ e. (first ++ first_places_after seen nodes) ++ first_places_after e later) (append_assoc earlier (n.location ∷ []) (map location_of nodes))

-- a location that is among others adds none to them
absorbed : (same among : Bool) → (same ≡ true → among ≡ true) → (among || same) ≡ among
absorbed same among h = grind (arith, nat_tests, common_steps)

adds_none : (location known : List Step) (earlier : List (List Step)) → is_among known earlier ≡ true
    → (is_among location earlier || same_steps location known) ≡ is_among location earlier
adds_none location known earlier among =
    absorbed (same_steps location known) (is_among location earlier)
    (λ same. ap (λ l. is_among l earlier) ((same_steps_decides location known).0 same) ∙ among)

-- the locations of the nodes that are taken are those of all
with_one : (location known : List Step) (earlier others : List (List Step))
    → is_among location ((earlier ++ known ∷ []) ++ others) ≡ ((is_among location earlier || same_steps location known) || is_among location others)
with_one location known earlier others = grind (arith, nat_tests, common_steps, list_any-append)

one_among : (earlier : List (List Step)) (n : Located) (nodes : List Located) (location : List Step) (among : Bool) → is_among n.location earlier ≡ among
    → is_among location ((earlier ++ n.location ∷ []) ++ map location_of (first_places_after (earlier ++ n.location ∷ []) nodes))
    ≡ is_among location ((earlier ++ n.location ∷ []) ++ map location_of nodes)
    → is_among location (earlier ++ map location_of ((if among then [] else n ∷ []) ++ first_places_after (earlier ++ n.location ∷ []) nodes))
    ≡ is_among location (earlier ++ n.location ∷ map location_of nodes)
one_among earlier n nodes location among is further = grind (arith, nat_tests, common_steps, list_any-append, adds_none, with_one)

same_among : (earlier : List (List Step)) (nodes : List Located) (location : List Step)
    → is_among location (earlier ++ map location_of (first_places_after earlier nodes)) ≡ is_among location (earlier ++ map location_of nodes)
same_among earlier [] location = refl
same_among earlier (n ∷ nodes) location =
    one_among earlier n nodes location (is_among n.location earlier) refl (same_among (earlier ++ n.location ∷ []) nodes location)

-- of nodes that are taken so, all are taken again, after no other locations than before
abbrev AreAmong : List (List Step) → List (List Step) → Type 0
AreAmong some others = (location : List Step) → is_among location some ≡ true → is_among location others ≡ true

among_more : (known : List Step) (some others : List (List Step)) → AreAmong some others → AreAmong some (others ++ known ∷ [])
among_more known some others are location is = grind (arith, nat_tests, common_steps, list_any-append)

among_both : (known : List Step) (some others : List (List Step)) → AreAmong some others → AreAmong (some ++ known ∷ []) (others ++ known ∷ [])
among_both known some others are location is = grind (arith, nat_tests, common_steps, list_any-append)

-- a location that is not among others is not among some of them
not_among : (location : List Step) (some others : List (List Step)) → AreAmong some others → is_among location others ≡ false → is_among location some ≡ false
not_among location some others are is = grind (arith, nat_tests, are location)

one_again : (earlier known : List (List Step)) (n : Located) (nodes : List Located) (among : Bool) → is_among n.location earlier ≡ among → AreAmong known earlier
    → ((k : List (List Step)) → AreAmong k (earlier ++ n.location ∷ []) → first_places_after k (first_places_after (earlier ++ n.location ∷ []) nodes) ≡ first_places_after (earlier ++ n.location ∷ []) nodes)
    → first_places_after known ((if among then [] else n ∷ []) ++ first_places_after (earlier ++ n.location ∷ []) nodes)
    ≡ (if among then [] else n ∷ []) ++ first_places_after (earlier ++ n.location ∷ []) nodes
one_again earlier known n nodes among is are further = grind (arith, nat_tests, common_steps, among_more, not_among, among_both)

again_after : (earlier known : List (List Step)) (nodes : List Located) → AreAmong known earlier
    → first_places_after known (first_places_after earlier nodes) ≡ first_places_after earlier nodes
again_after earlier known [] are = refl
again_after earlier known (n ∷ nodes) are =
    one_again earlier known n nodes (is_among n.location earlier) refl are (λ k. again_after (earlier ++ n.location ∷ []) k nodes)

pub distinct_again : (nodes : List Located) → first_places (first_places nodes) ≡ first_places nodes
distinct_again nodes = again_after [] [] nodes (λ _ is. is)

-- the first places of the beginning of a list are the beginning of those of all
pub distinct_beginning : (nodes later : List Located) → (more : List Located) × (first_places (nodes ++ later) ≡ first_places nodes ++ more)
distinct_beginning nodes later = (first_places_after (map location_of nodes) later, after_append [] nodes later)

-- one node more
pub distinct_push : (some others : List Located) (next : Located) → first_places some ≡ first_places others → first_places (some ++ next ∷ []) ≡ first_places (others ++ next ∷ [])
distinct_push some others next same =
    let among : is_among next.location (map location_of some) ≡ is_among next.location (map location_of others) =
    sym (same_among [] some next.location) ∙ ap (λ l. is_among next.location (map location_of l)) same ∙ same_among [] others next.location in
    after_append [] some (next ∷ [])
    ∙ ap (λ b. first_places some ++ ((if b then [] else next ∷ []) ++ [])) among
    ∙ ap (λ l. l ++ ((if is_among next.location (map location_of others) then [] else next ∷ []) ++ [])) same
    ∙ sym (after_append [] others (next ∷ []))

-- no more nodes are first at their places than there are
first_fewer : (earlier : List (List Step)) (nodes : List Located) → length (first_places_after earlier nodes) ≤ length nodes
first_fewer earlier [] = omega arith
first_fewer earlier (n ∷ nodes) = one_fewer (is_among n.location earlier) (first_places_after (earlier ++ n.location ∷ []) nodes) (first_fewer (earlier ++ n.location ∷ []) nodes)
  where
    one_fewer : (among : Bool) (rest : List Located) → length rest ≤ length nodes → length ((if among then [] else n ∷ []) ++ rest) ≤ length (n ∷ nodes)
    one_fewer true rest few = omega (arith, few)
    one_fewer false rest few = omega (arith, few)

pub held_within : (limit : Option ℕ) (held room : ℕ) → held ≤ room → IfSome limit (λ most. room ≤ most_held most) → IfSome limit (λ most. held ≤ most_held most)
held_within None held room few within = tt
held_within (Some most) held room few within = omega (arith, few, within)

-- as many as are held, and those of them that differ
pub differing_fewer : (found all : List LocatedNode) (limit : Option ℕ) → map located found ≡ first_places (map located all) → IfSome limit (λ most. length all ≤ most_held most) → IfSome limit (λ most. length found ≤ most_held most)
differing_fewer found all None are few = tt
differing_fewer found all (Some most) are few = omega (arith, few, fewer)
  where
    fewer : length found ≤ length all
    fewer = omega (arith, length-map found located, length-map all located, ap length are, first_fewer [] (map located all))

pub differing_within : (limit : Option ℕ) (found all : List LocatedNode) (room : ℕ) → map located found ≡ first_places (map located all) → length all ≤ room → IfSome limit (λ most. room ≤ most_held most) → IfSome limit (λ most. length found ≤ most_held most)
differing_within limit found all room are few within = differing_fewer found all limit are (held_within limit (length all) room few within)

-- there is room for as many as may be held of those that are wanted
pub room_within : (limit : Option ℕ) (count room : ℕ) → IfSome limit (λ most. count ≤ most) → room ≤ most_held count → IfSome limit (λ most. room ≤ most_held most)
room_within None count room within is = tt
room_within (Some most) count room within is = omega (arith, within, is)

-- ---- a sink of nodes that differ in their locations

-- another is taken, beside those that are left
pub distinct_taken : (before now : DistinctNodes) (nodes left : List Located) (n : Located) → now.limit ≡ before.limit → first_places left ≡ first_places nodes
    → map located now.nodes.items ≡ left ++ n ∷ [] → length left + 1 ≤ now.room → now.room ≤ most_held (length (first_places nodes)) → IfSome before.limit (λ most. now.room ≤ most_held most) → TookDistinct before (nodes ++ n ∷ []) now
distinct_taken before now nodes left n limit same is few room within =
    let beginning = distinct_beginning nodes (n ∷ []) in
    let longer : length (first_places (nodes ++ n ∷ [])) ≡ length (first_places nodes) + length beginning.0 = ap length beginning.1 ∙ length-append (first_places nodes) beginning.0 in
    let all : length now.nodes.items ≡ length left + 1 = sym (length-map now.nodes.items located) ∙ ap length is ∙ length-append left (n ∷ []) in
    record {
      limit = limit;
      met = ap first_places is ∙ distinct_push left nodes n same;
      held = omega (arith, all, few);
      room = omega (arith, room, longer);
      few = within;
    }

-- those that are left are enough
pub enough_met : (before old : DistinctNodes) (nodes later found : List Located) → TookDistinct before nodes old
    → found ≡ first_places (map located old.nodes.items) → IsExceeded old.limit (length found) → AreEnough before.limit (first_places (nodes ++ later)) found
enough_met before old nodes later found took left many =
    let same : first_places nodes ≡ found = sym took.met ∙ sym left in
    let beginning = distinct_beginning nodes later in (
      beginning.0,
      beginning.1 ∙ ap (λ (l : List Located). l ++ beginning.0) same,
      inr (subst (λ limit. IsExceeded limit (length found)) took.limit many),
    )

-- the first of enough nodes, up to a limit, are the first of all
pub first_of_enough : (limit : Option ℕ) (nodes found : List Located) → AreEnough limit nodes found → up_to limit found ≡ up_to limit nodes
first_of_enough limit nodes found enough = by_rest limit nodes found enough.0 enough.1 enough.2
  where
    by_rest : (limit : Option ℕ) (nodes found later : List Located) → nodes ≡ found ++ later → (later ≡ []) ⊎ IsExceeded limit (length found) → up_to limit found ≡ up_to limit nodes
    by_rest limit nodes found later is (inl none) = ap (up_to limit) (sym (is ∙ ap (λ (l : List Located). found ++ l) none ∙ append-nil found))
    by_rest None nodes found later is (inr more) = absurd more
    by_rest (Some most) nodes found later is (inr more) = sym (ap (λ (ns : List Located). take most ns) is ∙ take-append-le most found later (omega (arith, more)))
