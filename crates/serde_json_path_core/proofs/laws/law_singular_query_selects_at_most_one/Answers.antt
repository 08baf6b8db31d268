-- The result of a singular query has one node at most: its computed list has.
use Rattle.serde_json_path_core.proofs.Words.{◌≤◌, List, [], ◌∷◌, ◌++◌, length, map, flat_map, Option, Some, None, option_to_list, sym, subst, arith, append-nil, Data, by_name, Located, Query, query, Segments, no_segments, segment, child, descendant, Segment, dot_name, long_hand, no_selectors, selector, name, index, IsSingularSegment, AreSingular, IsSingular, FunctionSet, start_of, IsResult, child_by, item_at, chosen, itself, placed, results_from, nat_tests, common_steps}
use Rattle.serde_json_path_core.proofs.Meaning.Derived.{computed_only}
use Rattle.serde_json_path_core.proofs.laws.law_singular_query_selects_at_most_one.Goals as goal

abbrev IsShort : {A : Type 0} → List A → Type 0
IsShort xs = length xs ≤ 1

short_joined : {A : Type 0} (xs : List A) → IsShort xs → IsShort (xs ++ [])
short_joined xs h = subst IsShort (sym (append-nil xs)) h

-- lists of one element at most, joined for the elements of a list of one at most
short_below : {A B C : Type 0} (f : A → B) (g : B → List C) → ((y : B) → IsShort (g y)) → (xs : List A) → IsShort xs → IsShort (flat_map g (map f xs))
short_below f g short (x ∷ []) h = short_joined (g (f x)) (short (f x))
short_below f g short xs h = grind (arith, nat_tests, common_steps, short_joined)

module _ (F : FunctionSet) (top : Data) where
  short_chosen : (seg : Segment) → IsSingularSegment seg → (v : Data) → IsShort (chosen F top seg v)
  short_chosen seg h v = grind (arith, nat_tests, common_steps, short_joined)

  short_results : (segs : Segments) → AreSingular segs → (n : Located) → IsShort (results_from F top segs n)
  short_results (segment child seg more) h n =
      short_joined (flat_map (results_from F top more) (map (placed n.location) (chosen F top seg n.value)))
      (short_below (placed n.location) (results_from F top more) (short_results more h.1) (chosen F top seg n.value) (short_chosen seg h.0 n.value))
  short_results segs h n = grind (arith, nat_tests, common_steps, short_joined, short_below, short_chosen)

  selects_at_most_one : (q : Query) (v : Data) (ns : List Located) → IsSingular q → IsResult F top q v ns → length ns ≤ 1
  selects_at_most_one (query kind segs) v ns h r =
      subst IsShort (sym (computed_only F top (query kind segs) v ns r)) (short_results segs h (itself (start_of kind top v)))

pub returns : goal.returns
returns c = λ F top q node list h g. selects_at_most_one F top q node list h g
