-- The normalised path of a location is accepted, with a tree that goes down its steps and selects the node there alone.
use Rattle.serde_json_path.proofs.Words.{◌≡◌, ℕ, List, [], ◌∷◌, ◌++◌, map, flat_map, Option, Some, option_map, option_to_list, refl, sym, ap, subst, ◌∙◌, append_assoc, codes, append-nil, arith, none-some, option_and_then_some, same_Some, Data, array, Step, by_name, by_position, child_at, at, Located, IsProper, query, root, long_hand, no_selectors, selector, Segments, child, segment, AreTypedSegments, segments_depth, IsResult, chosen, itself, placed, results_from, computed_result, Numbers, Signature, FunctionSet, calls_in_segments, selector_to, segments_to, ArePositionsWritten, chars, chars-encodes, normal_step, normal, ReadSegments, ReadsSelector, IsAccepted, Spelt, spell_both, spell_sign, spelt_nothing, quoted_spelt, position_spelt}

-- ---- what the tree is

-- it is well-typed under any signatures, nests nothing, and calls nothing
pub segments_plain : (signature : List ℕ → Option Signature) (steps : List Step)
    → AreTypedSegments signature (segments_to steps) × (segments_depth (segments_to steps) ≡ 0) × (calls_in_segments (segments_to steps) ≡ [])
segments_plain signature [] = (tt, refl, refl)
segments_plain signature (by_name k ∷ steps) = let more = segments_plain signature steps in (((tt, tt), more.0), rw more.1 refl, more.2)
segments_plain signature (by_position p ∷ steps) = let more = segments_plain signature steps in (((tt, tt), more.0), rw more.1 refl, more.2)

-- ---- what it selects

-- the step's selector selects the child at the step
child_chosen : (F : FunctionSet) (top : Data) (s : Step) (v c : Data) → child_at v s ≡ Some c → chosen F top (long_hand (selector (selector_to s) no_selectors)) v ≡ (s, c) ∷ []
child_chosen F top (by_name k) v c e = ap (λ o. option_to_list (option_map (λ d. (by_name k, d)) o) ++ []) e
child_chosen F top (by_position p) (array items) c e = ap (λ o. option_to_list (option_map (λ d. (by_position p, d)) o) ++ []) e
child_chosen F top (by_position p) _ c e = absurd (none-some c e)

-- and the steps' segments the node at their end
node_reached : (F : FunctionSet) (top : Data) (steps : List Step) (n : Located) (end : Data) → at n.value steps ≡ Some end
    → results_from F top (segments_to steps) n ≡ record { location = n.location ++ steps; value = end } ∷ []
node_reached F top [] n end e =
    ap (λ l. record { location = l; value = n.value } ∷ []) (sym (append-nil n.location))
    ∙ ap (λ d. record { location = n.location ++ []; value = d } ∷ []) (same_Some n.value end e)
node_reached F top (s ∷ steps) n end e =
    option_and_then_some (λ (c : Data). at c steps) (child_at n.value s) end e (λ c f g.
    ap (λ cs. flat_map (results_from F top (segments_to steps)) (map (placed n.location) cs) ++ []) (child_chosen F top s n.value c f)
    ∙ ap (λ ns. (ns ++ []) ++ []) (node_reached F top steps (placed n.location (s, c)) end g)
    ∙ ap (λ l. record { location = l; value = end } ∷ []) (append_assoc n.location (s ∷ []) steps))

-- the node is the query's result
pub node_selected : (F : FunctionSet) (top : Data) (node : Located) → at top node.location ≡ Some node.value → IsResult F top (query root (segments_to node.location)) top (node ∷ [])
node_selected F top node e =
    subst (IsResult F top (query root (segments_to node.location)) top) (node_reached F top node.location (itself top) node.value e)
    (computed_result F top (query root (segments_to node.location)) top)

-- ---- the normalised path of a location is accepted, with the tree that goes down its steps

-- a bracket with a selector alone, and more brackets
module _ (rule : Numbers) (s : Step) (bytes : List ℕ) (segs : Segments) (more : List ℕ) where
  bracket_spelt : Spelt (ReadsSelector rule (selector_to s)) bytes → Spelt (ReadSegments rule segs) more
      → Spelt (ReadSegments rule (segment child (long_hand (selector (selector_to s) no_selectors)) segs)) ((codes "[" ++ bytes ++ codes "]") ++ more)
  bracket_spelt x y =
      let bracket = codes "[" ++ x.characters ++ codes "]" in
      record {
        characters = bracket ++ y.characters;
        spells = spell_both (spell_both (spell_both (spell_sign 91 (omega arith)) x.spells) (spell_sign 93 (omega arith))) y.spells;
        is_so = ([], bracket, y.characters, tt, ([], x.characters, [], tt, (x.characters, [], x.is_so, refl, sym (append-nil x.characters)), tt, refl), y.is_so, refl);
      }

steps_spelt : (rule : Numbers) (steps : List Step) → IsProper steps → ArePositionsWritten steps → Spelt (ReadSegments rule (segments_to steps)) (flat_map normal_step steps)
steps_spelt rule [] proper written = spelt_nothing refl
steps_spelt rule (by_name bytes ∷ steps) proper written = bracket_spelt rule (by_name bytes) _ _ _ (quoted_spelt bytes proper.0) (steps_spelt rule steps proper.1 written)
steps_spelt rule (by_position p ∷ steps) proper written = bracket_spelt rule (by_position p) _ _ _ (position_spelt p written.0) (steps_spelt rule steps proper written.1)

-- the normalised path of a location is accepted
pub normal_accepted : (rule : Numbers) (signature : List ℕ → Option Signature) (steps : List Step) → IsProper steps → ArePositionsWritten steps
    → IsAccepted rule signature (chars (normal steps)) (query root (segments_to steps))
normal_accepted rule signature steps proper written =
    let x = steps_spelt rule steps proper written in
    let spells = spell_both (spell_sign 36 (omega arith)) x.spells in
    let text : chars (normal steps) ≡ codes "$" ++ x.characters = ap chars (sym spells.encoded) ∙ chars-encodes (codes "$" ++ x.characters) spells.scalars in
    record {
      reads = (x.characters, x.is_so, text);
      from_root = refl;
      typed = (segments_plain signature steps).0;
      within_depth = rw (segments_plain signature steps).1 (omega arith);
    }
