-- A longer query's result is what its last segment selects at each node of the shorter one's: so are their computed lists.
use Rattle.serde_json_path_core.proofs.Words.{◌≡◌, List, [], ◌∷◌, ◌++◌, map, flat_map, refl, sym, ap, ◌∙◌, append-nil, Data, Located, query, current, Segments, no_segments, segment, SegmentKind, Segment, FunctionSet, start_of, itself, placed, reached, chosen, results, results_from, AreResultsAt, with_segment, flat_map-same, flat_map-flat_map, arith, nat_tests, common_steps}
use Rattle.serde_json_path_core.proofs.Meaning.DerivationEnds.{results_beneath}
use Rattle.serde_json_path_core.proofs.Meaning.Derived.{computed_result, computed_only}
use Rattle.serde_json_path_core.proofs.laws.law_append.Goals as goal

module _ (F : FunctionSet) (top : Data) (reach : SegmentKind) (seg : Segment) where
  -- the last segment alone, and what it selects at a node
  abbrev Last : Segments
  Last = segment reach seg no_segments

  abbrev select : Located → List Located
  select = results_from F top Last

  longer_results : (segs : Segments) (n : Located) → results_from F top (with_segment segs reach seg) n ≡ flat_map select (results_from F top segs n)
  longer_results no_segments n = sym (append-nil (select n))
  longer_results (segment kind first more) n =
      let below : Located → List Located = λ m. map (placed m.location) (chosen F top first m.value) in
      let through : Located → List Located = λ m. flat_map (results_from F top more) (below m) in
      flat_map-same _ (λ m. flat_map select (through m)) (λ m.
      flat_map-same _ _ (longer_results more) (below m) ∙ sym (flat_map-flat_map select (results_from F top more) (below m))) (reached kind n)
      ∙ sym (flat_map-flat_map select through (reached kind n))

  at_each : (ns : List Located) → AreResultsAt F top (query current Last) ns (flat_map select ns)
  at_each [] = refl
  at_each (n ∷ ns) =
      let here = results F top (query current Last) n.value in
      (here, flat_map select ns, computed_result F top (query current Last) n.value, at_each ns, ap (λ found. found ++ flat_map select ns) (results_beneath F top Last n))

pub returns : goal.returns
returns c = λ F top kind segs reach seg node shorter longer is_shorter is_longer.
    let short = computed_only F top (query kind segs) node shorter is_shorter in
    let long = computed_only F top (query kind (with_segment segs reach seg)) node longer is_longer in
    rw (short, long, longer_results F top reach seg segs (itself (start_of kind top node))) (at_each F top reach seg (results F top (query kind segs) node))
