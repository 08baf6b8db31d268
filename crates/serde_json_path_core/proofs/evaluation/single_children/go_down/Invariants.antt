use Rattle.serde_json_path_core.proofs.Words.{◌≡◌, drop, true, are_singular, Data, view, FunctionSet, segments_at, nodes_in, StandsIn, values_from}
use Rattle.serde_json_path_core.proofs.evaluation.single_children.go_down.Given as goal

abbrev pub invariant-loop-passed : goal.invariant-loop-passed
invariant-loop-passed l = record {
  selects : (F : FunctionSet) (top : Data) → values_from F top (segments_at (nodes_in l.query) l.segments) (view l.value)
      ≡ values_from F top (segments_at (nodes_in l.query) (drop l.passed l.segments)) (view l.reached);
  singular : are_singular (segments_at (nodes_in l.query) l.segments) ≡ true → are_singular (segments_at (nodes_in l.query) (drop l.passed l.segments)) ≡ true;
  inside : (top : Data) → StandsIn top (view l.value) → StandsIn top (view l.reached);
}
