-- Walks as contracts see them.
use Rattle.std.specs.Prelude.{ℕ, List, length}
use Rattle.serde_json_path_core.specs.Imports.{Data, view, Located, Query, segments_of, FunctionSet, with_rule, rule_of, tree_of, stages}
use Rattle.serde_json_path_core.specs.Inside.Views.{frames_view}
use Rattle.serde_json_path_core.specs.Inside.Rest.{rest_of, work}
use Rattle.serde_json_path_core.specs.declared.evaluation.walks.Walk.{Walk}

-- the query, the function set with the query's rule for numbers, and the document
abbrev pub query_of : {F : Type 0} {g : _} → Walk F g → Query
query_of w = tree_of w.scope.query.now

abbrev pub set_of : {F : Type 0} {g : _} → Walk F g → FunctionSet
set_of {F} {g} w = with_rule (rule_of w.scope.query.now) (g.set w.scope.functions)

abbrev pub document_of : {F : Type 0} {g : _} → Walk F g → Data
document_of w = view w.scope.root.now

-- the nodes that remain
abbrev pub rest : {F : Type 0} {g : _} → Walk F g → List Located
rest w = rest_of (set_of w) (document_of w) (stages (segments_of (query_of w))) (frames_view w.frames.items)

-- how many frames its stack holds
abbrev pub places_of : {F : Type 0} {g : _} → Walk F g → ℕ
places_of w = length w.frames.items

-- how many steps are left at most
abbrev pub steps_of : {F : Type 0} {g : _} → Walk F g → ℕ
steps_of w = work (stages (segments_of (query_of w))) (frames_view w.frames.items)
