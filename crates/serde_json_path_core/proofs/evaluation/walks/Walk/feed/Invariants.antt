use Rattle.serde_json_path_core.proofs.Words.{◌≡◌, ◌++◌, List, Located, document_of, rest, steps_of}
use Rattle.serde_json_path_core.specs.Walks.{query_of, set_of}
use Rattle.serde_json_path_core.proofs.evaluation.walks.Walk.feed.Given as goal

abbrev pub invariant-nodes : goal.invariant-nodes
invariant-nodes g l = record {
  set : set_of l.self ≡ set_of l.initial.self;
  query : query_of l.self ≡ query_of l.initial.self;
  document : document_of l.self ≡ document_of l.initial.self;
  given : (nodes : List Located) × g.S.Sink.took l.initial.sink nodes l.sink × (rest l.initial.self ≡ nodes ++ rest l.self);
}

abbrev pub decreases-nodes : goal.decreases-nodes
decreases-nodes g l = steps_of l.self
