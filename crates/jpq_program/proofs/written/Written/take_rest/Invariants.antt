use Rattle.jpq_program.proofs.Words.{◌≡◌, ◌++◌, List, Located, TookNodes, document_of, query_of, rest, set_of, steps_of}
use Rattle.jpq_program.proofs.written.Written.take_rest.Given as goal

abbrev pub invariant-nodes : goal.invariant-nodes
invariant-nodes g l = record {
  set : set_of l.walk ≡ set_of l.fn.walk;
  query : query_of l.walk ≡ query_of l.fn.walk;
  document : document_of l.walk ≡ document_of l.fn.walk;
  given : (nodes : List Located) × TookNodes g.W.Write.contents l.initial.self nodes l.self × (rest l.fn.walk ≡ nodes ++ rest l.walk);
}

abbrev pub decreases-nodes : goal.decreases-nodes
decreases-nodes g l = steps_of l.walk
