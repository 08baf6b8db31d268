use Rattle.jsonpath_c.proofs.Words.{◌≡◌, ◌++◌, List, Located, TookLines, document_of, query_of, rest, set_of, steps_of}
use Rattle.jsonpath_c.proofs.bounded.first_lines.Given as goal

abbrev pub invariant-nodes : goal.invariant-nodes
invariant-nodes g l = record {
  set : set_of l.walk ≡ set_of l.fn.walk;
  query : query_of l.walk ≡ query_of l.fn.walk;
  document : document_of l.walk ≡ document_of l.fn.walk;
  form : l.lines.form ≡ l.fn.form;
  limits : l.lines.limits.now ≡ l.fn.limits;
  given : (nodes : List Located) × TookLines l.lines nodes × (rest l.fn.walk ≡ nodes ++ rest l.walk);
}

abbrev pub decreases-nodes : goal.decreases-nodes
decreases-nodes g l = steps_of l.walk
