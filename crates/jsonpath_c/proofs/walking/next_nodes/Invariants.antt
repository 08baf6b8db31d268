use Rattle.jsonpath_c.proofs.Words.{◌≡◌, ◌++◌, List, Located, document_of, kept, length, map, query_of, rest, set_of}
use Rattle.jsonpath_c.proofs.walking.next_nodes.Given as goal

abbrev pub invariant-loop : goal.invariant-loop
invariant-loop g l = record {
  set : set_of l.walk ≡ set_of l.fn.walk;
  query : query_of l.walk ≡ query_of l.fn.walk;
  document : document_of l.walk ≡ document_of l.fn.walk;
  given : (found : List Located) × (rest l.fn.walk ≡ found ++ rest l.walk) × (l.nodes ≡ map kept found) × (length found ≡ l.counter);
}
