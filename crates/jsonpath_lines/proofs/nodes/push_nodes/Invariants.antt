use Rattle.jsonpath_lines.proofs.Words.{map, string_bytes, take, located, Appends, ArePieces}
use Rattle.jsonpath_lines.proofs.nodes.push_nodes.Given as goal

abbrev pub invariant-loop-index : goal.invariant-loop-index
invariant-loop-index l = Appends (ArePieces l.writer.output l.writer.head.now (map located (take l.index l.nodes))) (string_bytes l.fn.text) (string_bytes l.text)
