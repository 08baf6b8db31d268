use Rattle.jsonpath_c.proofs.Words.{◌≡◌, ◌+◌, name_bytes}
use Rattle.jsonpath_c.proofs.bounded_list.without_names.Given as goal

abbrev pub invariant-loop-element : goal.invariant-loop-element
invariant-loop-element l = l.left + name_bytes l.fn.location ≡ l.bytes + name_bytes l.element-iterator
