use Rattle.jsonpath_document.proofs.Along.{IsReached}
use Rattle.jsonpath_document.specs.Reading.{open_levels}
use Rattle.jsonpath_document.proofs.reading.read.Given as goal

abbrev pub invariant-loop-index : goal.invariant-loop-index
invariant-loop-index l = IsReached l.text l.index l.start (open_levels l.levels.levels l.levels.count) l.next
