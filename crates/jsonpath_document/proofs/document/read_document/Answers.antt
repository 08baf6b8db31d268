use Rattle.jsonpath_document.proofs.Beginnings.{blanks_begin}
use Rattle.jsonpath_document.proofs.document.read_document.Goals as goal

pub returns-else-is_memory-clause-whole : goal.returns-else-is_memory-clause-whole
returns-else-is_memory-clause-whole c = λ empty. blanks_begin _ (c.refused.ensures.empty.0 empty)
