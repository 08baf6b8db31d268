use Rattle.std.proofs.Common.{arith}
use Rattle.jsonpath_document.proofs.Along.{begins_told}
use Rattle.jsonpath_document.proofs.document.told.Goals as goal

pub returns-then-is_too_deep-clause-kept : goal.returns-then-is_too_deep-clause-kept
returns-then-is_too_deep-clause-kept c = λ _.
    begins_told c.args.bytes.now _ _ _ c.after.result.position _ c.fault_of-count.ensures.within c.fault_of-count.ensures.at_number c.requires.kept c.requires.number
    (omega (arith, c.after.ensures.position, c.split_at.ensures.front_len))

pub returns-in_default-clause-kept : goal.returns-in_default-clause-kept
returns-in_default-clause-kept c = λ _.
    begins_told c.args.bytes.now _ _ _ c.after-in_default.result.position _ c.fault_of-count.ensures.within c.fault_of-count.ensures.at_number c.requires.kept c.requires.number
    (omega (arith, c.after-in_default.ensures.position, c.split_at.ensures.front_len))
