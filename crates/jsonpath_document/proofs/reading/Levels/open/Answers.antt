use Rattle.std.proofs.Common.{arith, rules}
use Rattle.jsonpath_document.proofs.Levels.{opened-within}
use Rattle.jsonpath_document.proofs.reading.Levels.open.Goals as goal

pub returns : goal.returns
returns c = opened-within _ _ _ _ (omega (arith, c.if-self-ge-MOST_LEVELS.false)) (search rules)
