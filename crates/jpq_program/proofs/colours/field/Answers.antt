use Rattle.jpq_program.proofs.Words.{arith, nth_from_yields_List, YieldsList-from_str_split}
use Rattle.jpq_program.proofs.colours.field.Goals as goal

pub returns : goal.returns
returns c = nth_from_yields_List _ _ c.args.index c.nth.ensures.ran (YieldsList-from_str_split 58 c.args.text.now (omega arith) c.split.ensures.text c.split.ensures.has_more c.split.ensures.pattern)
