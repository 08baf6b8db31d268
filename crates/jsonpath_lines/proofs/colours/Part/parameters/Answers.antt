use Rattle.jsonpath_lines.proofs.Words.{arith, refl}
use Rattle.jsonpath_lines.proofs.colours.Part.parameters.Goals as goal

pub returns-in-TrueWord : goal.returns-in-TrueWord
returns-in-TrueWord c = (2, omega arith, refl)

pub returns-in-Number : goal.returns-in-Number
returns-in-Number c = (3, omega arith, refl)

pub returns-in-String : goal.returns-in-String
returns-in-String c = (4, omega arith, refl)

pub returns-in-Name : goal.returns-in-Name
returns-in-Name c = (5, omega arith, refl)
