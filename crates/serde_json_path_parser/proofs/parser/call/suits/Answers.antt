use Rattle.serde_json_path_parser.proofs.Words.{sym}
use Rattle.serde_json_path_parser.proofs.Steps.{singular_by}
use Rattle.serde_json_path_parser.proofs.parser.call.suits.Goals as goal

pub returns-in-Value-wanted : goal.returns-in-Value-wanted
returns-in-Value-wanted c = λ signature x is.
    let q = rw c.in-Query.is at (c.argument.ensures x is.0) in
    rw (q.1, c.in-Value-wanted.is) (sym (singular_by c.is_singular.result q.0 (c.is_singular.ensures q.0 q.2)))
