use Rattle.serde_json_path_syntax.specs.Words.{pairs_of, value_in}
use Rattle.serde_json_path_syntax.proofs.Tree.Bound.{other_made}
use Rattle.serde_json_path_syntax.proofs.copies.bound_copy_of.Goals as goal

pub returns-in_default : goal.returns-in_default
returns-in_default c = other_made (value_in (pairs_of c.args.bindings.now)) c.args.node.now c.in_default.not-Operand c.copy_of.result c.copy_of.ensures
