use Rattle.serde_json_path_nodes.proofs.Words.{arith, common_steps}
use Rattle.serde_json_path_nodes.proofs.Quotes.{plain_text}
use Rattle.serde_json_path_nodes.proofs.quoted.push_inside.Goals as goal

pub returns-then-plain_len-name : goal.returns-then-plain_len-name
returns-then-plain_len-name c = grind (arith, common_steps, plain_text c.args.name.now c.utf8.name)
