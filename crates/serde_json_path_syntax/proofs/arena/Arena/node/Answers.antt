use Rattle.serde_json_path_syntax.proofs.Words.{arith, nat_tests, common_steps}
use Rattle.serde_json_path_syntax.proofs.Tree.Growing.{called_among, branch_at-is}
use Rattle.serde_json_path_syntax.proofs.arena.Arena.node.Goals as goal

pub returns-clause-branch : goal.returns-clause-branch
returns-clause-branch c = grind (arith, nat_tests, common_steps, branch_at-is)

pub returns-clause-called : goal.returns-clause-called
returns-clause-called c = called_among c.args.self.now.nodes.items c.args.part.number _ c.requires c.index.ensures
