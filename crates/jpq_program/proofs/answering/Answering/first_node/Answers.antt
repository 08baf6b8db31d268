use Rattle.jpq_program.proofs.Words.{rest}
use Rattle.jpq_program.proofs.Cells.{of_either}
use Rattle.jpq_program.proofs.answering.Answering.first_node.Goals as goal

pub returns-clause-found : goal.returns-clause-found
returns-clause-found c = (rest c.in_ok-walk.walk, c.in_ok-walk.ensures.selects, of_either c.feed.result c.in_ok-feed.field-0 c.in_ok-feed.was c.feed.ensures.all c.feed.ensures.enough)
