use Rattle.serde_json_path_core.proofs.Words.{string_bytes, rest}
use Rattle.jpq_program.proofs.answers.push_answer.Goals as goal

pub returns-clause-lines : goal.returns-clause-lines
returns-clause-lines g c =
    let written = c.in_ok-written.written in
    (rest c.in_ok-walk.walk, string_bytes written.text, c.in_ok-walk.ensures.selects, c.in_ok-written.ensures.lines, c.in_ok-join.ensures.joined, c.in_ok-written.ensures.count)
