use Rattle.jsonpath_c.proofs.Words.{AnswersLinesOf, AreLinesFrom, form_of, rules, view}
use Rattle.jsonpath_c.proofs.Reached.{lines_answered}
use Rattle.jsonpath_c.proofs.answers.jsonpath_lines.Goals as goal

pub returns-in-Ok-clause-answers : goal.returns-in-Ok-clause-answers
returns-in-Ok-clause-answers c =
    let form = form_of c.args.form in
    let limits = c.args.limits.now in
    let path = c.in-Some.asked.now in
    let document = view c.in-Some.read.now.json.value in
    let out = c.put_lines.new.out in
    let size = c.put_lines.new.size in
    let lines : AreLinesFrom form limits path document c.in-Ok.lines = search rules in
    let answers : AnswersLinesOf form limits path document c.args.out.now out c.args.size.now size c.put_lines.result =
    lines_answered form limits path document c.in-Ok.lines c.args.out.now out c.args.size.now size c.put_lines.result lines c.put_lines.ensures in
    search rules
