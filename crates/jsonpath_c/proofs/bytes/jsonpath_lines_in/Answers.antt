use Rattle.jsonpath_c.proofs.Words.{AnswersLinesOf, AreLinesFrom, HoldOf, IsReached, form_of, inr, rules, view}
use Rattle.jsonpath_c.proofs.Reached.{lines_answered, lines_reached}
use Rattle.jsonpath_c.proofs.bytes.jsonpath_lines_in.Goals as goal

pub returns-in-Ok-clause-answers : goal.returns-in-Ok-clause-answers
returns-in-Ok-clause-answers c =
    let form = form_of c.args.form in
    let limits = c.args.limits.now in
    let path = c.in-Some.asked.now in
    let bytes = c.args.document.now in
    let lines = c.in-Ok.lines in
    let out = c.put_lines.new.out in
    let size = c.put_lines.new.size in
    let status = c.put_lines.result in
    let read = c.in-Ok.ensures.answered in
    let reached : IsReached form path bytes (view read.0.now) = rw c.form_named-form.ensures at read.1 in
    let are : AreLinesFrom form limits path (view read.0.now) lines = search rules in
    let found = lines_reached form limits path bytes (view read.0.now) lines reached are in
    let answers = lines_answered form limits path found.0 lines c.args.out.now out c.args.size.now size status found.2 c.put_lines.ensures in
    let hold : HoldOf c.args.path.value bytes (λ c' d. AnswersLinesOf form limits c' d c.args.out.now out c.args.size.now size status) =
    rw c.in-Some.ensures (found.0, found.1, answers) in
    inr hold
