use Rattle.jsonpath_c.proofs.Words.{◌≡◌, Pattern, arith, view}
use Rattle.jsonpath_c.proofs.Reached.{no_fault, whole_reached}
use Rattle.jsonpath_c.proofs.bytes.asked_of.Goals as goal

pub returns-in-Ok-ask-clause-answered : goal.returns-in-Ok-ask-clause-answered
returns-in-Ok-ask-clause-answered g c =
    (_, whole_reached c.args.form c.args.path.now c.args.bytes.now (view c.in_ok-value.value) c.in_ok-value.ensures.ok, c.in-Ok-ask.ensures)

pub returns-clause-fault : goal.returns-clause-fault
returns-clause-fault g c =
    let kept = c.in_ok-value.ensures.fault.kept_position (λ e. omega arith) (λ e. omega arith) in
    no_fault c.args.bytes.now c.args.position.now c.document_in.new.position c.query_status.result kept c.query_status.ensures.statuses

pub returns-clause-pattern_refused : goal.returns-clause-pattern_refused
returns-clause-pattern_refused g c = λ refused.
    let three : c.query_status.result ≡ 3 = cc in
    let pattern : c.in-Err.e ≡ Pattern = c.query_status.ensures.pattern.0 three in
    (_, c.in_ok-value.ensures.ok, rw pattern at c.in-Err.ensures)
