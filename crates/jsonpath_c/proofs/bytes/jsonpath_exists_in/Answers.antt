use Rattle.jsonpath_c.proofs.Words.{◌≡◌, Data, IfErr, IfOk, IfOk-weaker, IsReached, List, Located, Location, SelectsFrom, TellsSome, rules, view}
use Rattle.jsonpath_c.proofs.Reached.{some_alike, put_reached}
use Rattle.jsonpath_c.proofs.bytes.jsonpath_exists_in.Goals as goal

pub returns-clause-done : goal.returns-clause-done
returns-clause-done c = λ done.
    let path = c.in-Some.asked.now in
    let bytes = c.args.document.now in
    let found = c.asked_of-found.result in
    let known : IfOk found (λ some. (value : Data) × IsReached Location path bytes value × ((nodes : List Located) × SelectsFrom path value nodes × TellsSome some nodes)) =
    IfOk-weaker found _ _ (λ some h. (view h.0.now, h.1, search rules)) c.asked_of-found.ensures.answered in
    let none : c.put_answer.result ≡ 0 → IfErr found (λ e. e ≡ 0) = search rules in
    let is = put_reached TellsSome some_alike path bytes found c.put_answer.new.out c.put_answer.result known c.asked_of-found.ensures.statuses c.put_answer.ensures.done none done in
    search rules
