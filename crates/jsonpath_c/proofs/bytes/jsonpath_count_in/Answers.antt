use Rattle.jsonpath_c.proofs.Words.{◌≡◌, Data, IfErr, IfOk, IfOk-weaker, IsReached, List, Located, Location, SelectsFrom, length, rules, view, ℕ}
use Rattle.jsonpath_c.proofs.Reached.{length_alike, put_reached}
use Rattle.jsonpath_c.proofs.bytes.jsonpath_count_in.Goals as goal

pub returns-clause-done : goal.returns-clause-done
returns-clause-done c = λ done.
    let path = c.in-Some.asked.now in
    let bytes = c.args.document.now in
    let found = c.asked_of-found.result in
    let known : IfOk found (λ count. (value : Data) × IsReached Location path bytes value × ((nodes : List Located) × SelectsFrom path value nodes × (count ≡ length nodes))) =
    IfOk-weaker found _ _ (λ count h. (view h.0.now, h.1, search rules)) c.asked_of-found.ensures.answered in
    let none : c.put_answer.result ≡ 0 → IfErr found (λ e. e ≡ 0) = search rules in
    let is = put_reached (λ (count : ℕ) (nodes : List Located). count ≡ length nodes) length_alike path bytes found c.put_answer.new.out c.put_answer.result known c.asked_of-found.ensures.statuses c.put_answer.ensures.done none done in
    search rules
