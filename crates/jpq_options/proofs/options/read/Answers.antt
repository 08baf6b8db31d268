use Rattle.jpq_options.proofs.Words.{◌≡◌, ◌∙◌, ◌⊎◌, map, ap, subst, IfOk-weaker, App, IsAmong, app_of, fault_of, is_simple_and_free, kind_of, matches_of, OutOfMemory, jpq}
use Rattle.jpq_options.proofs.Answered.{found_answers, jpq_is_free, told_answers}
use Rattle.jpq_options.proofs.options.read.Goals as goal

pub returns-in-Ok : goal.returns-in-Ok
returns-in-Ok g c =
    let words = map g.S.AsStr.text c.args.words.now in
    let h = c.in_ok-command.ensures in
    IfOk-weaker c.asked_of.result _ _
    (λ a found. (h.0, h.1, found_answers h.0 (app_of c.in_ok-command.command) words _ a h.2 (λ simple. (c.in-Ok.ensures.ok.2 simple).0) c.in-Ok.ensures.kinds found))
    c.asked_of.ensures

pub returns : goal.returns
returns g c =
    let words = map g.S.AsStr.text c.args.words.now in
    let h = c.in_ok-command.ensures in
    let kind = kind_of c.in-Err.error in
    let by = subst (λ (x : App). (kind ≡ OutOfMemory) ⊎ IsAmong kind (fault_of x words)) h.2
    (c.in-Err.ensures.kinds (ap is_simple_and_free h.2 ∙ jpq_is_free h.0)) in
    IfOk-weaker c.reported.result _ _ (λ a told. (h.0, h.1, told))
    (told_answers kind (fault_of (jpq h.0) words) (matches_of (jpq h.0) words) c.reported.result by c.reported.ensures.memory c.reported.ensures.fault)
