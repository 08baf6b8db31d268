use Rattle.serde_json_path_reach.proofs.Words.{ap, read, sym, view, ◌∙◌}
use Rattle.serde_json_path_reach.proofs.Documents.{alike, places_alike}
use Rattle.serde_json_path_reach.proofs.Plans.{if_ok}
use Rattle.serde_json_path_reach.proofs.document.DocumentReader.reached.Goals as goal

pub returns-clause-values : goal.returns-clause-values
returns-clause-values c = λ qs keeps.
    let text = c.in-Ok.ensures.cases in
    if_ok _ _ c.read_reached-found.result (λ v (d, e, shown). (text.1, (d, ap read (sym text.0) ∙ e, alike c.args.self.now qs d (view v) (shown keeps.right) keeps))) c.read_reached-found.ensures.ok

pub returns-clause-places : goal.returns-clause-places
returns-clause-places c = λ qs keeps.
    let text = c.in-Ok.ensures.cases in
    if_ok _ _ c.read_reached-found.result (λ v (d, e, shown). (text.1, (d, ap read (sym text.0) ∙ e, places_alike c.args.self.now qs d (view v) (shown keeps.right) keeps))) c.read_reached-found.ensures.ok
