use Rattle.jsonpath_lines.proofs.Words.{◌++◌, take, sym, ap, ◌∙◌, Appends-kept, Appends-trans}
use Rattle.jsonpath_lines.proofs.Beginnings.{split_further}
use Rattle.jsonpath_lines.proofs.writing.write_text.Goals as goal

pub loop-preserved : goal.loop-preserved
loop-preserved g c =
    let before = c.loop.invariant in
    let rest = c.loop.rest.now in
    elim c.match-write.branch [
      | goal.in-Ok w ↦ record {
        begun = before.begun ++ take w.in-Ok.n rest;
        split = split_further _ before.begun rest w.in-Ok.n before.split ∙ ap (λ l. (before.begun ++ take w.in-Ok.n rest) ++ l) (sym (ap (λ r. r.now) w.rest-is));
        appended = Appends-trans _ _ _ _ _ before.appended w.in-Ok.ensures.bytes;
      }
      | goal.in-Err w ↦ record {
        begun = before.begun;
        split = before.split ∙ ap (λ l. before.begun ++ l) (sym (ap (λ r. r.now) w.rest-is));
        appended = Appends-kept _ _ _ _ before.appended w.in-Err.ensures.bytes;
      }
    ]
