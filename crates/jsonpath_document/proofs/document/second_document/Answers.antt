use Rattle.std.proofs.Common.{◌≡◌, ◌-◌, ◌∙◌, ℕ, ap, arith, subst, sym, take}
use Rattle.jsonpath_document.specs.Document.{IsDocument}
use Rattle.jsonpath_document.proofs.document.second_document.Goals as goal

pub returns-in-Ok-clause-second : goal.returns-in-Ok-clause-second
returns-in-Ok-clause-second c = λ _.
    let at : c.after.result.position - 1 ≡ c.args.count =
    omega (arith, c.after.ensures.position, c.split_at.ensures.front_len) in
    let is = ap (λ (n : ℕ). take n c.args.bytes.now) at ∙ sym c.split_at.ensures.front in
    subst IsDocument (sym is) (_, c.in-Ok.ensures.ok)
