use Rattle.jpq_options.proofs.Words.{arith, common_steps, ◌≡◌, ◌∙◌, ap, comment_start, refl, take, trim_ascii_is, trimmed, true}
use Rattle.jpq_options.specs.declared.paths.Quoting.TheVariants.{Outside}
use Rattle.jpq_options.proofs.paths.path_in_line.Goals as goal

pub returns : goal.returns
returns c =
    let line = c.args.line.now in
    let start : c.comment_start.result ≡ comment_start Outside true line = c.comment_start.ensures.start ∙ ap (comment_start Outside true) c.as_bytes.ensures.value in
    let cut : c.range.result.now ≡ take (comment_start Outside true line) line = grind (arith, common_steps, c.range.ensures.value, start) in
    trim_ascii_is _ _ _ refl c.trim_ascii.ensures.value ∙ ap trimmed cut
