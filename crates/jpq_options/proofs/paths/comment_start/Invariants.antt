use Rattle.jpq_options.proofs.Words.{◌≡◌, ◌+◌, drop, true, comment_start}
use Rattle.jpq_options.specs.declared.paths.Quoting.TheVariants.{Outside}
use Rattle.jpq_options.proofs.paths.comment_start.Given as goal

abbrev pub invariant-loop-index : goal.invariant-loop-index
invariant-loop-index l = comment_start Outside true l.line ≡ comment_start l.quoting l.after_blank (drop l.index l.line) + l.index
