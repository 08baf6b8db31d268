-- No pattern is taken out before the one that is looked for.
use Rattle.std.proofs.Common.{◌≡◌}
use Rattle.serde_json_path_functions.proofs.cached.KeptPatterns.take.Given as goal

abbrev pub invariant-loop-place : goal.invariant-loop-place
invariant-loop-place l = l.self.recent.items ≡ l.fn.self.recent.items
