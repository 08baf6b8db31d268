-- The parts below a part have smaller numbers.
use Rattle.serde_json_path_syntax.specs.Words.{parts_bound}
use Rattle.jpq_program.proofs.patterns.+no_pattern.Given as goal

abbrev pub decreases-no_pattern : goal.decreases-no_pattern
decreases-no_pattern l = parts_bound l.parts.now
