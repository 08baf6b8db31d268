-- What contracts see of lists that stand in one vector.
use Rattle.std.specs.Prelude.{List}

-- the lists that were ended, in order, and the one that was begun
pub record Lists (T : Type 0) : Type 0 where
  pub ended : List (List T)
  pub begun : List T
