-- A total order of steps, and one of locations step by step, in which only what is equal ties.
use Rattle.std.specs.Prelude.{List}
use Rattle.std.specs.Cmp.Lexicographic.{slice_cmp}
use Rattle.std.specs.Ordering.{nat_cmp}
use Rattle.std.specs.declared.cmp.Ordering.{Ordering}
use Rattle.std.specs.declared.cmp.Ordering.TheVariants.{Less, Greater}
use Rattle.serde_json_path_nodes.specs.Location.{Step, by_name, by_position}

-- names come before indexes, by their bytes
abbrev pub step_cmp : Step → Step → Ordering
step_cmp (by_name a) (by_name b) = slice_cmp nat_cmp a b
step_cmp (by_name a) (by_position j) = Less
step_cmp (by_position i) (by_name b) = Greater
step_cmp (by_position i) (by_position j) = nat_cmp i j

-- the first step that differs decides, else the lengths do
abbrev pub location_cmp : List Step → List Step → Ordering
location_cmp = slice_cmp step_cmp
