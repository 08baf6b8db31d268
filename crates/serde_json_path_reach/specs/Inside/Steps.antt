-- Steps that a selector may admit, as far as the step tells.
use Rattle.std.specs.Prelude.{◌==◌, ◌||◌, pos, negsuc, List, [], ◌∷◌, Bool, true, false, bytes_eq}
use Rattle.serde_json_path_nodes.specs.Location.{Step, by_name, by_position}
use Rattle.serde_json_path_syntax.specs.Tree.{Selector, name, wildcard, index, slice, filter}
use Rattle.serde_json_path_reach.specs.declared.row.Children.{Children}
use Rattle.serde_json_path_reach.specs.declared.row.Children.TheVariants.{All, Named, Selected}

abbrev pub may_admit : Selector → Step → Bool
may_admit (name k) (by_name l) = bytes_eq k l
may_admit (name k) (by_position p) = false
may_admit (index (pos i)) (by_position p) = i == p
may_admit (index (negsuc i)) (by_position p) = true
may_admit (index i) (by_name l) = false
may_admit (slice s) (by_position p) = true
may_admit (slice s) (by_name l) = false
may_admit wildcard s = true
may_admit (filter e) s = true

abbrev pub any_may_admit : List Selector → Step → Bool
any_may_admit [] s = false
any_may_admit (sel ∷ sels) s = may_admit sel s || any_may_admit sels s

-- as far as a look at the first selectors tells
abbrev pub may_admit_by : Children → List Selector → Step → Bool
may_admit_by (Named k) sels s = may_admit (name k.now) s
may_admit_by All sels s = true
may_admit_by Selected sels s = any_may_admit sels s
