-- What a copy of a node keeps.
use Rattle.std.specs.Prelude.{◌≡◌, ℕ, List, map}
use Rattle.std.specs.List.{AllZip}
use Rattle.serde_json_path_syntax.specs.Bound.{bound, bound_segment, bound_selector, bound_or, bound_and, bound_basic, bound_operand, bound_call}
use Rattle.serde_json_path_syntax.specs.Flat.{called_by, parts_named, branch_of}
use Rattle.serde_json_path_syntax.specs.Kinds.{fits}
use Rattle.serde_json_path_syntax.specs.Branch.{Branch, a_query, a_segment, a_selector, an_or, an_and, a_basic, an_operand, a_call}
use Rattle.serde_json_path_syntax.specs.declared.node.Node.{Node}

-- a copy makes the same of earlier branches, fits the same ones, names the same parts, and makes the same call
pub record IsCopy (old copy : Node) : Type 0 where
  pub branch : (earlier : List Branch) → branch_of earlier copy ≡ branch_of earlier old
  pub fits : (earlier : List Branch) → fits earlier copy ≡ fits earlier old
  pub parts : parts_named copy ≡ parts_named old
  pub called : called_by copy ≡ called_by old

-- copies of so many nodes, one by one
abbrev pub AreCopies : List Node → List Node → Type 0
AreCopies = AllZip IsCopy

-- a branch in which texts stand for others
abbrev pub bound_branch : (List ℕ → List ℕ) → Branch → Branch
bound_branch value (a_query q) = a_query (bound value q)
bound_branch value (a_segment kind seg) = a_segment kind (bound_segment value seg)
bound_branch value (a_selector sel) = a_selector (bound_selector value sel)
bound_branch value (an_or e) = an_or (bound_or value e)
bound_branch value (an_and e) = an_and (bound_and value e)
bound_branch value (a_basic b) = a_basic (bound_basic value b)
bound_branch value (an_operand o) = an_operand (bound_operand value o)
bound_branch value (a_call c) = a_call (bound_call value c)

-- the same of some branches
abbrev pub bound_branches : (List ℕ → List ℕ) → List Branch → List Branch
bound_branches value branches = map (bound_branch value) branches

-- a copy of a node in which texts stand for others: of branches in which they do, it makes and fits such ones
pub record IsBoundCopy (value : List ℕ → List ℕ) (old copy : Node) : Type 0 where
  pub branch : (earlier : List Branch) → branch_of (bound_branches value earlier) copy ≡ bound_branch value (branch_of earlier old)
  pub fits : (earlier : List Branch) → fits (bound_branches value earlier) copy ≡ fits earlier old
  pub parts : parts_named copy ≡ parts_named old
  pub called : called_by copy ≡ called_by old

-- such copies of so many nodes, one by one
abbrev pub AreBoundCopies : (List ℕ → List ℕ) → List Node → List Node → Type 0
AreBoundCopies value = AllZip (IsBoundCopy value)
