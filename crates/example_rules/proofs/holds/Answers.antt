use Rattle.std.proofs.Common.{◌≡◌, ◌==◌, not, length, List, [], ◌∷◌, Option, Some, None, MatchOption, is_some, sym, ap, ◌∙◌}
use lib.Dec.{eqb-suc-zero}
use Rattle.serde_json_path_nodes.specs.Location.{Located}
use Rattle.serde_json_path_nodes.specs.Views.{located}
use Rattle.serde_json_path_nodes.specs.declared.located_node.LocatedNode.{LocatedNode}
use Rattle.serde_json_path_core.specs.Walks.{rest}
use Rattle.example_rules.proofs.holds.Goals as goal

-- a walk gives a node exactly where some remain
given : (next : Option LocatedNode) (before after : List Located)
    → MatchOption next ((before ≡ []) × (after ≡ [])) (λ node. before ≡ located node ∷ after) → is_some next ≡ not (length before == 0)
given None before after is = sym (ap (λ (nodes : List Located). not (length nodes == 0)) is.0)
given (Some node) before after is = sym (ap (λ (nodes : List Located). not (length nodes == 0)) is ∙ ap not (eqb-suc-zero (length after)))

pub returns : goal.returns
returns c =
    let walk = c.in_ok-walk.walk in
    let made = c.in_ok-walk.ensures in (
      rest walk,
      made.selects,
      c.is_some.ensures ∙ given c.in_ok-next.field-0 (rest walk) (rest c.next.new.self) c.in_ok-next.ensures.given,
    )
