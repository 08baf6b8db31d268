use Rattle.serde_json_path_core.proofs.Words.{nat_tests, common_steps, arith, subst, sym, view, branches, StandsIn, nodes_of, top_of, query_of, set_of, query_kind_view}
use Rattle.serde_json_path_core.proofs.Sound.{bound-ends, sound-ends, sound-segments}
use Rattle.serde_json_path_core.proofs.Walks.Chains.{start_stands}
use Rattle.serde_json_path_core.proofs.Walks.SingleChildren.{values-query}
use Rattle.serde_json_path_core.proofs.filter.query.reached.Goals as goal

pub returns-clause-selects : goal.returns-clause-selects
returns-clause-selects g c = grind (arith, nat_tests, common_steps, values-query)

pub returns-clause-below : goal.returns-clause-below
returns-clause-below g c = grind (arith, nat_tests, common_steps, bound-ends)

pub returns-clause-sound : goal.returns-clause-sound
returns-clause-sound g c =
    let scope = c.args.scope.now in
    sound-ends (set_of scope) (query_of scope) (branches (nodes_of scope)) c.part_segments.result.now c.go_down.result.segments.now c.go_down.ensures.ends
    (c.part_segments.ensures.are, sound-segments (set_of scope) (query_of scope) _ _ c.part_segments.ensures.tree c.requires.sound.1)

pub returns-clause-inside : goal.returns-clause-inside
returns-clause-inside g c =
    let top = top_of c.args.scope.now in
    c.go_down.ensures.inside top (subst (StandsIn top) (sym c.start-start.ensures) (start_stands (query_kind_view c.part_kind.result) top (view c.args.current.now) c.requires.inside))
