use Rattle.serde_json_path_reach.proofs.Words.{ap, append-nil, map-append, take, take_more, tree_of, trees_of, [], ◌++◌, ◌+◌, ◌∙◌, ◌∷◌, ◌≡◌}
use Rattle.serde_json_path_reach.proofs.Plans.{asks_more}
use Rattle.serde_json_path_reach.proofs.plan.Plan.of.Goals as goal

pub loop-path-preserved : goal.loop-path-preserved
loop-path-preserved c =
    let i = c.loop-path.invariant in
    let (asked, g) = c.in_ok-add_path.ensures.inside in
    let before = trees_of (take c.loop-path.path-index c.args.paths.now) in
    let all : trees_of (take (c.loop-path.path-index + 1) c.args.paths.now) ≡ before ++ tree_of c.path-item.result.now ∷ [] =
    ap trees_of (take_more c.args.paths.now c.loop-path.path-index c.path-item.result c.loop-path-test.true) ∙ simp (map-append, append-nil, ← c.path-item.is) in
    record { right = g.right i.right; asks = rw all (asks_more c.loop-path.plan c.add_path.new.self c.args.places asked before (tree_of c.path-item.result.now) i.asks g c.in_ok-add_path.ensures.itself) }
