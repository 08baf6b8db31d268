use Rattle.serde_json_path_tests.proofs.Words.{refl, ◌∙◌, arith, common_steps, calls_in}
use Rattle.serde_json_path_syntax.specs.Tree as tree
use Rattle.serde_json_path_tests.proofs.Trees.{finished_without_calls}
use Rattle.serde_json_path_tests.proofs.tests.built.two_names.Goals as goal

pub long_hand-requires : goal.long_hand-requires
long_hand-requires c =
    let both = tree.selector (tree.name c.requires.first.0) (tree.selector (tree.name c.requires.second.0) tree.no_selectors) in
    (both, grind (arith, common_steps))

pub query-requires : goal.query-requires
query-requires c =
    let both = tree.selector (tree.name c.requires.first.0) (tree.selector (tree.name c.requires.second.0) tree.no_selectors) in
    (tree.segment tree.child (tree.long_hand both) tree.no_segments, grind (arith, common_steps, c.in_ok-bracket.ensures.made both))

pub finish-requires : goal.finish-requires
finish-requires c =
    let both = tree.selector (tree.name c.requires.first.0) (tree.selector (tree.name c.requires.second.0) tree.no_selectors) in
    let segs = tree.segment tree.child (tree.long_hand both) tree.no_segments in (
      tree.query tree.root segs,
      grind (arith, common_steps, c.in_ok-query.ensures.made segs, c.in_ok-bracket.ensures.made both),
      finished_without_calls (calls_in c.query.new.self) segs (c.query.ensures.keeps.calls ∙ c.long_hand.ensures.keeps.calls ∙ c.requires.no_calls) (λ s. ((tt, (tt, tt)), tt)) refl (omega arith),
    )
