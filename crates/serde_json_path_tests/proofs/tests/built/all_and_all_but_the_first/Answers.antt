use Rattle.serde_json_path_tests.proofs.Words.{refl, ◌∙◌, arith, pos, Some, None, common_steps, a_segment, a_selector, calls_in}
use Rattle.serde_json_path_syntax.specs.Tree as tree
use Rattle.serde_json_path_tests.proofs.Trees.{finished_without_calls}
use Rattle.serde_json_path_tests.proofs.tests.built.all_and_all_but_the_first.Goals as goal

-- the selectors of the bracket, of which the second is the slice `1:`
abbrev both : tree.Selectors
both = tree.selector tree.wildcard (tree.selector (tree.slice (record { start = Some (pos 1); end = None; step = None })) tree.no_selectors)

-- the segments
abbrev segs : tree.Segments
segs = tree.segment tree.descendant tree.dot_wildcard (tree.segment tree.child (tree.long_hand both) tree.no_segments)

pub long_hand-requires : goal.long_hand-requires
long_hand-requires c = (both, grind (arith, common_steps, c.slice.ensures.keeps.trees c.in_ok-all.all (a_selector tree.wildcard)))

pub query-requires : goal.query-requires
query-requires c =
    let all = c.slice.ensures.keeps.trees c.in_ok-all.all (a_selector tree.wildcard) in
    let branch = a_segment tree.descendant tree.dot_wildcard in
    let below = c.long_hand.ensures.keeps.trees c.in_ok-below.below branch (c.slice.ensures.keeps.trees c.in_ok-below.below branch (c.wildcard.ensures.keeps.trees c.in_ok-below.below branch c.in_ok-below.ensures.made)) in
    (segs, grind (arith, common_steps, below, all, c.in_ok-bracket.ensures.made both))

pub finish-requires : goal.finish-requires
finish-requires c =
    let all = c.slice.ensures.keeps.trees c.in_ok-all.all (a_selector tree.wildcard) in
    let branch = a_segment tree.descendant tree.dot_wildcard in
    let below = c.long_hand.ensures.keeps.trees c.in_ok-below.below branch (c.slice.ensures.keeps.trees c.in_ok-below.below branch (c.wildcard.ensures.keeps.trees c.in_ok-below.below branch c.in_ok-below.ensures.made)) in (
      tree.query tree.root segs,
      grind (arith, common_steps, c.in_ok-query.ensures.made segs, below, all, c.in_ok-bracket.ensures.made both),
      finished_without_calls (calls_in c.query.new.self) segs (c.query.ensures.keeps.calls ∙ c.long_hand.ensures.keeps.calls ∙ c.slice.ensures.keeps.calls ∙ c.wildcard.ensures.keeps.calls ∙ c.dot_wildcard.ensures.keeps.calls ∙ c.new-builder.ensures.no_calls) (λ s. (tt, ((tt, (tt, tt)), tt))) refl (omega arith),
    )
