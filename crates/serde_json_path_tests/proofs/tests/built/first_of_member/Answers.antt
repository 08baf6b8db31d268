use Rattle.serde_json_path_tests.proofs.Words.{refl, ◌∙◌, pos, arith, string_bytes, common_steps, a_segment, calls_in}
use Rattle.serde_json_path_syntax.specs.Tree as tree
use Rattle.serde_json_path_tests.proofs.Trees.{finished_without_calls}
use Rattle.serde_json_path_tests.proofs.tests.built.first_of_member.Goals as goal

pub long_hand-requires : goal.long_hand-requires
long_hand-requires c = (tree.selector (tree.index (pos 0)) tree.no_selectors, grind (arith, common_steps))

pub query-requires : goal.query-requires
query-requires c =
    let member = tree.dot_name (string_bytes c.in_ok-from_str.field-0) in
    let sels = tree.selector (tree.index (pos 0)) tree.no_selectors in
    let kept = c.long_hand.ensures.keeps.trees c.in_ok-member.member (a_segment tree.child member) in
    (tree.segment tree.child member (tree.segment tree.child (tree.long_hand sels) tree.no_segments), grind (arith, common_steps, kept, c.index.ensures.keeps.trees c.in_ok-member.member (a_segment tree.child member), c.in_ok-bracket.ensures.made sels))

pub finish-requires : goal.finish-requires
finish-requires c =
    let member = tree.dot_name (string_bytes c.in_ok-from_str.field-0) in
    let sels = tree.selector (tree.index (pos 0)) tree.no_selectors in
    let segs = tree.segment tree.child member (tree.segment tree.child (tree.long_hand sels) tree.no_segments) in (
      tree.query tree.root segs,
      grind (arith, common_steps, c.in_ok-query.ensures.made segs, c.long_hand.ensures.keeps.trees c.in_ok-member.member (a_segment tree.child member), c.index.ensures.keeps.trees c.in_ok-member.member (a_segment tree.child member), c.in_ok-bracket.ensures.made sels),
      finished_without_calls (calls_in c.query.new.self) segs (c.query.ensures.keeps.calls ∙ c.long_hand.ensures.keeps.calls ∙ c.index.ensures.keeps.calls ∙ c.dot_name.ensures.keeps.calls ∙ c.new-builder.ensures.no_calls) (λ s. (tt, ((tt, tt), tt))) refl (omega arith),
    )
