use Rattle.serde_json_path_nodes.proofs.Words.{ap, refl, ◌∙◌, sym, ◌++◌, map, take, codes, arith, has_written_append, has_written_of_eq, normal, step_view, by_name, by_position}
use Rattle.serde_json_path_nodes.proofs.TextsApart.{in_decimal-decimal}
use Rattle.serde_json_path_nodes.proofs.Steps.{normal_more}
use Rattle.serde_json_path_nodes.proofs.normalized_path.NormalizedPathDisplay.fmt.Goals as goal

pub loop-element-preserved : goal.loop-element-preserved
loop-element-preserved g c = λ plain.
    let done = c.loop-element.invariant plain in
    let items = c.deref-element-items.result.now in
    let i = c.loop-element.element-index in
    elim c.match-element.branch [
      | goal.in-Name+in_ok-write-in-Name w ↦
          let more = normal_more items i _ (by_name w.in-Name.name.now) c.loop-element-test.true (ap step_view w.in-Name.is) in
          rw w.f-is (has_written_of_eq _ _ _ _ _ more (has_written_append _ _ _ _ _ _ done (w.in_ok-write-in-Name.ensures.writes done.plain refl)))
      | goal.in-Index+in_ok-write-in-Index w ↦
          let position = w.in-Index.position in
          let before = normal (map step_view (take i items)) in
          let more = ap (λ t. before ++ (codes "[" ++ t ++ codes "]")) (sym (in_decimal-decimal position (omega arith)))
          ∙ normal_more items i _ (by_position position) c.loop-element-test.true (ap step_view w.in-Index.is) in
          rw w.f-is (has_written_of_eq _ _ _ _ _ more (has_written_append _ _ _ _ _ _ done (w.in_ok-write-in-Index.ensures.writes done.plain refl)))
    ]
