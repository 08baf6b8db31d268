use Rattle.serde_json_path_parser.proofs.Words.{slice_get, length-set, slice_get-get_or, Observed, Gathered, ◌≡◌, ℕ, ◌<◌, ◌+◌, ◌-◌, List, length, set, Some, sym, ap, subst, ◌∙◌, arith}
use Rattle.serde_json_path_parser.proofs.Texts.{more_gathered, looked_on}
use Rattle.serde_json_path_parser.proofs.parser.stretch.gather.Goals as goal

pub loop-at-preserved : goal.loop-at-preserved
loop-at-preserved g c =
    let text = (g.S.PathSource.observed c.loop-at.source).text in
    let at = c.loop-at.at in
    let kept = c.loop-at.invariant in
    let below : c.loop-at.at < length text = omega (arith, c.requires.within, c.loop-at-test.true, ap length kept.looks.same_text) in
    let is : slice_get text at ≡ Some c.byte-next.result = slice_get-get_or text at 0 below ∙ ap Some (sym c.byte-next.ensures.value) in
    let fits = sym c.holds.ensures ∙ c.if-not-holds.false in
    let one : (c.loop-at.at - (c.args.index + 1)) + 1 ≡ (c.loop-at.at + 1) - (c.args.index + 1) = omega (arith, kept.some) in
    record {
      some = omega (arith, kept.some);
      most = omega (arith, c.loop-at-test.true);
      long = length-set c.loop-at.part (c.loop-at.at - c.args.index) c.byte-next.result ∙ kept.long;
      gathered = subst (λ (t : List ℕ). Gathered (g.C.Class.holds c.args.class.now) t c.args.index (c.loop-at.at + 1) (set c.loop-at.part (c.loop-at.at - c.args.index) c.byte-next.result)) (sym (ap (λ (t : Observed). t.text) c.byte-next.ensures.look))
          (more_gathered (g.C.Class.holds c.args.class.now) text c.args.index at c.byte-next.result c.loop-at.part (c.requires.ascii c.byte-next.result fits) (omega (arith, kept.some))
          (omega (arith, kept.some, c.loop-at-test.true, c.requires.most, kept.long)) is fits kept.gathered);
      looks = rw (sym one) (looked_on _ _ _ (c.loop-at.at - (c.args.index + 1)) at at kept.looks c.byte-next.ensures.look (omega arith));
    }
