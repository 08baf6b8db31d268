use Rattle.std.proofs.Common.{le-ltb, arith, nat_lt, slice_range, length, ◌≡◌, ◌+◌, ◌∙◌, ap, subst, sym, take, get_or}
use Rattle.jsonpath_document.specs.Document.{BeginsNone, IsBeginning}
use Rattle.jsonpath_document.specs.Reading.{before_byte, is_in_plain, is_too_large, is_within}
use Rattle.jsonpath_document.proofs.Along.{begins_before, begins_in_string, begins_whole, none_off_string, none_at_end, none_longer, leads_on, leads_nowhere, reached_first, start_at}
use Rattle.jsonpath_document.proofs.reading.read.Goals as goal
use Rattle.jsonpath_document.proofs.reading.read.Goals.{then-not-is_within, else-not-is_within}

pub loop-index-init : goal.loop-index-init
loop-index-init c = reached_first c.args.text.now

pub returns-in-None-clause-broken : goal.returns-in-None-clause-broken
returns-in-None-clause-broken c = λ _.
    let at = c.stop_at.ensures.place.0 in
    let none = leads_nowhere _ _ _ _ _ c.loop-index.invariant c.loop-index-test.true c.before-next.result (c.before-next.ensures ∙ ap (before_byte c.loop-index.next (get_or c.args.text.now c.loop-index.index 0)) c.begun.ensures) c.in-None.ensures in
    subst (λ n. BeginsNone (take (n + 1) c.args.text.now)) (sym at) none

pub returns-in-None-clause-kept : goal.returns-in-None-clause-kept
returns-in-None-clause-kept c = λ fine utf8.
    let place = c.stop_at.ensures.place in
    let start : c.if-not-is_within.start ≡ start_at (is_within c.before-next.result) c.loop-index.start c.loop-index.index =
    elim c.if-not-is_within.branch [
      | then-not-is_within w ↦ w.start-is ∙ ap (λ z. start_at z c.loop-index.start c.loop-index.index) w.if-not-is_within.ensures
      | else-not-is_within w ↦ w.start-is ∙ ap (λ z. start_at z c.loop-index.start c.loop-index.index) w.if-not-is_within.ensures
    ] in
    let kept = begins_before _ _ _ _ _ c.loop-index.invariant c.loop-index-test.true c.before-next.result
    (c.before-next.ensures ∙ ap (before_byte c.loop-index.next (get_or c.args.text.now c.loop-index.index 0)) c.begun.ensures) c.in-None.ensures
    _ start _ (sym c.stop_at.ensures.too_large ∙ fine) utf8 in
    subst (λ n. IsBeginning (take n c.args.text.now)) (sym place.0) kept

pub returns-clause-kept : goal.returns-clause-kept
returns-clause-kept c = λ fine utf8.
    let place = c.stop_at-2.ensures.place in
    let e : c.loop-index.index ≡ length c.args.text.now = omega (arith, c.loop-index-test.false, c.loop-index.auto.index-end) in
    let same = ap (λ i. is_too_large c.loop-index.next (nat_lt (length c.args.text.now) (length c.args.text.now)) (slice_range c.args.text.now c.loop-index.start i)) e in
    let kept = begins_whole _ _ _ _ _ c.loop-index.invariant e _ (same ∙ sym c.stop_at-2.ensures.too_large ∙ fine) utf8 in
    subst (λ n. IsBeginning (take n c.args.text.now)) (e ∙ sym place.0) kept

pub returns-in-None-clause-none : goal.returns-in-None-clause-none
returns-in-None-clause-none c = λ _.
    none_longer c.args.text.now (c.loop-index.index + 1) (leads_nowhere _ _ _ _ _ c.loop-index.invariant c.loop-index-test.true c.before-next.result
    (c.before-next.ensures ∙ ap (before_byte c.loop-index.next (get_or c.args.text.now c.loop-index.index 0)) c.begun.ensures) c.in-None.ensures)

pub returns-clause-none : goal.returns-clause-none
returns-clause-none c = λ large.
    let e : c.loop-index.index ≡ length c.args.text.now = omega (arith, c.loop-index-test.false, c.loop-index.auto.index-end) in
    let same = ap (λ i. is_too_large c.loop-index.next (nat_lt (length c.args.text.now) (length c.args.text.now)) (slice_range c.args.text.now c.loop-index.start i)) e in
    none_at_end _ _ _ _ _ c.loop-index.invariant e _ (le-ltb (length c.args.text.now) (length c.args.text.now) (omega arith)) (same ∙ sym c.stop_at-2.ensures.too_large ∙ large)

pub returns-clause-in_string : goal.returns-clause-in_string
returns-clause-in_string c = λ _ plain.
    begins_in_string _ _ _ _ _ c.loop-index.invariant (omega (arith, c.loop-index-test.false, c.loop-index.auto.index-end)) (ap is_in_plain (sym c.stop_at-2.ensures.place.2) ∙ plain)

pub returns-clause-off_string : goal.returns-clause-off_string
returns-clause-off_string c = λ _ off.
    none_off_string _ _ _ _ _ c.loop-index.invariant (omega (arith, c.loop-index-test.false, c.loop-index.auto.index-end)) (ap is_in_plain (sym c.stop_at-2.ensures.place.2) ∙ off)

pub loop-index-preserved : goal.loop-index-preserved
loop-index-preserved c =
    let start : c.if-not-is_within.start ≡ start_at (is_within c.before-next.result) c.loop-index.start c.loop-index.index =
    elim c.if-not-is_within.branch [
      | then-not-is_within w ↦ w.start-is ∙ ap (λ z. start_at z c.loop-index.start c.loop-index.index) w.if-not-is_within.ensures
      | else-not-is_within w ↦ w.start-is ∙ ap (λ z. start_at z c.loop-index.start c.loop-index.index) w.if-not-is_within.ensures
    ] in
    leads_on _ _ _ _ _ c.loop-index.invariant c.loop-index-test.true c.before-next.result
    (c.before-next.ensures ∙ ap (before_byte c.loop-index.next (get_or c.args.text.now c.loop-index.index 0)) c.begun.ensures) _ start _ _ c.in-Some.ensures
