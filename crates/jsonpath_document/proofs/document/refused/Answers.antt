use Rattle.std.proofs.Common.{refl, arith, inl, inr, length, sym, subst, take, take_all, ◌-◌, ◌<◌, ◌≡◌, ◌∙◌}
use Rattle.jsonpath_document.specs.Document.{BeginsNone, IsBeginning}
use Rattle.std.specs.Str.{IsUtf8}
use Rattle.jsonpath_document.proofs.Along.{begins_cut_off, begins_front, begins_in_front, begins_none, begins_nothing, mark_begins_none, none_in_front, none_longer, none_of_front, none_with_high}
use Rattle.jsonpath_document.proofs.Beginnings.{blanks_begin}
use Rattle.jsonpath_document.proofs.document.refused.Goals as goal
use Rattle.jsonpath_document.proofs.document.refused.Goals.{then-stop-via-then-stop, then-stop-via-else-stop+then-stop-text, then-count-bytes-via-then-count-bytes, then-count-bytes-via-else-count-bytes+then-may_go_on}

pub returns-then-starts_with-clause-breaks : goal.returns-then-starts_with-clause-breaks
returns-then-starts_with-clause-breaks c = λ _. mark_begins_none c.args.bytes.now _ (sym c.if-starts_with.ensures.value) c.after-then-starts_with.ensures.position

pub returns-then-are_blank-clause-kept : goal.returns-then-are_blank-clause-kept
returns-then-are_blank-clause-kept c = λ _. begins_front c.args.bytes.now (c.after.result.position - 1) (blanks_begin c.args.bytes.now (sym c.if-are_blank.ensures))

pub returns-then-starts_with-clause-kept : goal.returns-then-starts_with-clause-kept
returns-then-starts_with-clause-kept c = λ _. begins_nothing c.args.bytes.now _ (omega (arith, c.after-then-starts_with.ensures.position))

pub returns-then-starts_with-clause-cut : goal.returns-then-starts_with-clause-cut
returns-then-starts_with-clause-cut c = λ _ _.
    let none = none_longer c.args.bytes.now 1 (mark_begins_none c.args.bytes.now 1 (sym c.if-starts_with.ensures.value) refl) in
    (λ cut. absurd (cc (cut, c.after-then-starts_with.ensures.fault)), λ is. absurd (begins_none _ none is))

pub returns-then-stop-clause-cut : goal.returns-then-stop-clause-cut
returns-then-stop-clause-cut c = λ _ _.
    let none : BeginsNone c.args.bytes.now = elim c.then-stop.branch [
      | then-stop-via-then-stop w ↦ none_of_front _ _ _ c.split_at.ensures.front (c.read-stop.ensures.none w.if-stop.true)
      | then-stop-via-else-stop+then-stop-text w ↦ none_in_front _ _ _ _ c.split_at.ensures.front (omega (arith, w.if-stop-text.true, c.split_at.ensures.front_len)) (c.read-stop.ensures.broken w.if-stop-text.true)
    ] in
    (λ cut. absurd (c.told.ensures.told.byte.2 cut), λ is. absurd (begins_none _ none is))

pub told-requires-clause-kept : goal.told-requires-clause-kept
told-requires-clause-kept c = λ fine.
    let text = subst IsUtf8 (sym c.split_at.ensures.front) c.text_of-count.ensures.text in
    begins_in_front _ _ _ _ c.split_at.ensures.front c.text_of-count.ensures.within (omega (arith, c.read-stop.ensures.at, c.split_at.ensures.front_len)) (c.read-stop.ensures.kept fine text)

pub told-requires-clause-number : goal.told-requires-clause-number
told-requires-clause-number c = λ large.
    let text = subst IsUtf8 (sym c.split_at.ensures.front) c.text_of-count.ensures.text in
    begins_in_front _ _ _ _ c.split_at.ensures.front c.text_of-count.ensures.within (omega (arith, c.read-stop.ensures.at, c.read-stop.ensures.start, c.split_at.ensures.front_len)) (c.read-stop.ensures.number large text)

-- ---- the text goes on

begins : (c : goal.After-unfinished) → IsBeginning c.args.bytes.now
begins c =
    let text = subst IsUtf8 (sym c.split_at.ensures.front) c.text_of-count.ensures.text in
    let whole : c.read-stop.result.at ≡ length c.split_at.result.0.now = omega (arith, c.read-stop.ensures.at, c.if-stop-text.false) in
    elim c.then-count-bytes.branch [
      | then-count-bytes-via-then-count-bytes w ↦ subst IsBeginning (take_all c.read-stop.result.at c.args.bytes.now (omega (arith, whole, c.split_at.ensures.front_len, w.if-count-bytes.true)))
          (begins_in_front _ _ _ _ c.split_at.ensures.front c.text_of-count.ensures.within (omega (arith, whole, c.split_at.ensures.front_len)) (c.read-stop.ensures.kept c.if-stop.false text))
      | then-count-bytes-via-else-count-bytes+then-may_go_on w ↦ begins_cut_off _ _ _ c.split_at.ensures.front text (c.text_of-count.ensures.cut_off w.if-may_go_on.true.1)
          (c.read-stop.ensures.in_string whole (sym w.is_in_string.ensures ∙ w.if-may_go_on.true.0))
    ]

pub returns-then-count-bytes-clause-cut : goal.returns-then-count-bytes-clause-cut
returns-then-count-bytes-clause-cut c = λ _ _. (λ _. begins c, λ _. c.unfinished.ensures.fault)

pub returns-then-count-bytes-clause-kept : goal.returns-then-count-bytes-clause-kept
returns-then-count-bytes-clause-kept c = λ _. begins_front _ _ (begins c)

-- ---- a byte is of no character

pub returns-clause-cut : goal.returns-clause-cut
returns-clause-cut c = λ _ _.
    let whole : c.read-stop.result.at ≡ length c.split_at.result.0.now = omega (arith, c.read-stop.ensures.at, c.if-stop-text.false) in
    let more : c.text_of-count.result.0 < length c.args.bytes.now = omega (arith, c.text_of-count.ensures.within, c.if-count-bytes.false) in
    let never : IsBeginning c.args.bytes.now → ⊥ = λ is. elim c.if-may_go_on.either [
      | inl within ↦ c.text_of-count.ensures.never within.1 is.0 is.1.1.0
      | inr off ↦ begins_none _ (none_with_high _ _ _ c.split_at.ensures.front more (c.text_of-count.ensures.high more) (c.read-stop.ensures.off_string whole (sym c.is_in_string.ensures ∙ off))) is
    ] in
    (λ cut. absurd (cc (cut, c.after-2.ensures.fault)), λ is. absurd (never is))

pub returns-clause-kept : goal.returns-clause-kept
returns-clause-kept c = λ _.
    let text = subst IsUtf8 (sym c.split_at.ensures.front) c.text_of-count.ensures.text in
    let kept = begins_in_front _ _ _ _ c.split_at.ensures.front c.text_of-count.ensures.within (omega (arith, c.read-stop.ensures.at, c.split_at.ensures.front_len)) (c.read-stop.ensures.kept c.if-stop.false text) in
    let place : c.after-2.result.position - 1 ≡ c.read-stop.result.at = omega (arith, c.after-2.ensures.position, c.read-stop.ensures.at, c.if-stop-text.false) in
    subst (λ n. IsBeginning (take n c.args.bytes.now)) (sym place) kept
