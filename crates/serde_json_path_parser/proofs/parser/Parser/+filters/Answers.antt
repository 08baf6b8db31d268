use Rattle.serde_json_path_parser.proofs.Reading.{first_fails, no_longer}
use Rattle.serde_json_path_parser.proofs.Texts.{is_ahead}
use Rattle.serde_json_path_parser.proofs.Words.{logical_argument, numbers_view, ◌∙◌, [], Err, refl, sym, ap, option_map, arith, true≢false, string_bytes, err_from_is_err_and, literal_view, operator_view, an_operand, call, signature_view, and_list, or_list, signatures, deeper, is_at, literal, called, left, common_steps, selector_list, segment_list, read_named_call, queried, AreAndPartsOf, AreOrPartsOf, AreSelectorsOf, map, kind_view, read_argument, segment_kind_view, query_kind_view, operand, true, false, paren, query, long_hand, relation, filter}
use Rattle.serde_json_path_parser.proofs.Steps.{made_as, number_reads, no_literal, operand_of, comparable_read, one_more, first_refused, first_open, level_down, at_mark, grows_none, grows_leaf, grows_kept, grows_then, grows_call, grown_so, begins_row, row_fails, row_shorter, row_goes_on, row_done, segments_stand, selectors_stand, ors_stand, ands_stand, segment_shorter, some_parts}
use Rattle.serde_json_path_parser.proofs.parser.Parser.+filters.Goals.{parse_operand-in_default-via-in-Some+in_default+then-this-lt97, parse_operand-in_default-via-in-Some+in_default+else-this-lt97+else-this-lt123, parse_operand-in_default-via-in_default}
use Rattle.serde_json_path_parser.proofs.parser.Parser.+filters.Goals as goal

pub parse_and_from-parts-init : goal.parse_and_from-parts-init
parse_and_from-parts-init g t c = record {
  moves = grind (arith, common_steps);
  so_far = λ x is. begins_row (ands_stand _ _ _) x (omega arith) c.new-parts.ensures.items c.in_ok-push.ensures.items is (λ before grown. grown) refl;
}

pub parse_and_from-returns-in_err-part-clause-gives : goal.parse_and_from-returns-in_err-part-clause-gives
parse_and_from-returns-in_err-part-clause-gives g t c = λ x is.
    let p = err_from_is_err_and c.from_residual-in_err-part.result c.from_residual-in_err-part.ensures.1 in
    rw (p.1, p.2) (row_fails (ands_stand _ _ _) {ds = left c.skip_blanks.new.self} (grind (arith, common_steps)) (grind (arith, common_steps)) (c.parts.invariant.so_far x is) c.in_err-part.field-0.0 c.in_err-part.ensures.gives)

pub parse_and_from-parts-smaller : goal.parse_and_from-parts-smaller
parse_and_from-parts-smaller g t c =
    row_shorter (ands_stand (numbers_view c.args.self.now.numbers) (signatures g.F.Functions.set c.args.self.now) c.args.self.now.depth) {ds = left c.skip_blanks.new.self} (grind (arith, common_steps)) (grind (arith, common_steps)) c.in_ok-part.ensures.gives

pub parse_and_from-parts-preserved : goal.parse_and_from-parts-preserved
parse_and_from-parts-preserved g t c = record {
  moves = grind (arith, common_steps);
  so_far = λ x is. row_goes_on (ands_stand _ _ _) {ds = left c.skip_blanks.new.self} (grind (arith, common_steps)) (grind (arith, common_steps)) c.in_ok-part.ensures.gives (c.parts.invariant.so_far x is) c.in_ok-push-2.ensures.items;
}

pub parse_and_from-logical_and-requires : goal.parse_and_from-logical_and-requires
parse_and_from-logical_and-requires g t c =
    let so_far = c.parts.invariant.so_far c.requires.0 c.requires.1 in
    (and_list so_far.items, some_parts c.parts.builder (λ parts. AreAndPartsOf c.parts.builder parts (and_list so_far.items)) _ _ so_far.some (λ part others are. are) so_far.are)

pub parse_and_from-returns-clause-gives : goal.parse_and_from-returns-clause-gives
parse_and_from-returns-clause-gives g t c = λ x is.
    let so_far = c.parts.invariant.so_far x is in (
      and_list so_far.items,
      c.in_ok-logical_and.ensures.made (and_list so_far.items) (some_parts c.parts.builder (λ parts. AreAndPartsOf c.parts.builder parts (and_list so_far.items)) _ _ so_far.some (λ part others are. are) so_far.are),
      row_done (ands_stand _ _ _) so_far (grind (arith, common_steps)) c.sees_both.ensures.stays,
      λ before grown. grows_kept (so_far.grown before grown) c.logical_and.ensures.keeps,
    )

pub parse_argument-returns-then-sees_end_of_argument-clause-gives : goal.parse_argument-returns-then-sees_end_of_argument-clause-gives
unfolding read_argument
parse_argument-returns-then-sees_end_of_argument-clause-gives g t c =
    let o = c.in_ok-operand.ensures.gives in
    (operand o.0, o.1, grind (arith, common_steps), o.3)

pub parse_argument-returns-clause-gives : goal.parse_argument-returns-clause-gives
unfolding read_argument
parse_argument-returns-clause-gives g t c =
    let o = c.in_ok-operand.ensures.gives in
    let b = rw c.bytes_left-place.ensures.value at (c.in_ok-basic.ensures.gives o.0 o.1) in
    let a = c.in_ok-and.ensures.gives b.0 b.1 in
    made_as _ _ _ _ (λ e. logical_argument e) _ _ _ c.parse_or_from.result (c.parse_or_from.ensures.gives a.0 a.1) (grind (arith, common_steps, b.2, a.2)) (λ part e is. (is, tt))
    (λ e grown. grown c.args.builder.now (a.3 c.args.builder.now (b.3 c.args.builder.now o.3)))

pub parse_arguments-returns-in_err-argument-clause-gives : goal.parse_arguments-returns-in_err-argument-clause-gives
parse_arguments-returns-in_err-argument-clause-gives g t c =
    let p = err_from_is_err_and c.from_residual.result c.from_residual.ensures.1 in
    let s = c.in_err-argument.field-0.0 in
    rw (p.1, p.2) (c.arguments.invariant.so_far.made c.arguments.builder [] c.arguments.reader (Err s) (first_refused (numbers_view c.args.self.now.numbers) (signatures g.F.Functions.set c.args.self.now) (deeper g.F.Functions.set c.args.self.now) c.args.place (map kind_view c.arguments.types.now) (left c.arguments.reader) s c.in_err-argument.ensures.gives))

pub parse_arguments-returns-then-not-sees_end_of_argument-clause-gives : goal.parse_arguments-returns-then-not-sees_end_of_argument-clause-gives
parse_arguments-returns-then-not-sees_end_of_argument-clause-gives g t c =
    c.arguments.invariant.so_far.made c.arguments.builder [] c.arguments.reader (Err c.refusal.result)
    (rw c.refusal.ensures.value (first_open (numbers_view c.args.self.now.numbers) (signatures g.F.Functions.set c.args.self.now) (deeper g.F.Functions.set c.args.self.now) c.args.place (map kind_view c.arguments.types.now) (left c.arguments.reader) _ c.in_ok-argument.ensures.gives.2 (sym c.sees_end_of_argument.ensures ∙ c.if-not-sees_end_of_argument.true)))

pub parse_arguments-arguments-preserved : goal.parse_arguments-arguments-preserved
parse_arguments-arguments-preserved g t c = grind (arith, common_steps, one_more)

pub parse_basic-returns-then-sees-clause-gives : goal.parse_basic-returns-then-sees-clause-gives
parse_basic-returns-then-sees-clause-gives g t c =
    let inner = c.in_ok-inner.ensures.gives in
    (paren false inner.0, c.in_ok-paren.ensures.made inner.0 inner.1, grind (arith, common_steps), grows_kept inner.3 c.paren.ensures.keeps)

pub parse_basic_from-relation-requires-clause-left : goal.parse_basic_from-relation-requires-clause-left
parse_basic_from-relation-requires-clause-left g t c =
    let (x, is) = c.requires in
    let a = c.in_ok-check_comparable.ensures.gives x is in
    (x, c.in_ok-right.ensures.gives.3.trees c.args.operand (an_operand x) is.0, comparable_read (numbers_view c.args.self.now.numbers) (signatures g.F.Functions.set c.args.self.now) (deeper g.F.Functions.set c.args.self.now) c.args.place x x (left c.skip_blanks.new.self) (left c.skip_blanks.new.self) a)

pub parse_basic_from-relation-requires-clause-right : goal.parse_basic_from-relation-requires-clause-right
parse_basic_from-relation-requires-clause-right g t c =
    let o = c.in_ok-right.ensures.gives in
    let b = c.in_ok-check_comparable-2.ensures.gives o.0 o.1 in
    (o.0, o.1.0, comparable_read (numbers_view c.args.self.now.numbers) (signatures g.F.Functions.set c.args.self.now) (deeper g.F.Functions.set c.args.self.now) c.bytes_left-right_place.result o.0 o.0 (left c.parse_operand.new.reader) (left c.parse_operand.new.reader) b)

pub parse_basic_from-returns-clause-gives : goal.parse_basic_from-returns-clause-gives
parse_basic_from-returns-clause-gives g t c = λ x is.
    let a = c.in_ok-check_comparable.ensures.gives x is in
    let o = c.in_ok-right.ensures.gives in
    let b = rw c.bytes_left-right_place.ensures.value at (c.in_ok-check_comparable-2.ensures.gives o.0 o.1) in (
      relation x (operator_view c.in-Some.operator) o.0,
      c.in_ok-relation.ensures.made x o.0 (o.3.trees c.args.operand (an_operand x) is.0) o.1.0,
      rw (c.in-Some.ensures.value, ← c.skip_blanks.ensures.left, a, o.2, b) refl,
      λ before grown. grows_kept (grows_then grown o.3) c.relation.ensures.keeps,
    )

pub parse_bracket-returns-clause-gives : goal.parse_bracket-returns-clause-gives
parse_bracket-returns-clause-gives g t c =
    let read = c.in_ok-selectors.ensures.gives in
    let sels = selector_list read.0 in
    ((segment_kind_view c.args.kind, long_hand sels), c.in_ok-long_hand.ensures.made sels read.1, grind (arith, common_steps), grows_kept read.3 c.long_hand.ensures.keeps)

pub parse_call-returns-in_err-parse_arguments-clause-gives : goal.parse_call-returns-in_err-parse_arguments-clause-gives
parse_call-returns-in_err-parse_arguments-clause-gives g t c = grind (arith, common_steps, err_from_is_err_and, first_fails, level_down)

pub parse_call-returns-clause-gives : goal.parse_call-returns-clause-gives
parse_call-returns-clause-gives g t c =
    let f = string_bytes c.args.name in
    let declared = ap (signatures g.F.Functions.set c.args.self.now) (sym c.as_str.ensures.value) ∙ sym c.signature.ensures ∙ ap (option_map signature_view) c.in-Some.is in
    let down = level_down (numbers_view c.args.self.now.numbers) (signatures g.F.Functions.set c.args.self.now) c.args.self.now.depth c.deeper.result.depth (omega (arith, c.if-self-eq0.false)) c.deeper.ensures.depth in
    let read = rw (c.deeper.ensures.functions, c.deeper.ensures.numbers, c.params.ensures, c.skip_blanks.ensures.left) at c.in_ok-parse_arguments.ensures.gives in (
      call f read.0,
      (c.in_ok-call.ensures.made read.0 (rw (read.1.1, c.new-arguments.ensures.items) read.1.2), rw declared c.in_ok-call.ensures.result),
      rw (down, declared, c.take_char.ensures.value, read.2) refl,
      grows_call f (signature_view c.in-Some.signature) read.0 declared read.3 c.call.ensures.keeps c.in_ok-call.ensures.calls,
    )

pub parse_inside-returns-clause-gives : goal.parse_inside-returns-clause-gives
parse_inside-returns-clause-gives g t c = grind (arith, common_steps, level_down)

pub parse_named-returns-then-sees-clause-gives : goal.parse_named-returns-then-sees-clause-gives
unfolding read_named_call
parse_named-returns-then-sees-clause-gives g t c =
    let k = rw c.bytes_left-place.ensures.value at c.in_ok-call.ensures.gives in (
      called k.0,
      (c.in_ok-called.ensures.made k.0 k.1.0, c.in_ok-called.ensures.result ∙ k.1.1),
      rw (c.requires, ← c.in_ok-word.ensures.rest, sym c.sees.ensures ∙ c.if-sees.true, read_named_call, ← c.in_ok-word.ensures.word, k.2) refl,
      grows_kept k.3 c.called.ensures.keeps,
    )

pub parse_negated-returns-then-sees-clause-gives : goal.parse_negated-returns-then-sees-clause-gives
parse_negated-returns-then-sees-clause-gives g t c =
    let inner = c.in_ok-inner.ensures.gives in
    (paren true inner.0, c.in_ok-paren.ensures.made inner.0 inner.1, grind (arith, common_steps), grows_kept inner.3 c.paren.ensures.keeps)

pub parse_negated-returns-in-Literal-clause-gives : goal.parse_negated-returns-in-Literal-clause-gives
parse_negated-returns-in-Literal-clause-gives g t c =
    let o = c.in_ok-operand.ensures.gives in
    let l = rw c.in-Literal.is at (c.argument.ensures (operand o.0) o.1.0) in
    rw (sym c.sees.ensures ∙ c.if-sees.false, sym c.sees_test.ensures ∙ c.if-not-sees_test.false, o.2, ap operand_of l, c.in_long_hand.ensures, c.bytes_left-place.ensures.value) refl

pub parse_negated-returns : goal.parse_negated-returns
parse_negated-returns g t c =
    let o = c.in_ok-operand.ensures.gives in
    let tests = no_literal (numbers_view c.args.self.now.numbers) (signatures g.F.Functions.set c.args.self.now) c.parse_operand.new.builder c.in_ok-operand.operand (deeper g.F.Functions.set c.args.self.now) c.bytes_left-place.result o.0 (left c.parse_operand.new.reader) _ c.in_default.not-Literal (c.argument.ensures (operand o.0) o.1.0) in
    let made = grown_so _ _ _ _ _ c.as_test.result (c.as_test.ensures.gives o.0 o.1) (λ b grown. grown c.args.builder.now o.3) in
    record {
      moves = record { moves = c.parse_operand.ensures.moves.moves; near = c.as_test.ensures.near };
      gives = rw (sym c.sees.ensures ∙ c.if-sees.false, sym c.sees_test.ensures ∙ c.if-not-sees_test.false, o.2, sym c.bytes_left-place.ensures.value, tests) made;
    }

pub parse_operand-returns-in_ok-queried-in-Some-eq64-clause-gives : goal.parse_operand-returns-in_ok-queried-in-Some-eq64-clause-gives
parse_operand-returns-in_ok-queried-in-Some-eq64-clause-gives g t c =
    let q = c.in_ok-query-in-Some-eq64.ensures.gives in
    let begun = is_ahead 64 _ _ (omega arith) c.in-Some-eq64.ensures (grind (arith, common_steps)) in
    (queried q.0, (c.in_ok-queried-in-Some-eq64.ensures.made q.0 q.1, tt), rw (ap (is_at "'") begun, ap (is_at "\"") begun, ap (is_at "@") begun, q.2) refl, grows_kept q.3 c.queried.ensures.keeps)

pub parse_operand-returns-in_ok-queried-in-Some-eq36-clause-gives : goal.parse_operand-returns-in_ok-queried-in-Some-eq36-clause-gives
parse_operand-returns-in_ok-queried-in-Some-eq36-clause-gives g t c =
    let q = c.in_ok-query-in-Some-eq36.ensures.gives in
    let begun = is_ahead 36 _ _ (omega arith) c.in-Some-eq36.ensures (grind (arith, common_steps)) in
    (queried q.0, (c.in_ok-queried-in-Some-eq36.ensures.made q.0 q.1, tt), rw (ap (is_at "'") begun, ap (is_at "\"") begun, ap (is_at "@") begun, ap (is_at "$") begun, q.2) refl, grows_kept q.3 c.queried-in-Some-eq36.ensures.keeps)

pub parse_or_from-parts-init : goal.parse_or_from-parts-init
parse_or_from-parts-init g t c = record {
  moves = grind (arith, common_steps);
  so_far = λ x is. begins_row (ors_stand _ _ _) x (omega arith) c.new-parts.ensures.items c.in_ok-push.ensures.items is (λ before grown. grown) refl;
}

pub parse_or_from-returns-in_err-part-clause-gives : goal.parse_or_from-returns-in_err-part-clause-gives
parse_or_from-returns-in_err-part-clause-gives g t c = λ x is.
    let p = err_from_is_err_and c.from_residual-in_err-part.result c.from_residual-in_err-part.ensures.1 in
    rw (p.1, p.2) (row_fails (ors_stand _ _ _) {ds = left c.skip_blanks.new.self} (grind (arith, common_steps)) (grind (arith, common_steps)) (c.parts.invariant.so_far x is) c.in_err-part.field-0.0 c.in_err-part.ensures.gives)

pub parse_or_from-parts-smaller : goal.parse_or_from-parts-smaller
parse_or_from-parts-smaller g t c =
    row_shorter (ors_stand (numbers_view c.args.self.now.numbers) (signatures g.F.Functions.set c.args.self.now) c.args.self.now.depth) {ds = left c.skip_blanks.new.self} (grind (arith, common_steps)) (grind (arith, common_steps)) c.in_ok-part.ensures.gives

pub parse_or_from-parts-preserved : goal.parse_or_from-parts-preserved
parse_or_from-parts-preserved g t c = record {
  moves = grind (arith, common_steps);
  so_far = λ x is. row_goes_on (ors_stand _ _ _) {ds = left c.skip_blanks.new.self} (grind (arith, common_steps)) (grind (arith, common_steps)) c.in_ok-part.ensures.gives (c.parts.invariant.so_far x is) c.in_ok-push-2.ensures.items;
}

pub parse_or_from-logical_or-requires : goal.parse_or_from-logical_or-requires
parse_or_from-logical_or-requires g t c =
    let so_far = c.parts.invariant.so_far c.requires.0 c.requires.1 in
    (or_list so_far.items, some_parts c.parts.builder (λ parts. AreOrPartsOf c.parts.builder parts (or_list so_far.items)) _ _ so_far.some (λ part others are. are) so_far.are)

pub parse_or_from-returns-clause-gives : goal.parse_or_from-returns-clause-gives
parse_or_from-returns-clause-gives g t c = λ x is.
    let so_far = c.parts.invariant.so_far x is in (
      or_list so_far.items,
      c.in_ok-logical_or.ensures.made (or_list so_far.items) (some_parts c.parts.builder (λ parts. AreOrPartsOf c.parts.builder parts (or_list so_far.items)) _ _ so_far.some (λ part others are. are) so_far.are),
      row_done (ors_stand _ _ _) so_far (grind (arith, common_steps)) c.sees_both.ensures.stays,
      λ before grown. grows_kept (so_far.grown before grown) c.logical_or.ensures.keeps,
    )

pub parse_query-returns-clause-gives : goal.parse_query-returns-clause-gives
parse_query-returns-clause-gives g t c =
    let read = c.in_ok-parts.ensures.gives in
    let segs = segment_list read.0 in
    (query (query_kind_view c.args.kind) segs, c.in_ok-query.ensures.made segs read.2, grind (arith, common_steps), grows_kept read.6 c.query.ensures.keeps)

pub parse_segments-returns-in_err-part-clause-gives : goal.parse_segments-returns-in_err-part-clause-gives
parse_segments-returns-in_err-part-clause-gives g t c =
    let p = err_from_is_err_and c.from_residual.result c.from_residual.ensures.1 in
    let so_far = c.segments.invariant.so_far in
    rw (p.1, p.2) (row_fails (segments_stand _ _ _ _) (grind (arith, common_steps)) so_far.2 so_far.3 c.in_err-part.field-0.0 c.in_err-part.ensures.gives)

pub parse_segments-segments-smaller : goal.parse_segments-segments-smaller
parse_segments-segments-smaller g t c =
    let shorter = segment_shorter (numbers_view c.args.self.now.numbers) (signatures g.F.Functions.set c.args.self.now) c.args.self.now.depth c.args.context (left c.segments.reader) _ c.in_ok-part.ensures.gives.0 (grind (arith, common_steps)) c.in_ok-part.ensures.gives.2 in
    rw c.skip_blanks-in-segments.ensures.left (omega (arith, shorter, no_longer (left c.parse_segment.new.reader)))

pub parse_segments-segments-preserved : goal.parse_segments-segments-preserved
parse_segments-segments-preserved g t c =
    let so_far = c.segments.invariant.so_far in
    let further = row_goes_on (segments_stand _ _ _ _) (grind (arith, common_steps)) so_far.2 c.in_ok-part.ensures.gives so_far.3 c.in_ok-push.ensures.items in
    record {
      moves = grind (arith, common_steps);
      none = λ e. absurd (true≢false (sym c.segments-test.true ∙ c.sees_segment.ensures ∙ c.segments.invariant.none e));
      so_far = (left c.parse_segment.new.reader, c.bytes_left-rest-in-segments.ensures.value, c.skip_blanks-in-segments.ensures.left, further);
    }

pub parse_segments-returns-clause-gives : goal.parse_segments-returns-clause-gives
parse_segments-returns-clause-gives g t c =
    let so_far = c.segments.invariant.so_far in
    let row = so_far.3 in
    (row.items, so_far.0, row.are, so_far.1, so_far.2, row_done (segments_stand _ _ _ _) row (grind (arith, common_steps)) refl, row.grown c.args.builder.now (grows_none c.args.builder.now))

pub parse_selector-returns-then-sees-clause-gives : goal.parse_selector-returns-then-sees-clause-gives
parse_selector-returns-then-sees-clause-gives g t c =
    let read = c.in_ok-test.ensures.gives in
    (filter read.0, c.in_ok-filter.ensures.made read.0 read.1, rw (at_mark (numbers_view c.args.self.now.numbers) (signatures g.F.Functions.set c.args.self.now) (deeper g.F.Functions.set c.args.self.now) (left c.args.reader.now) (sym c.sees.ensures ∙ c.if-sees.true), read.2) refl, grows_kept read.3 c.filter.ensures.keeps)

pub parse_selectors-selectors-init : goal.parse_selectors-selectors-init
parse_selectors-selectors-init g t c =
    let read = c.in_ok-first.ensures.gives in
    record {
      moves = grind (arith, common_steps);
      so_far = begins_row (selectors_stand _ _ _) read.0 (omega arith) c.new-parts.ensures.items c.in_ok-push.ensures.items read.1 (λ before grown. grows_then grown read.3) (rw (← c.skip_blanks.ensures.left, read.2) refl);
    }

pub parse_selectors-returns-in_err-part-clause-gives : goal.parse_selectors-returns-in_err-part-clause-gives
parse_selectors-returns-in_err-part-clause-gives g t c =
    let p = err_from_is_err_and c.from_residual-in_err-part.result c.from_residual-in_err-part.ensures.1 in
    rw (p.1, p.2) (row_fails (selectors_stand _ _ _) {ds = left c.skip_blanks-in-selectors.new.self} (grind (arith, common_steps)) (grind (arith, common_steps)) c.selectors.invariant.so_far c.in_err-part.field-0.0 c.in_err-part.ensures.gives)

pub parse_selectors-selectors-smaller : goal.parse_selectors-selectors-smaller
parse_selectors-selectors-smaller g t c =
    row_shorter (selectors_stand (numbers_view c.args.self.now.numbers) (signatures g.F.Functions.set c.args.self.now) c.args.self.now.depth) {ds = left c.skip_blanks-in-selectors.new.self} (grind (arith, common_steps)) (grind (arith, common_steps)) c.in_ok-part.ensures.gives

pub parse_selectors-selectors-preserved : goal.parse_selectors-selectors-preserved
parse_selectors-selectors-preserved g t c = record {
  moves = grind (arith, common_steps);
  so_far = row_goes_on (selectors_stand _ _ _) {ds = left c.skip_blanks-in-selectors.new.self} (grind (arith, common_steps)) (grind (arith, common_steps)) c.in_ok-part.ensures.gives c.selectors.invariant.so_far c.in_ok-push-2.ensures.items;
}

pub parse_selectors-returns-clause-gives : goal.parse_selectors-returns-clause-gives
parse_selectors-returns-clause-gives g t c =
    let so_far = c.selectors.invariant.so_far in
    (so_far.items, some_parts c.selectors.builder (λ parts. AreSelectorsOf c.selectors.builder parts (selector_list so_far.items)) _ _ so_far.some (λ part others are. are) so_far.are, row_done (selectors_stand _ _ _) so_far (grind (arith, common_steps)) refl, so_far.grown c.args.builder.now (grows_none c.args.builder.now))

pub parse_and_from-returns-clause-made : goal.parse_and_from-returns-clause-made
parse_and_from-returns-clause-made g t c =
    let made = parse_and_from-returns-clause-gives g t c c.requires.0 c.requires.1 in
    (made.0, made.1)

pub parse_basic_from-returns-clause-made : goal.parse_basic_from-returns-clause-made
parse_basic_from-returns-clause-made g t c =
    let made = parse_basic_from-returns-clause-gives g t c c.requires.0 c.requires.1 in
    (made.0, made.1)

pub parse_operand-returns-in_ok-literal-in_default-clause-gives : goal.parse_operand-returns-in_ok-literal-in_default-clause-gives
parse_operand-returns-in_ok-literal-in_default-clause-gives g t c =
    let read = number_reads (numbers_view c.args.self.now.numbers) (signatures g.F.Functions.set c.args.self.now) (deeper g.F.Functions.set c.args.self.now) (left c.args.reader.now) _ _ (elim c.in_default.branch [
      | parse_operand-in_default-via-in-Some+in_default+then-this-lt97 w ↦ grind (arith, common_steps)
      | parse_operand-in_default-via-in-Some+in_default+else-this-lt97+else-this-lt123 w ↦ grind (arith, common_steps)
      | parse_operand-in_default-via-in_default w ↦ grind (arith, common_steps)
    ]) c.in_ok-number-in_default.ensures.gives in
    (literal (literal_view c.in_ok-number-in_default.number), (c.in_ok-literal-in_default.ensures.made, tt), rw c.skip_blanks.ensures.left read, grows_leaf c.literal.ensures.keeps)
