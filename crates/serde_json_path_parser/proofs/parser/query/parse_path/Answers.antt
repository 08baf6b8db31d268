use Rattle.serde_json_path_parser.proofs.Words.{common_steps, numbers_view, err_from_is_err_and, parts_in, query, root, AreCalled, Fits, read_path, segment_list, left, calls_in, ◌≡◌, ◌∙◌, true≢false, Ok, sym, subst, refl, arith}
use Rattle.serde_json_path_parser.proofs.Grammar.Paths.{all_read, none_read, path_outcome}
use Rattle.serde_json_path_syntax.proofs.Names.Once.{called_once, each_fits, fits_once}
use Rattle.serde_json_path_parser.proofs.Steps.{all_declared, finishes, none_for_none}
use Rattle.serde_json_path_parser.proofs.parser.query.parse_path.Goals as goal

pub returns-then-is_empty-clause-gives : goal.returns-then-is_empty-clause-gives
unfolding read_path
returns-then-is_empty-clause-gives g c = grind (arith, common_steps, all_read, none_for_none)

pub returns-in_err-part-clause-needs_no_memory : goal.returns-in_err-part-clause-needs_no_memory
returns-in_err-part-clause-needs_no_memory g c =
    let p = err_from_is_err_and c.from_residual-in_err-part.result c.from_residual-in_err-part.ensures.1 in
    let gives = c.in_ok-parts.ensures.gives in
    rw p.1 (λ closed.
    let none = none_read (numbers_view c.args.numbers) (g.F.Functions.set c.args.functions.now).signature (left c.args.reader.now) (left c.take_char.new.self) gives.1 c.take_char.result gives.0 (sym c.sees.ensures ∙ c.if-not-sees.false) c.take_char.ensures.value gives.5 closed in
    let empty = c.is_empty.ensures.1 ((none_for_none c.parse_segments.new.builder (parts_in c.in_ok-parts.parts) gives.0 gives.2).1 none) in
    absurd (true≢false (sym empty ∙ c.if-is_empty.false)))

pub finish-requires : goal.finish-requires
unfolding read_path
finish-requires g c =
    let F = g.F.Functions.set c.args.functions.now in
    let rule = numbers_view c.args.numbers in
    let gives = c.in_ok-parts.ensures.gives in
    let ended = all_read gives.1 c.in_ok-parts.rest gives.3 (omega (arith, c.if-rest-ne0.false)) in
    let whole : read_path rule F.signature (left c.args.reader.now) ≡ Ok (segment_list gives.0) = rw (sym c.sees.ensures ∙ c.if-not-sees.false, c.take_char.ensures.value, gives.5, ended) refl in
    let sound = (path_outcome rule F.signature (left c.args.reader.now)).reads (segment_list gives.0) whole in
    (query root (segment_list gives.0), c.in_ok-part.ensures.made (segment_list gives.0) gives.2, finishes F.signature c.new-builder.result c.parse_segments.new.builder c.query.new.self (segment_list gives.0) c.new-builder.ensures.no_calls gives.6 c.query.ensures.keeps sound.1.0.0 sound.1.0.1)

pub returns-clause-gives : goal.returns-clause-gives
unfolding read_path
returns-clause-gives g c =
    let F = g.F.Functions.set c.args.functions.now in
    let rule = numbers_view c.args.numbers in
    let gives = c.in_ok-parts.ensures.gives in
    let ended = all_read gives.1 c.in_ok-parts.rest gives.3 (omega (arith, c.if-rest-ne0.false)) in
    let whole : read_path rule F.signature (left c.args.reader.now) ≡ Ok (segment_list gives.0) = rw (sym c.sees.ensures ∙ c.if-not-sees.false, c.take_char.ensures.value, gives.5, ended) refl in
    let q = query root (segment_list gives.0) in
    let sound = (path_outcome rule F.signature (left c.args.reader.now)).reads (segment_list gives.0) whole in
    let finished = finishes F.signature c.new-builder.result c.parse_segments.new.builder c.query.new.self (segment_list gives.0) c.new-builder.ensures.no_calls gives.6 c.query.ensures.keeps sound.1.0.0 sound.1.0.1 in
    let declared = all_declared F.signature c.new-builder.result c.parse_segments.new.builder c.query.new.self (segment_list gives.0) c.new-builder.ensures.no_calls gives.6 c.query.ensures.keeps in (
      segment_list gives.0,
      c.with_numbers-2.ensures.tree ∙ c.finish.ensures.tree q (c.in_ok-part.ensures.made (segment_list gives.0) gives.2),
      whole,
      subst (λ used. AreCalled used q) (sym (c.with_numbers-2.ensures.used ∙ c.finish.ensures.used)) (called_once (calls_in c.query.new.self) q finished.called),
      subst (Fits F) (sym (c.with_numbers-2.ensures.used ∙ c.finish.ensures.used)) (fits_once F (calls_in c.query.new.self) (each_fits F (calls_in c.query.new.self) declared)),
      c.with_numbers-2.ensures.rule,
    )
