use Rattle.serde_json_path_parser.proofs.Words.{string_bytes, common_steps, err_from_is_err_and, left, read_string, ◌≡◌, drop, refl, sym, ap, ◌∙◌, arith, is_ok, rules}
use Rattle.serde_json_path_parser.proofs.Grammar.Strings.{piece_consumes}
use Rattle.serde_json_path_parser.proofs.Grammar.Strings as t
use Rattle.serde_json_path_parser.proofs.parser.primitive.string.parse_string.Goals as goal

pub returns-in_err-c-clause-gives : goal.returns-in_err-c-clause-gives
returns-in_err-c-clause-gives g c =
    let p = err_from_is_err_and c.from_residual-in_err-c.result c.from_residual-in_err-c.ensures.1 in
    rw (p.1, p.2) (t.fails c.args.quote c.requires c.in_err-c.field-0.0 (string_bytes c.pieces.text) (left c.pieces.reader) (read_string c.args.quote (left c.args.reader.now)) (sym c.sees_inside.ensures ∙ c.pieces-test.true) c.in_err-c.ensures.gives c.pieces.invariant.so_far)

pub pieces-smaller : goal.pieces-smaller
pieces-smaller g c =
    (piece_consumes c.args.quote c.requires).shorter (left c.pieces.reader) _ _ (sym c.sees_inside.ensures ∙ c.pieces-test.true) c.in_ok-c.ensures.gives

pub pieces-preserved : goal.pieces-preserved
pieces-preserved g c =
    record {
      moves = grind (arith, common_steps);
      so_far = rw c.in_ok-push.ensures.bytes (t.goes_on c.args.quote c.requires (string_bytes c.pieces.text) c.in_ok-c.c (left c.pieces.reader) (left c.parse_piece.new.reader) (read_string c.args.quote (left c.args.reader.now)) (sym c.sees_inside.ensures ∙ c.pieces-test.true) c.in_ok-c.ensures.gives c.pieces.invariant.so_far);
    }

pub returns-then-not-sees-clause-gives : goal.returns-then-not-sees-clause-gives
returns-then-not-sees-clause-gives g c =
    let d = t.is_done c.args.quote c.requires (string_bytes c.pieces.text) (left c.pieces.reader) (read_string c.args.quote (left c.args.reader.now)) (sym c.sees_inside.ensures ∙ c.pieces-test.false) c.pieces.invariant.so_far in
    rw c.refusal.ensures.value (d ∙ rw (sym c.sees.ensures ∙ c.if-not-sees.true) refl)

pub returns-clause-gives : goal.returns-clause-gives
returns-clause-gives g c =
    let d = t.is_done c.args.quote c.requires (string_bytes c.pieces.text) (left c.pieces.reader) (read_string c.args.quote (left c.args.reader.now)) (sym c.sees_inside.ensures ∙ c.pieces-test.false) c.pieces.invariant.so_far in
    let v : drop 1 (left c.pieces.reader) ≡ left c.take_char.new.self = ap (drop 1) c.take_char.ensures.value in
    d ∙ rw (sym c.sees.ensures ∙ c.if-not-sees.false, v) refl

pub pieces-preserved-then-sees_stretch : goal.pieces-preserved-then-sees_stretch
pieces-preserved-then-sees_stretch g c = record {
  moves = grind (arith, common_steps);
  so_far = t.goes_on_far c.args.quote c.requires (string_bytes c.pieces.text) (left c.pieces.reader) _ _ _ (is_ok c.take_stretch.result) (search rules) c.take_stretch.ensures.taken c.pieces.invariant.so_far;
}
