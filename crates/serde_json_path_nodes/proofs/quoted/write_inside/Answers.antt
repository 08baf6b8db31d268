use Rattle.serde_json_path_nodes.proofs.Words.{◌≡◌, ◌++◌, [], rules, subst, sym, ap, ◌∙◌, append-nil, encode_utf8, HasWritten, flat_map, chars, IsUtf8, has_written_append, has_written_of_eq, nil_from_length, chars-nil, IsUtf8-drop, in_quotes}
use Rattle.serde_json_path_nodes.proofs.Quotes.{front_written, char_written}
use Rattle.serde_json_path_nodes.proofs.quoted.write_inside.Goals as goal

pub returns-in_default : goal.returns-in_default
returns-in_default g c = λ plain done.
    let before = c.stretches.invariant in
    let front = c.split_at.result.0.now in
    let others = c.split_at.result.1.now in
    let all = front_written c.stretches.rest.now front others before.1 _ c.plain_len.result
    before.0 c.plain_len.ensures.boundary c.plain_len.ensures.plain c.split_at.ensures.front c.split_at.ensures.back before.2 in
    let empty : others ≡ [] = sym c.chars-others.ensures.rest ∙ nil_from_length _ c.in_default.ensures.steps.0.0 in
    has_written_of_eq _ _ _ _ _
    (sym (append-nil (before.1 ++ front)) ∙ ap (λ cs. (before.1 ++ front) ++ flat_map in_quotes cs) (sym (ap chars empty ∙ chars-nil)) ∙ all)
    (has_written_append _ _ _ _ front _ (before.3 plain) (search rules))

pub stretches-preserved : goal.stretches-preserved
stretches-preserved g c =
    let before = c.stretches.invariant in
    let front = c.split_at.result.0.now in
    let others = c.split_at.result.1.now in
    let rest = c.as_str-rest.result.now in
    let all = front_written c.stretches.rest.now front others before.1 _ c.plain_len.result
    before.0 c.plain_len.ensures.boundary c.plain_len.ensures.plain c.split_at.ensures.front c.split_at.ensures.back before.2 in
    let utf8 : IsUtf8 others = subst IsUtf8 (sym c.split_at.ensures.back) (IsUtf8-drop c.stretches.rest.now c.plain_len.result before.0 c.plain_len.ensures.boundary) in
    let step : others ≡ encode_utf8 c.in-Some.c ++ rest =
    sym c.chars-others.ensures.rest ∙ c.in-Some.ensures.steps.0 ∙ ap (λ bs. encode_utf8 c.in-Some.c ++ bs) (sym c.as_str-rest.ensures) in (
      c.as_str-rest.utf8,
      (before.1 ++ front) ++ in_quotes c.in-Some.c,
      char_written others rest (before.1 ++ front) _ c.in-Some.c utf8 step all,
      λ plain.
          let first : HasWritten g.W.Write.write_str_gives c.args.f.now (before.1 ++ front) c.write_plain.new.f = has_written_append _ _ _ _ front _ (before.3 plain) (search rules) in
          has_written_append _ _ _ _ (in_quotes c.in-Some.c) _ first (search rules),
    )
