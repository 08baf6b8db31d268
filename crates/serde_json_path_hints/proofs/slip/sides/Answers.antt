-- The place is the end of the text where the position is past it, and a text that is cut there is cut at the position.
use Rattle.std.proofs.Common.{◌≡◌, ℕ, ◌-◌, min, List, length, take, drop, ap, ◌∙◌}
use Rattle.std.specs.List.{prefix_len, suffix_len}
use Rattle.std.specs.Char.{is_ascii_whitespace}
use Rattle.std.proofs.lemmas.List.{take_min, drop_min}
use Rattle.std.proofs.lemmas.Str.Ascii.{trim_ascii_end_is, trim_ascii_start_is}
use Rattle.serde_json_path_hints.proofs.slip.sides.Goals as goal

place_is : (place back position : ℕ) (text : List ℕ) → place ≡ min back (length text) → back ≡ position - 1
    → place ≡ min (position - 1) (length text)
place_is place back position text at_back is_back = at_back ∙ ap (λ n. min n (length text)) is_back

pub returns-clause-before : goal.returns-clause-before
returns-clause-before c =
    let text = c.args.text.now in
    let place = place_is _ _ c.args.position text c.min-place.ensures c.saturating_sub.ensures in
    let cut : c.split_at.result.0.now ≡ take (c.args.position - 1) text =
    c.split_at.ensures.front ∙ ap (λ n. take n text) place ∙ take_min _ text in
    trim_ascii_end_is _ _ c.trim_ascii_end.ensures.value
    ∙ ap (λ s. take (length s - suffix_len is_ascii_whitespace s) s) cut

pub returns-clause-ahead : goal.returns-clause-ahead
returns-clause-ahead c =
    let text = c.args.text.now in
    let place = place_is _ _ c.args.position text c.min-place.ensures c.saturating_sub.ensures in
    let cut : c.split_at.result.1.now ≡ drop (c.args.position - 1) text =
    c.split_at.ensures.back ∙ ap (λ n. drop n text) place ∙ drop_min _ text in
    trim_ascii_start_is _ _ c.trim_ascii_start.ensures.value
    ∙ ap (λ s. drop (prefix_len is_ascii_whitespace s) s) cut
