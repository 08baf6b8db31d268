use Rattle.std.proofs.Common.{false, ap, sym, ◌∙◌}
use Rattle.fast_float.specs.Text.{nearest, scan}
use Rattle.std.specs.Float.{float_is_finite}
use Rattle.std.specs.Float.Ieee.{binary64}
use Rattle.jsonpath_document.proofs.Range.{in_range}
use Rattle.jsonpath_document.proofs.reading.is_in_range.Goals as goal

pub returns : goal.returns
returns c =
    let parts = c.scan.ensures.parts ∙ ap scan c.without_sign.ensures in
    c.is_finite.ensures.value ∙ ap float_is_finite (c.to_float-nearest.ensures ∙ ap (nearest binary64 false) parts) ∙ sym (in_range c.args.number.now)
