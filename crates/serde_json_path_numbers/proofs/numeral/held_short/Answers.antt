use Rattle.serde_json_path_numbers.proofs.Words.{ap, sym, ◌∙◌, to_z-of_z, Some, option_or, decimal_of, amount_view}
use Rattle.std.specs.Option.{option_map}
use Rattle.serde_json_path_numbers.specs.Numerals.{decimal}
use Rattle.serde_json_path_numbers.proofs.Numerals.{finite_decimal}
use Rattle.serde_json_path_numbers.proofs.numeral.held_short.Goals as goal

pub returns-in-Some : goal.returns-in-Some
returns-in-Some c =
    let other = Some (decimal (decimal_of c.args.negative c.args.digits c.args.exponent)) in
    let alike = rw (to_z-of_z c.ranges.exponent) at c.short_billionths.ensures in
    sym (alike c.args.negative other ∙ c.held.ensures other ∙ ap (λ o. option_or (option_map amount_view o) other) c.in-Some.is)

pub invariant_of-result : goal.invariant_of-result
invariant_of-result c = record { finite = rw (to_z-of_z c.ranges.exponent) (finite_decimal c.args.negative c.args.size c.args.digits c.args.exponent c.well_formed.1.0.1 c.requires.finite c.requires.reads) }
