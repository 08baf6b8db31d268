-- What contracts see of an exact number and of a decimal.
use Rattle.std.specs.Float.Ieee.{Float}
use Rattle.serde_json_path_numbers.specs.Inside.{held_number}
use Rattle.serde_json_path_numbers.specs.Decimals.{Decimal, decimal_of}
use Rattle.serde_json_path_numbers.specs.declared.decimal.Decimal as declared
use Rattle.serde_json_path_numbers.specs.Numerals.{Amount, billionths, decimal}
use Rattle.serde_json_path_numbers.specs.declared.numeral.Amount as declared_amount
use Rattle.serde_json_path_numbers.specs.declared.numeral.Amount.TheVariants.{Billionths}
use Rattle.serde_json_path_numbers.specs.declared.numeral.Amount.TheVariants as declared_amount_variants
use Rattle.serde_json_path_numbers.specs.declared.exact_number.ExactNumber.{ExactNumber}

-- its value
abbrev pub exact_view : ExactNumber → Float
exact_view number = held_number number.form

-- what a decimal of the code is
abbrev pub decimal_view : declared.Decimal → Decimal
decimal_view d = decimal_of d.negative d.digits d.exponent

-- what a literal is held as
abbrev pub amount_view : declared_amount.Amount → Amount
amount_view (Billionths b) = billionths b
amount_view (declared_amount_variants.Decimal d) = decimal (decimal_view d)
