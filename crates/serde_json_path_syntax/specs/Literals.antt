-- Literals and comparison operators as the definitions see them.
use Rattle.std.specs.Prelude.{◌%◌, ◌==◌, if◌then◌else◌, Option, None, Some, ℤ, string_bytes, unsigned_abs}
use Rattle.serde_json_path_numbers.specs.Views.{decimal_view}
use Rattle.serde_json_path_syntax.specs.Tree as tree
use Rattle.serde_json_path_syntax.specs.Tree.{Literal, Operator, equal, not_equal, less, less_or_equal, greater, greater_or_equal}
use Rattle.serde_json_path_syntax.specs.declared.literal.NumberLiteral.{NumberLiteral}
use Rattle.serde_json_path_syntax.specs.declared.literal.Literal as declared
use Rattle.serde_json_path_syntax.specs.declared.literal.Literal.TheVariants.{String, Number, Decimal, Bool, Null}
use Rattle.serde_json_path_syntax.specs.declared.operator.ComparisonOperator.{ComparisonOperator}
use Rattle.serde_json_path_syntax.specs.declared.operator.ComparisonOperator.TheVariants.{EqualTo, NotEqualTo, LessThan, LessThanEqualTo, GreaterThan, GreaterThanEqualTo}

-- the billionths of a number literal
abbrev pub number_amount : NumberLiteral → ℤ
number_amount literal = literal.billionths

-- billionths that are a number without a fraction
abbrev pub whole_amount : ℤ → Option ℤ
whole_amount b = if unsigned_abs b % 1000000000 == 0 then Some b else None

abbrev pub literal_view : declared.Literal → Literal
literal_view (String text) = tree.text (string_bytes text)
literal_view (Number literal) = tree.number (number_amount literal)
literal_view (Decimal d) = tree.decimal (decimal_view d)
literal_view (Bool b) = tree.truth b
literal_view Null = tree.null

abbrev pub operator_view : ComparisonOperator → Operator
operator_view EqualTo = equal
operator_view NotEqualTo = not_equal
operator_view LessThan = less
operator_view LessThanEqualTo = less_or_equal
operator_view GreaterThan = greater
operator_view GreaterThanEqualTo = greater_or_equal
