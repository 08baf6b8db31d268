-- The messages of refusals, and what contracts see of an error.
use Rattle.std.specs.Prelude.{ℕ, Bool, true, false, List, [], ◌++◌, codes}
use Rattle.serde_json_path_parser.specs.declared.error.ParseErrorKind.{ParseErrorKind}
use Rattle.serde_json_path_parser.specs.declared.error.ParseErrorKind.TheVariants.{ExpectedRoot, BadMemberName, ExpectedClosingBracket, ExpectedEndingQuote, BadEscape, ControlCharacter, ExpectedSelector, IntegerOutOfRange, ExponentOrEmptyFraction, NumberOutOfRange, ExpectedExpression, ExpectedClosingParenthesis, ExpectedComparisonOperator, NonSingularQuery, UndefinedFunction, WrongNumberOfArguments, WrongArgumentType, WrongReturnType, NestedTooDeep, TextAfterPath, NoMemory, FractionTooLong}
use Rattle.serde_json_path_parser.specs.declared.error.Context as declared
use Rattle.serde_json_path_parser.specs.declared.error.Context.TheVariants as context
use Rattle.serde_json_path_parser.specs.declared.error.ParseError.{ParseError}

-- how a message begins
abbrev pub beginning : declared.Context → List ℕ
beginning context.Path = []
beginning context.DotMemberName = codes "in dot member name, "
beginning context.LongHand = codes "in long-hand segment, "

abbrev pub in_long_hand : List ℕ → List ℕ
in_long_hand text = codes "in long-hand segment, " ++ text

-- the message of a kind; that of a member name tells where it stands
abbrev pub message : ParseErrorKind → declared.Context → List ℕ
message ExpectedRoot here = codes "expected '$'"
message BadMemberName here =
    beginning here ++ codes "must start with a letter, '_' or a non-ASCII character"
message ExpectedClosingBracket here = in_long_hand (codes "expected closing ']'")
message ExpectedEndingQuote here = in_long_hand (codes "expected an ending quote")
message BadEscape here = in_long_hand (codes "bad escape")
message ControlCharacter here = in_long_hand (codes "control character in a string")
message ExpectedSelector here = in_long_hand (codes "expected a selector")
message IntegerOutOfRange here = in_long_hand (codes "integer out of range")
message ExponentOrEmptyFraction here =
    in_long_hand (codes "exponent or empty fraction not supported")
message NumberOutOfRange here = in_long_hand (codes "number out of range")
message ExpectedExpression here = in_long_hand (codes "expected an expression")
message ExpectedClosingParenthesis here = in_long_hand (codes "expected closing ')'")
message ExpectedComparisonOperator here = in_long_hand (codes "expected a comparison operator")
message NonSingularQuery here = in_long_hand (codes "non-singular query in a comparison")
message UndefinedFunction here = in_long_hand (codes "undefined function")
message WrongNumberOfArguments here = in_long_hand (codes "wrong number of arguments")
message WrongArgumentType here = in_long_hand (codes "argument of the wrong type")
message WrongReturnType here = in_long_hand (codes "function with incorrect return type used")
message NestedTooDeep here = in_long_hand (codes "nested more than 128 deep")
message TextAfterPath here = codes "text after the path"
message NoMemory here = codes "no memory"
message FractionTooLong here = in_long_hand (codes "fraction of more than 9 digits")

abbrev pub kind_of : ParseError → ParseErrorKind
kind_of e = e.kind

-- the number of a byte, from 1
abbrev pub position_of : ParseError → ℕ
position_of e = e.position

abbrev pub message_of : ParseError → List ℕ
message_of e = message e.kind e.context

-- the error for want of memory
abbrev pub no_memory : ParseError
no_memory = record { kind = NoMemory; context = context.Path; position = 1 }

-- the kinds for which at most one byte beyond the position is looked at
abbrev pub is_seen_at_next : ParseErrorKind → Bool
is_seen_at_next ExpectedRoot = true
is_seen_at_next BadMemberName = true
is_seen_at_next ExpectedClosingBracket = true
is_seen_at_next ExpectedSelector = true
is_seen_at_next _ = false
