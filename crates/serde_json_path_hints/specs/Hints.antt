-- What was probably meant where a path is refused: the first slip of the refusal's kind that the text on either side of its
-- place shows. The slips are the tables of `src/slips/`.
use Rattle.std.specs.Prelude.{ℕ, ◌-◌, ◌&&◌, Bool, List, [], ◌++◌, Option, length, take, drop, find, option_map}
use Rattle.std.specs.List.{prefix_len, suffix_len}
use Rattle.std.specs.Char.{is_ascii_whitespace}
use Rattle.serde_json_path_functions.specs.Functions.{Numbers, whole_numbers, all_numbers}
use Rattle.serde_json_path_parser.specs.declared.error.ParseErrorKind.{ParseErrorKind}
use Rattle.serde_json_path_parser.specs.declared.error.ParseErrorKind.TheVariants.{ExpectedRoot, BadMemberName, TextAfterPath, ExpectedSelector, ExpectedClosingBracket, IntegerOutOfRange, ExpectedClosingParenthesis, ExpectedComparisonOperator, ExpectedExpression, NonSingularQuery, NestedTooDeep, UndefinedFunction, WrongNumberOfArguments, WrongArgumentType, WrongReturnType, ExpectedEndingQuote, BadEscape, ControlCharacter, ExponentOrEmptyFraction, FractionTooLong, NumberOutOfRange, NoMemory}
use Rattle.serde_json_path_hints.specs.declared.condition.Condition.{Condition}
use Rattle.serde_json_path_hints.specs.declared.slips.calls.TheConstants.{FUNCTION, NUMBER_OF_ARGUMENTS, ARGUMENT, RESULT}
use Rattle.serde_json_path_hints.specs.declared.slips.expressions.TheConstants.{EXPRESSION, COMPARED_QUERY, NESTING}
use Rattle.serde_json_path_hints.specs.declared.slips.operands.TheConstants.{CLOSING_PARENTHESIS, AFTER_LITERAL, WORD_AFTER_OPERAND, AFTER_OPERAND}
use Rattle.serde_json_path_hints.specs.declared.slips.paths.TheConstants.{ROOT, MEMBER_NAME, AFTER_PATH}
use Rattle.serde_json_path_hints.specs.declared.slips.selectors.TheConstants.{SELECTOR, CLOSING_BRACKET, INTEGER}
use Rattle.serde_json_path_hints.specs.declared.slips.texts.TheConstants.{ENDING_QUOTE, ESCAPE, CONTROL_CHARACTER, DIGIT, DOUBLE, EXPONENT, FRACTION, NUMBER}
use Rattle.serde_json_path_hints.specs.Conditions.{Text, Texts, is_met}

-- the text before the place that has this number, from 1, without the blanks at its end
abbrev pub before_place : ℕ → List ℕ → List ℕ
before_place position text =
    let before = take (position - 1) text in
    take (length before - suffix_len is_ascii_whitespace before) before

-- the text from that place on, without the blanks at its start
abbrev pub ahead_of_place : ℕ → List ℕ → List ℕ
ahead_of_place position text =
    let ahead = drop (position - 1) text in
    drop (prefix_len is_ascii_whitespace ahead) ahead

-- a slip: what the text before the place is like, what the text from the place on is like, and what was probably meant
abbrev pub Slip : Type 0
Slip = Condition Texts × Condition Texts × Text

-- the slip is there: the text on either side of the place is as it says
abbrev pub is_there : List ℕ → List ℕ → Slip → Bool
is_there before ahead slip = is_met slip.0 before && is_met slip.1 ahead

-- the hint of the first slip that is there
abbrev pub first_hint : List ℕ → List ℕ → List Slip → Option (List ℕ)
first_hint before ahead slips = option_map (λ s. s.2.now) (find (is_there before ahead) slips)

-- the slips of a kind of refusal by a rule for numbers: its own, and then those that it shares with other kinds
abbrev pub slips_of : Numbers → ParseErrorKind → List Slip
slips_of rule ExpectedRoot = ROOT.now
slips_of rule BadMemberName = MEMBER_NAME.now
slips_of rule TextAfterPath = AFTER_PATH.now
slips_of rule ExpectedSelector = SELECTOR.now
slips_of rule ExpectedClosingBracket = CLOSING_BRACKET.now ++ (WORD_AFTER_OPERAND.now ++ AFTER_OPERAND.now)
slips_of rule IntegerOutOfRange = INTEGER.now
slips_of rule ExpectedClosingParenthesis = CLOSING_PARENTHESIS.now ++ (WORD_AFTER_OPERAND.now ++ AFTER_OPERAND.now)
slips_of rule ExpectedComparisonOperator = AFTER_LITERAL.now ++ (WORD_AFTER_OPERAND.now ++ AFTER_OPERAND.now)
slips_of rule ExpectedExpression = EXPRESSION.now
slips_of rule NonSingularQuery = COMPARED_QUERY.now
slips_of rule NestedTooDeep = NESTING.now
slips_of rule UndefinedFunction = FUNCTION.now
slips_of rule WrongNumberOfArguments = NUMBER_OF_ARGUMENTS.now
slips_of rule WrongArgumentType = ARGUMENT.now
slips_of rule WrongReturnType = RESULT.now
slips_of rule ExpectedEndingQuote = ENDING_QUOTE.now
slips_of rule BadEscape = ESCAPE.now
slips_of rule ControlCharacter = CONTROL_CHARACTER.now
slips_of whole_numbers ExponentOrEmptyFraction = EXPONENT.now
slips_of all_numbers ExponentOrEmptyFraction = DIGIT.now
slips_of rule FractionTooLong = FRACTION.now
slips_of whole_numbers NumberOutOfRange = NUMBER.now
slips_of all_numbers NumberOutOfRange = DOUBLE.now
slips_of rule NoMemory = []

-- What was probably meant where a text is refused by that rule with this kind, at the place of this number: the hint of the
-- first slip of the kind that is there.
abbrev pub hint_of : Numbers → ParseErrorKind → ℕ → List ℕ → Option (List ℕ)
hint_of rule kind position text =
    first_hint (before_place position text) (ahead_of_place position text) (slips_of rule kind)
