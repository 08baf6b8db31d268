-- Logical expressions and whole paths, as they are read from left to right (RFC 9535, sections
-- 2.3.5 and 2.4), on lists of characters. An operand is read before its use is known; what follows
-- it decides. Each piece takes the blanks after it, but for segments.
use Rattle.std.specs.Prelude.{ℕ, zero, suc, ◌==◌, ◌&&◌, ◌||◌, Bool, true, false, List, [], ◌∷◌, length, drop, codes, bytes_eq, Option, Some, None, Result, Ok, Err, if◌then◌else◌}
use Rattle.serde_json_path_parser.specs.Imports.{Numbers, is_singular, QueryKind, root, current, Query, query, Segments, Selector, filter, LogicalOr, no_or, or, LogicalAnd, no_and, and, Basic, paren, relation, test, Operand, literal, queried, called, Call, call, Arguments, no_arguments, argument, Argument, operand, logical_argument, text, truth, null, Operator, equal, not_equal, less, less_or_equal, greater, greater_or_equal, result_kind, deepest, Kind, of_value, Signature, code}
use Rattle.serde_json_path_parser.specs.declared.error.ParseErrorKind.TheVariants.{ExpectedRoot, ExpectedExpression, ExpectedClosingParenthesis, ExpectedComparisonOperator, NonSingularQuery, UndefinedFunction, WrongNumberOfArguments, WrongArgumentType, WrongReturnType, NestedTooDeep, TextAfterPath}
use Rattle.serde_json_path_parser.specs.declared.error.Context.TheVariants as context
use Rattle.serde_json_path_parser.specs.declared.error.Refusal.{Refusal}
use Rattle.serde_json_path_parser.specs.Lexical.{◌∈◌, is_at, are_at, begins, is_small_letter, is_function_char}
use Rattle.serde_json_path_parser.specs.Parsed.{Parsed, ◌>>=◌, refusal, front, past, past_blanks, many, refusal_at, byte_count}
use Rattle.serde_json_path_parser.specs.Strings.{read_string}
use Rattle.serde_json_path_parser.specs.Numbers.{read_number}
use Rattle.serde_json_path_parser.specs.Operands.{is_result, suits}
use Rattle.serde_json_path_parser.specs.Parsing.{read_segments, segment_list}

-- ---- words

-- the longest front of small letters, digits and `_`
abbrev pub word : List ℕ → List ℕ
word cs = front is_function_char cs

abbrev pub past_word : List ℕ → List ℕ
past_word cs = past is_function_char cs

-- a name with `(` at once after it
abbrev pub begins_call : List ℕ → Bool
begins_call cs = begins is_small_letter cs && is_at "(" (past_word cs)

-- `true`, `false` or `null`
abbrev pub read_literal_word : List ℕ → Parsed Operand
read_literal_word cs =
    if bytes_eq (word cs) (codes "true") then
    Ok (literal (truth true), past_blanks (past_word cs))
    else if bytes_eq (word cs) (codes "false") then
    Ok (literal (truth false), past_blanks (past_word cs))
    else if bytes_eq (word cs) (codes "null") then Ok (literal null, past_blanks (past_word cs))
    else Err (refusal ExpectedExpression context.LongHand cs)

-- ---- operators

-- the longest comparison operator that stands there, and what is after it
abbrev pub read_operator : List ℕ → Option (Operator × List ℕ)
read_operator cs =
    if are_at "==" cs then Some (equal, drop 2 cs)
    else if are_at "!=" cs then Some (not_equal, drop 2 cs)
    else if are_at "<=" cs then Some (less_or_equal, drop 2 cs)
    else if is_at "<" cs then Some (less, drop 1 cs)
    else if are_at ">=" cs then Some (greater_or_equal, drop 2 cs)
    else if is_at ">" cs then Some (greater, drop 1 cs)
    else None

-- a string as an operand, at its quote
unfoldable pub read_text : ℕ → List ℕ → Parsed Operand
read_text quote cs =
    read_string quote (drop 1 cs) >>= λ t. Ok (literal (text t.0), past_blanks t.1)

-- ---- what was read in a row

abbrev pub and_list : List Basic → LogicalAnd
and_list [] = no_and
and_list (b ∷ bs) = and b (and_list bs)

abbrev pub or_list : List LogicalAnd → LogicalOr
or_list [] = no_or
or_list (a ∷ more) = or a (or_list more)

-- ---- tests and arguments

-- what is tested begins with `@`, `$` or a small letter
abbrev pub begins_test : ℕ → Bool
begins_test c = c ∈ "@$" || is_small_letter c

abbrev pub ends_argument : ℕ → Bool
ends_argument c = c ∈ ",)"

-- after the last argument
abbrev pub read_end : ℕ → List Kind → List ℕ → Parsed Arguments
read_end start [] cs = Ok (no_arguments, past_blanks cs)
read_end start (kind ∷ kinds) cs = Err (refusal_at WrongNumberOfArguments context.LongHand start)

-- ---- one level deeper

-- How filters, parentheses and calls are read: the expression inside one, and a call of that name
-- after its `(`. So many bytes are left where it opens, or where the call begins.
pub record Deeper : Type 0 where
  pub expression : ℕ → List ℕ → Parsed LogicalOr
  pub call_of : ℕ → List ℕ → List ℕ → Parsed Call

module _ (rule : Numbers) (signature : List ℕ → Option Signature) (deeper : Deeper) where
  -- at `?`
  abbrev pub read_filter : List ℕ → Parsed Selector
  read_filter cs =
      deeper.expression (byte_count cs) (past_blanks (drop 1 cs)) >>= λ e. Ok (filter e.0, e.1)

  -- ---- operands

  -- at `@` or `$`
  abbrev pub read_query : QueryKind → List ℕ → Parsed Query
  read_query kind cs = read_segments read_filter context.LongHand (drop 1 cs) >>= λ ss.
      Ok (query kind (segment_list ss.0), past_blanks ss.1)

  -- at a name with `(` after it
  unfoldable pub read_named_call : List ℕ → Parsed Call
  read_named_call cs = deeper.call_of (byte_count cs) (word cs) (drop 1 (past_word cs))

  -- at a small letter
  abbrev pub read_named : List ℕ → Parsed Operand
  read_named cs =
      if begins_call cs then (read_named_call cs >>= λ c. Ok (called c.0, c.1))
      else read_literal_word cs

  abbrev pub read_operand : List ℕ → Parsed Operand
  read_operand cs =
      if is_at "'" cs then read_text (code "'") cs
      else if is_at "\"" cs then read_text (code "\"") cs
      else if is_at "@" cs then (read_query current cs >>= λ q. Ok (queried q.0, q.1))
      else if is_at "$" cs then (read_query root cs >>= λ q. Ok (queried q.0, q.1))
      else if begins_call cs then (read_named_call cs >>= λ c. Ok (called c.0, c.1))
      else if begins is_small_letter cs then read_literal_word cs
      else (read_number rule cs >>= λ l. Ok (literal l.0, past_blanks l.1))

  -- ---- comparisons and tests; start bytes are left where the operand begins

  abbrev pub read_comparable : ℕ → Operand → List ℕ → Parsed Operand
  read_comparable start (literal l) cs = Ok (literal l, cs)
  read_comparable start (queried q) cs =
      if is_singular q then Ok (queried q, cs)
      else Err (refusal_at NonSingularQuery context.LongHand start)
  read_comparable start (called c) cs =
      if is_result of_value (result_kind signature c) then Ok (called c, cs)
      else Err (refusal_at WrongReturnType context.LongHand start)

  -- no operator stands after the operand
  abbrev pub read_test : Bool → ℕ → Operand → List ℕ → Parsed Basic
  read_test negated start (literal l) cs =
      Err (refusal ExpectedComparisonOperator context.LongHand cs)
  read_test negated start (queried q) cs = Ok (test negated (queried q), cs)
  read_test negated start (called c) cs =
      if is_result of_value (result_kind signature c) then
      Err (refusal_at WrongReturnType context.LongHand start)
      else Ok (test negated (called c), cs)

  abbrev pub read_right_side : List ℕ → Parsed Operand
  read_right_side cs = read_operand cs >>= λ o. read_comparable (byte_count cs) o.0 o.1

  abbrev pub read_relation : ℕ → Operand → Option (Operator × List ℕ) → List ℕ → Parsed Basic
  read_relation start o None cs = read_test false start o cs
  read_relation start o (Some op) cs = do
    a ← read_comparable start o (past_blanks op.1)
    b ← read_right_side a.1
    Ok (relation a.0 op.0 b.0, b.1)

  -- after an operand that begins at start
  abbrev pub read_basic_from : ℕ → Operand → List ℕ → Parsed Basic
  read_basic_from start o cs = read_relation start o (read_operator cs) cs

  -- ---- parentheses and `!`

  -- at `(`
  abbrev pub read_paren : List ℕ → Parsed LogicalOr
  read_paren cs = deeper.expression (byte_count cs) (past_blanks (drop 1 cs)) >>= λ e.
      if is_at ")" e.1 then Ok (e.0, past_blanks (drop 1 e.1))
      else Err (refusal ExpectedClosingParenthesis context.LongHand e.1)

  -- after an operand that begins at start
  abbrev pub read_negated_test : ℕ → Operand → List ℕ → Parsed Basic
  read_negated_test start (literal l) cs =
      Err (refusal_at ExpectedExpression context.LongHand start)
  read_negated_test start o cs = read_test true start o cs

  -- after `!` and blanks
  abbrev pub read_negated : List ℕ → Parsed Basic
  read_negated cs =
      if is_at "(" cs then (read_paren cs >>= λ e. Ok (paren true e.0, e.1))
      else if begins begins_test cs then
      (read_operand cs >>= λ o. read_negated_test (byte_count cs) o.0 o.1)
      else Err (refusal ExpectedExpression context.LongHand cs)

  -- ---- logical expressions

  abbrev pub read_basic : List ℕ → Parsed Basic
  read_basic cs =
      if is_at "(" cs then (read_paren cs >>= λ e. Ok (paren false e.0, e.1))
      else if is_at "!" cs then read_negated (past_blanks (drop 1 cs))
      else (read_operand cs >>= λ o. read_basic_from (byte_count cs) o.0 o.1)

  -- at `&&`
  abbrev pub read_next_basic : List ℕ → Parsed Basic
  read_next_basic cs = read_basic (past_blanks (drop 2 cs))

  -- after a first part
  abbrev pub read_and_from : Basic → List ℕ → Parsed LogicalAnd
  read_and_from b cs =
      many (are_at "&&") read_next_basic cs >>= λ bs. Ok (and_list (b ∷ bs.0), bs.1)

  abbrev pub read_and : List ℕ → Parsed LogicalAnd
  read_and cs = read_basic cs >>= λ b. read_and_from b.0 b.1

  -- at `||`
  abbrev pub read_next_and : List ℕ → Parsed LogicalAnd
  read_next_and cs = read_and (past_blanks (drop 2 cs))

  abbrev pub read_or_from : LogicalAnd → List ℕ → Parsed LogicalOr
  read_or_from a cs =
      many (are_at "||") read_next_and cs >>= λ more. Ok (or_list (a ∷ more.0), more.1)

  abbrev pub read_or : List ℕ → Parsed LogicalOr
  read_or cs = read_and cs >>= λ a. read_or_from a.0 a.1

  -- ---- calls

  -- what begins with an operand that does not stand alone
  abbrev pub read_logical_from : ℕ → Operand → List ℕ → Parsed Argument
  read_logical_from start o cs = do
    b ← read_basic_from start o cs
    a ← read_and_from b.0 b.1
    e ← read_or_from a.0 a.1
    Ok (logical_argument e.0, e.1)

  unfoldable pub read_argument : List ℕ → Parsed Argument
  read_argument cs =
      if begins (λ c. c ∈ "(!") cs then (read_or cs >>= λ e. Ok (logical_argument e.0, e.1))
      else (read_operand cs >>= λ o.
      if begins ends_argument o.1 then Ok (operand o.0, o.1)
      else read_logical_from (byte_count cs) o.0 o.1)

  -- one argument or more, of a call that begins at start, for parameters of these types
  abbrev pub read_some_arguments : ℕ → List Kind → List ℕ → Parsed Arguments
  read_some_arguments start [] cs = read_argument cs >>= λ a.
      if begins ends_argument a.1 then
      Err (refusal_at WrongNumberOfArguments context.LongHand start)
      else Err (refusal ExpectedClosingParenthesis context.LongHand a.1)
  read_some_arguments start (kind ∷ kinds) cs = read_argument cs >>= λ a.
      if begins ends_argument a.1 then
      (if suits rule signature a.0 kind then
      ((if is_at "," a.1 then read_some_arguments start kinds (past_blanks (drop 1 a.1))
      else read_end start kinds (drop 1 a.1)) >>= λ more.
      Ok (argument a.0 more.0, more.1))
      else Err (refusal_at WrongArgumentType context.LongHand (byte_count cs)))
      else Err (refusal ExpectedClosingParenthesis context.LongHand a.1)

  -- after `(` and blanks
  abbrev pub read_arguments : ℕ → List Kind → List ℕ → Parsed Arguments
  read_arguments start kinds cs =
      if is_at ")" cs then read_end start kinds (drop 1 cs) else read_some_arguments start kinds cs

  -- a call of a name that has this signature
  abbrev pub read_call : ℕ → List ℕ → Option Signature → List ℕ → Parsed Call
  read_call start name None cs = Err (refusal_at UndefinedFunction context.LongHand start)
  read_call start name (Some s) cs =
      read_arguments start s.params (past_blanks cs) >>= λ args. Ok (call name args.0, args.1)

module _ (rule : Numbers) (signature : List ℕ → Option Signature) where
  -- so many filters, parentheses and calls may stand within each other
  unfoldable pub level : ℕ → Deeper
  level zero = record {
    expression = λ start cs. Err (refusal_at NestedTooDeep context.LongHand start);
    call_of = λ start name cs. Err (refusal_at NestedTooDeep context.LongHand start);
  }
  level (suc n) = record {
    expression = λ start cs. read_or rule signature (level n) cs;
    call_of = λ start name cs. read_call rule signature (level n) start name (signature name) cs;
  }

  -- ---- the whole text

  unfoldable pub read_path : List ℕ → Result Segments Refusal
  read_path cs =
      if is_at "$" cs then
      (read_segments (read_filter rule signature (level deepest)) context.Path (drop 1 cs) >>= λ ss.
      if length ss.1 == 0 then Ok (segment_list ss.0)
      else Err (refusal TextAfterPath context.Path ss.1))
      else Err (refusal ExpectedRoot context.Path cs)
