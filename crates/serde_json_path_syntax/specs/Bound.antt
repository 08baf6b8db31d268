-- A query in which texts stand for others. Only the texts of literals do (RFC 9535, section 2.3.5.1): names of members stay.
use Rattle.std.specs.Prelude.{ℕ, List, [], ◌∷◌, bytes_eq, if◌then◌else◌}
use Rattle.serde_json_path_syntax.specs.Tree.{Query, query, Segments, no_segments, segment, Segment, dot_name, dot_wildcard, long_hand, Selectors, no_selectors, selector, Selector, name, wildcard, index, slice, filter, LogicalOr, no_or, or, LogicalAnd, no_and, and, Basic, paren, relation, test, Operand, literal, queried, called, Call, call, Arguments, no_arguments, argument, Argument, operand, logical_argument, Literal, text, number, decimal, truth, null}

-- what a text stands for: the value of the first pair that begins with it, or itself
abbrev pub value_in : List (List ℕ × List ℕ) → List ℕ → List ℕ
value_in [] t = t
value_in (binding ∷ more) t = if bytes_eq binding.0 t then binding.1 else value_in more t

-- by what texts stand for
module _ (value : List ℕ → List ℕ) where
  abbrev pub bound_literal : Literal → Literal
  bound_literal (text t) = text (value t)
  bound_literal (number n) = number n
  bound_literal (decimal d) = decimal d
  bound_literal (truth b) = truth b
  bound_literal null = null

  abbrev mutual
    pub bound : Query → Query
    bound (query kind segs) = query kind (bound_segments segs)

    pub bound_segments : Segments → Segments
    bound_segments no_segments = no_segments
    bound_segments (segment kind seg more) = segment kind (bound_segment seg) (bound_segments more)

    pub bound_segment : Segment → Segment
    bound_segment (dot_name k) = dot_name k
    bound_segment dot_wildcard = dot_wildcard
    bound_segment (long_hand sels) = long_hand (bound_selectors sels)

    pub bound_selectors : Selectors → Selectors
    bound_selectors no_selectors = no_selectors
    bound_selectors (selector sel more) = selector (bound_selector sel) (bound_selectors more)

    pub bound_selector : Selector → Selector
    bound_selector (filter e) = filter (bound_or e)
    bound_selector (name k) = name k
    bound_selector wildcard = wildcard
    bound_selector (index i) = index i
    bound_selector (slice s) = slice s

    pub bound_or : LogicalOr → LogicalOr
    bound_or no_or = no_or
    bound_or (or a more) = or (bound_and a) (bound_or more)

    pub bound_and : LogicalAnd → LogicalAnd
    bound_and no_and = no_and
    bound_and (and b more) = and (bound_basic b) (bound_and more)

    pub bound_basic : Basic → Basic
    bound_basic (paren negated e) = paren negated (bound_or e)
    bound_basic (relation a op b) = relation (bound_operand a) op (bound_operand b)
    bound_basic (test negated o) = test negated (bound_operand o)

    pub bound_operand : Operand → Operand
    bound_operand (literal l) = literal (bound_literal l)
    bound_operand (queried q) = queried (bound q)
    bound_operand (called c) = called (bound_call c)

    pub bound_call : Call → Call
    bound_call (call f args) = call f (bound_arguments args)

    pub bound_arguments : Arguments → Arguments
    bound_arguments no_arguments = no_arguments
    bound_arguments (argument a more) = argument (bound_argument a) (bound_arguments more)

    pub bound_argument : Argument → Argument
    bound_argument (operand o) = operand (bound_operand o)
    bound_argument (logical_argument e) = logical_argument (bound_or e)
