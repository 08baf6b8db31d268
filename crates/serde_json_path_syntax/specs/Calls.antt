-- The calls that a query makes, those in arguments too: the inner ones of a call before itself.
use Rattle.std.specs.Prelude.{ℕ, List, [], ◌∷◌, ◌++◌, map}
use Rattle.serde_json_path_syntax.specs.Lists.{IsIn}
use Rattle.serde_json_path_syntax.specs.Tree.{Query, query, Segments, no_segments, segment, Segment, dot_name, dot_wildcard, long_hand, Selectors, no_selectors, selector, Selector, name, wildcard, index, slice, filter, LogicalOr, no_or, or, LogicalAnd, no_and, and, Basic, paren, relation, test, Operand, literal, queried, called, Call, call, Arguments, no_arguments, argument, Argument, operand, logical_argument}

-- the name that is called, and the arguments
abbrev pub name_of : Call → List ℕ
name_of (call f args) = f

abbrev pub arguments_of : Call → Arguments
arguments_of (call f args) = args

abbrev mutual
  pub calls_of : Query → List Call
  calls_of (query kind segs) = calls_in_segments segs

  pub calls_in_segments : Segments → List Call
  calls_in_segments no_segments = []
  calls_in_segments (segment kind seg more) = calls_in_segment seg ++ calls_in_segments more

  pub calls_in_segment : Segment → List Call
  calls_in_segment (dot_name k) = []
  calls_in_segment dot_wildcard = []
  calls_in_segment (long_hand sels) = calls_in_selectors sels

  pub calls_in_selectors : Selectors → List Call
  calls_in_selectors no_selectors = []
  calls_in_selectors (selector sel more) = calls_in_selector sel ++ calls_in_selectors more

  pub calls_in_selector : Selector → List Call
  calls_in_selector (filter e) = calls_in_or e
  calls_in_selector (name k) = []
  calls_in_selector wildcard = []
  calls_in_selector (index i) = []
  calls_in_selector (slice s) = []

  pub calls_in_or : LogicalOr → List Call
  calls_in_or no_or = []
  calls_in_or (or a more) = calls_in_and a ++ calls_in_or more

  pub calls_in_and : LogicalAnd → List Call
  calls_in_and no_and = []
  calls_in_and (and b more) = calls_in_basic b ++ calls_in_and more

  pub calls_in_basic : Basic → List Call
  calls_in_basic (paren negated e) = calls_in_or e
  calls_in_basic (relation a op b) = calls_in_operand a ++ calls_in_operand b
  calls_in_basic (test negated o) = calls_in_operand o

  pub calls_in_operand : Operand → List Call
  calls_in_operand (literal l) = []
  calls_in_operand (queried q) = calls_of q
  calls_in_operand (called c) = calls_from c

  -- those in its arguments, and the call itself
  pub calls_from : Call → List Call
  calls_from (call f args) = calls_in_arguments args ++ call f args ∷ []

  pub calls_in_arguments : Arguments → List Call
  calls_in_arguments no_arguments = []
  calls_in_arguments (argument a more) = calls_in_argument a ++ calls_in_arguments more

  pub calls_in_argument : Argument → List Call
  calls_in_argument (operand o) = calls_in_operand o
  calls_in_argument (logical_argument e) = calls_in_or e

-- the names of some calls
abbrev pub names_of : List Call → List (List ℕ)
names_of calls = map name_of calls

-- the fact holds of each of some calls
abbrev pub OfEach : (Call → Type 0) → List Call → Type 0
OfEach Fact calls = (c : Call) → IsIn c calls → Fact c
