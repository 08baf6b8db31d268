-- The queries inside a query, those in arguments and in the filters of other queries too.
use Rattle.std.specs.Prelude.{List, [], ◌∷◌, ◌++◌, flat_map}
use Rattle.serde_json_path_syntax.specs.Branch.{Branch, a_query, a_segment, a_selector, an_or, an_and, a_basic, an_operand, a_call}
use Rattle.serde_json_path_syntax.specs.Tree.{Query, query, Segments, no_segments, segment, Segment, long_hand, Selectors, no_selectors, selector, Selector, filter, LogicalOr, no_or, or, LogicalAnd, no_and, and, Basic, paren, relation, test, Operand, literal, queried, called, Call, call, Arguments, no_arguments, argument, Argument, operand, logical_argument}

abbrev mutual
  -- the query itself, and those in its filters
  pub queries_of : Query → List Query
  queries_of (query kind segs) = query kind segs ∷ queries_in_segments segs

  pub queries_in_segments : Segments → List Query
  queries_in_segments no_segments = []
  queries_in_segments (segment kind seg more) = queries_in_segment seg ++ queries_in_segments more

  pub queries_in_segment : Segment → List Query
  queries_in_segment (long_hand sels) = queries_in_selectors sels
  queries_in_segment _ = []

  pub queries_in_selectors : Selectors → List Query
  queries_in_selectors no_selectors = []
  queries_in_selectors (selector sel more) = queries_in_selector sel ++ queries_in_selectors more

  pub queries_in_selector : Selector → List Query
  queries_in_selector (filter e) = queries_in_or e
  queries_in_selector _ = []

  pub queries_in_or : LogicalOr → List Query
  queries_in_or no_or = []
  queries_in_or (or a more) = queries_in_and a ++ queries_in_or more

  pub queries_in_and : LogicalAnd → List Query
  queries_in_and no_and = []
  queries_in_and (and b more) = queries_in_basic b ++ queries_in_and more

  pub queries_in_basic : Basic → List Query
  queries_in_basic (paren negated e) = queries_in_or e
  queries_in_basic (relation a op b) = queries_in_operand a ++ queries_in_operand b
  queries_in_basic (test negated o) = queries_in_operand o

  pub queries_in_operand : Operand → List Query
  queries_in_operand (literal l) = []
  queries_in_operand (queried q) = queries_of q
  queries_in_operand (called c) = queries_in_call c

  pub queries_in_call : Call → List Query
  queries_in_call (call f args) = queries_in_arguments args

  pub queries_in_arguments : Arguments → List Query
  queries_in_arguments no_arguments = []
  queries_in_arguments (argument a more) = queries_in_argument a ++ queries_in_arguments more

  pub queries_in_argument : Argument → List Query
  queries_in_argument (operand o) = queries_in_operand o
  queries_in_argument (logical_argument e) = queries_in_or e

-- those of a tree's part
abbrev pub queries_in_branch : Branch → List Query
queries_in_branch (a_query q) = queries_of q
queries_in_branch (a_segment kind seg) = queries_in_segment seg
queries_in_branch (a_selector sel) = queries_in_selector sel
queries_in_branch (an_or e) = queries_in_or e
queries_in_branch (an_and e) = queries_in_and e
queries_in_branch (a_basic b) = queries_in_basic b
queries_in_branch (an_operand o) = queries_in_operand o
queries_in_branch (a_call c) = queries_in_call c

abbrev pub queries_in_branches : List Branch → List Query
queries_in_branches branches = flat_map queries_in_branch branches
