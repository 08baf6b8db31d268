-- The trees that one part of a builder may stand for.
use Rattle.std.specs.Prelude.{List}
use Rattle.serde_json_path_syntax.specs.Calls.{calls_of, calls_in_segment, calls_in_selector, calls_in_or, calls_in_and, calls_in_basic, calls_in_operand, calls_from}
use Rattle.serde_json_path_syntax.specs.Tree.{Query, SegmentKind, Segment, Selector, LogicalOr, LogicalAnd, Basic, Operand, Call}

pub data Branch : Type 0 where
  a_query : Query → Branch
  a_segment : SegmentKind → Segment → Branch
  a_selector : Selector → Branch
  an_or : LogicalOr → Branch
  an_and : LogicalAnd → Branch
  a_basic : Basic → Branch
  an_operand : Operand → Branch
  a_call : Call → Branch

-- the calls that a part makes
abbrev pub calls_in_branch : Branch → List Call
calls_in_branch (a_query q) = calls_of q
calls_in_branch (a_segment kind seg) = calls_in_segment seg
calls_in_branch (a_selector sel) = calls_in_selector sel
calls_in_branch (an_or e) = calls_in_or e
calls_in_branch (an_and e) = calls_in_and e
calls_in_branch (a_basic b) = calls_in_basic b
calls_in_branch (an_operand o) = calls_in_operand o
calls_in_branch (a_call c) = calls_from c
