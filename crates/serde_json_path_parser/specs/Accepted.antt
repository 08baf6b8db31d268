-- The typed grammar: which text is accepted, and with which tree.
use Rattle.std.specs.Prelude.{◌≡◌, ℕ, ◌≤◌, List, Option}
use Rattle.serde_json_path_parser.specs.Imports.{Numbers, Query, root, query_kind, Signature, IsTyped, depth, deepest}
use Rattle.serde_json_path_parser.specs.Grammar.{Reads}

-- By the rule for numbers, the text, a list of characters, reads as the tree of a query from the
-- root, well-typed under these signatures and no deeper than the limit.
pub record IsAccepted (rule : Numbers) (signature : List ℕ → Option Signature) (text : List ℕ) (q : Query) : Type 0 where
  pub reads : Reads rule q text
  pub from_root : query_kind q ≡ root
  pub typed : IsTyped signature q
  pub within_depth : depth q ≤ deepest
