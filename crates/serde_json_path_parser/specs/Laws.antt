-- Laws of the grammar and of the typed grammar.
use Rattle.std.specs.Prelude.{◌≡◌, ℕ, List, Option}
use Rattle.serde_json_path_parser.specs.Imports.{IsUtf8, chars, Numbers, whole_numbers, all_numbers, Query, query_text, Signature}
use Rattle.serde_json_path_parser.specs.Accepted.{IsAccepted}
use Rattle.serde_json_path_parser.specs.Grammar.{Reads}

-- a text is accepted with one tree at most
abbrev pub OneTreeAtMost : Type 0
OneTreeAtMost = (rule : Numbers) (signature : List ℕ → Option Signature) (text : List ℕ) (p q : Query)
    → IsAccepted rule signature text p → IsAccepted rule signature text q → p ≡ q

-- a tree that some text reads as has its own printed text read as it
abbrev pub PrintedTextReadsBack : Type 0
PrintedTextReadsBack = (rule : Numbers) (text : List ℕ) (q : Query)
    → IsUtf8 text → Reads rule q (chars text) → Reads rule q (chars (query_text q))

-- what is accepted by whole numbers is accepted by all numbers, with the same tree
abbrev pub AllNumbersReadMore : Type 0
AllNumbersReadMore = (signature : List ℕ → Option Signature) (text : List ℕ) (q : Query)
    → IsAccepted whole_numbers signature text q → IsAccepted all_numbers signature text q
