use Rattle.jsonpath_lines.proofs.Words.{◌≡◌, ◌++◌, length, tokens, ArePrintable}
use Rattle.jsonpath_lines.proofs.values.indented.Given as goal

abbrev pub invariant-tokens : goal.invariant-tokens
invariant-tokens l = record {
  printable : ArePrintable l.reader;
  written : tokens l.fn.json ≡ l.indented ++ l.reader;
}

abbrev pub decreases-tokens : goal.decreases-tokens
decreases-tokens l = length l.reader
