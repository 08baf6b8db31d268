use Rattle.jsonpath_lines.proofs.Words.{length, parameters_of, string_bytes, chars_rest}
use Rattle.jsonpath_lines.proofs.Seen.{IsPlainUpTo, IsSeenUpTo}
use Rattle.jsonpath_lines.proofs.colours.colored.Given as goal

abbrev pub invariant-loop-c : goal.invariant-loop-c
invariant-loop-c l = IsSeenUpTo (parameters_of l.fn.palette) l.fn.line (string_bytes l.text) (chars_rest l.rest) × IsPlainUpTo l.fn.form l.place l.fn.line (string_bytes l.text) (chars_rest l.rest)

abbrev pub decreases-loop-c : goal.decreases-loop-c
decreases-loop-c l = length (chars_rest l.rest)
