use Rattle.serde_json_path_parser.proofs.Words.{length, sym, ap, ◌∙◌, arith}
use Rattle.serde_json_path_parser.proofs.Grammar.Paths.{parsed, too_long_reported, refused_reported}
use Rattle.serde_json_path_parser.proofs.parser.parse.Goals as goal

pub returns-then-len-eq18446744073709551615-clause-reported : goal.returns-then-len-eq18446744073709551615-clause-reported
returns-then-len-eq18446744073709551615-clause-reported g c =
    rw c.in_text.ensures (too_long_reported _ _ _ c.len.ensures.utf8 (sym c.len.ensures.bytes ∙ c.if-len-eq18446744073709551615.true))

pub returns-in-Ok-clause-parse : goal.returns-in-Ok-clause-parse
returns-in-Ok-clause-parse g c =
    let read = c.in-Ok.ensures.gives in
    parsed _ _ _ c.len.ensures.utf8 (omega arith) read.0 c.in-Ok.checked read.1 read.3 read.5 (rw c.new-reader.ensures.left at read.2)

pub returns-in-Err-clause-reported : goal.returns-in-Err-clause-reported
returns-in-Err-clause-reported g c =
    let fails = rw c.new-reader.ensures.left at c.in-Err.ensures.gives in
    let total = c.len-total.ensures ∙ ap length (c.parse_path-read.ensures.moves.moves.same_text ∙ c.new-reader.ensures.same_text) in
    rw c.in_text-in-Err.ensures
    (refused_reported _ _ _ c.len.ensures.utf8 (omega arith) c.in-Err.stop _ total fails (rw c.new-reader.ensures.left at c.in-Err.ensures.needs_no_memory))
