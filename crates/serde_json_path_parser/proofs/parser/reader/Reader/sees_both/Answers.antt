use Rattle.serde_json_path_parser.proofs.Words.{sym, ◌∙◌}
use Rattle.serde_json_path_parser.proofs.Texts.{ahead, ascii_begun}
use Rattle.serde_json_path_parser.proofs.parser.reader.Reader.sees_both.Goals as goal

pub peek_second-requires : goal.peek_second-requires
peek_second-requires g c =
    let r = c.args.self.now in
    ascii_begun r.next _ c.args.first (ahead (g.S.PathSource.observed r.source.now).text r.index r.next r.utf8 r.next_is) c.requires.first (sym c.sees.ensures ∙ c.if-not-sees.false)
