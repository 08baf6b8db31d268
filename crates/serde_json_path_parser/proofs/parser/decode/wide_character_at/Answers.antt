use Rattle.serde_json_path_parser.proofs.Words.{rules, ◌<◌, ◌+◌, length, refl, ◌∙◌}
use Rattle.serde_json_path_parser.proofs.Texts as d
use Rattle.serde_json_path_parser.proofs.parser.decode.wide_character_at.Goals as goal

pub low_bits-second-requires : goal.low_bits-second-requires
low_bits-second-requires g c = d.second (g.S.PathSource.observed c.args.source.now).text c.args.index c.args.lead c.requires.utf8 c.requires.lead c.requires.wide

pub returns-then-first-lt224-clause-decodes : goal.returns-then-first-lt224-clause-decodes
returns-then-first-lt224-clause-decodes g c = rw c.character.ensures (d.two (g.S.PathSource.observed c.args.source.now).text c.args.index c.args.lead c.requires.utf8 c.requires.lead c.low_bits-second.result c.low_bits-second.ensures.value c.requires.wide c.if-first-lt224.true).1

pub overflow_add-index-2 : goal.overflow_add-index-2
overflow_add-index-2 g c = let h : c.args.index + 2 < length (g.S.PathSource.observed c.args.source.now).text = d.third (g.S.PathSource.observed c.args.source.now).text c.args.index c.args.lead c.requires.utf8 c.requires.lead c.if-first-lt224.false in search (rules, h)

pub low_bits-third-requires : goal.low_bits-third-requires
low_bits-third-requires g c = rw c.low_bits-second.ensures.looks.same_text (d.third (g.S.PathSource.observed c.args.source.now).text c.args.index c.args.lead c.requires.utf8 c.requires.lead c.if-first-lt224.false)

pub character-requires-then-first-lt240 : goal.character-requires-then-first-lt240
character-requires-then-first-lt240 g c = (d.three (g.S.PathSource.observed c.args.source.now).text c.args.index c.args.lead c.requires.utf8 c.requires.lead c.low_bits-second.result c.low_bits-third.result c.low_bits-second.ensures.value (c.low_bits-third.ensures.value ∙ rw c.low_bits-second.ensures.looks.same_text refl) c.if-first-lt224.false c.if-first-lt240.true).0

pub returns-then-first-lt240-clause-decodes : goal.returns-then-first-lt240-clause-decodes
returns-then-first-lt240-clause-decodes g c = rw c.character-then-first-lt240.ensures (d.three (g.S.PathSource.observed c.args.source.now).text c.args.index c.args.lead c.requires.utf8 c.requires.lead c.low_bits-second.result c.low_bits-third.result c.low_bits-second.ensures.value (c.low_bits-third.ensures.value ∙ rw c.low_bits-second.ensures.looks.same_text refl) c.if-first-lt224.false c.if-first-lt240.true).1

pub overflow_add-index-3 : goal.overflow_add-index-3
overflow_add-index-3 g c = let h : c.args.index + 3 < length (g.S.PathSource.observed c.args.source.now).text = d.fourth (g.S.PathSource.observed c.args.source.now).text c.args.index c.args.lead c.requires.utf8 c.requires.lead c.if-first-lt240.false in search (rules, h)

pub low_bits-fourth-requires : goal.low_bits-fourth-requires
low_bits-fourth-requires g c = rw (c.low_bits-third.ensures.looks.same_text, c.low_bits-second.ensures.looks.same_text) (d.fourth (g.S.PathSource.observed c.args.source.now).text c.args.index c.args.lead c.requires.utf8 c.requires.lead c.if-first-lt240.false)
