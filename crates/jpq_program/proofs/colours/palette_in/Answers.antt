use Rattle.jpq_program.proofs.Words.{◌∙◌, sym}
use Rattle.jpq_program.proofs.Named.{named_by, same_seven}
use Rattle.jpq_program.proofs.colours.palette_in.Goals as goal

pub returns : goal.returns
returns c =
    same_seven _ _ _ _ _ _ _ _ _ _ _ _ _ _ c.field_or.ensures c.field_or-2.ensures c.field_or-3.ensures c.field_or-4.ensures c.field_or-5.ensures c.field_or-6.ensures c.field_or-7.ensures
    ∙ sym (named_by c.args.text.now c.is_fields.result c.is_some.result c.field.result c.is_fields.ensures c.field.ensures c.is_some.ensures c.if-not-is_fields.false c.if-is_some.false)
