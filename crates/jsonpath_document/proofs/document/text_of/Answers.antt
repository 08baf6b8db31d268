use Rattle.std.proofs.Common.{◌∙◌, [], ap, arith, drop_of_length-le, not, refl, subst, sym}
use Rattle.std.proofs.lemmas.Str.{IsUtf8-nil, utf8_valid_len-IsUtf8}
use Rattle.jsonpath_document.specs.Reading.{IsCutOff}
use Rattle.jsonpath_document.proofs.Characters.{cut_off, high_next, never_text}
use Rattle.jsonpath_document.proofs.document.text_of.Goals as goal

pub returns-in-Ok-clause-longest : goal.returns-in-Ok-clause-longest
returns-in-Ok-clause-longest c = sym (utf8_valid_len-IsUtf8 _ c.in-Ok.ensures.cases.1)

pub returns-in-Ok-clause-cut_off : goal.returns-in-Ok-clause-cut_off
returns-in-Ok-clause-cut_off c = λ _. subst IsCutOff (sym (drop_of_length-le c.args.bytes.now (omega arith))) ([], refl, IsUtf8-nil)

pub returns-in-Err-clause-high : goal.returns-in-Err-clause-high
returns-in-Err-clause-high c = λ _. rw c.valid_up_to.ensures (high_next _ _ c.in-Err.ensures.cases.1)

pub returns-in-Err-clause-cut_off : goal.returns-in-Err-clause-cut_off
returns-in-Err-clause-cut_off c = λ none. rw c.valid_up_to.ensures
    (cut_off _ _ c.in-Err.ensures.cases.1 _ (c.error_len.ensures ∙ c.in-Err.ensures.fault) (c.is_none.ensures ∙ ap not none))

pub returns-in-Err-clause-never : goal.returns-in-Err-clause-never
returns-in-Err-clause-never c = λ some.
    never_text _ _ c.in-Err.ensures.cases.1 _ (c.error_len.ensures ∙ c.in-Err.ensures.fault) (c.is_none.ensures ∙ ap not some)
