use Rattle.jsonpath_program.proofs.Words.{ap, ◌≡◌, ◌∙◌}
use Rattle.jsonpath_program.specs.Report.{refusal_of}
use Rattle.jsonpath_program.specs.declared.report.DocumentError.TheVariants as refusal
use Rattle.jsonpath_program.proofs.report.document.Goals as goal

pub returns-in_err-read_document-clause-not_json : goal.returns-in_err-read_document-clause-not_json
returns-in_err-read_document-clause-not_json c = λ is. c.in_err-read_document.ensures.refused (λ memory.
    let told : refusal.NotJson ≡ refusal.Memory = (rw is at c.from_residual.ensures.1) ∙ ap refusal_of memory in cc)
