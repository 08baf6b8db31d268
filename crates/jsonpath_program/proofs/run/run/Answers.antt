use Rattle.jsonpath_program.proofs.Words.{◌≡◌, codes, Err, inl, inr, refl, sym, ap, ◌∙◌, Data, position_of, ReadsAs, line_of, status_of, Path, Document, Query}
use Rattle.jsonpath_program.proofs.Runs.{one_word, same_word, of_known, whole_read, report_of_run, path_of, document_of, query_of}
use Rattle.jsonpath_program.proofs.run.run.Goals as goal

pub returns-then-is_err-clause-document_reported : goal.returns-then-is_err-clause-document_reported
returns-then-is_err-clause-document_reported g c = λ two. (codes "jsonpath: document: cannot be read\n", inr refl, c.write_text-then-is_err.ensures.beginning)

pub returns-in-Ok-clause-report_out : goal.returns-in-Ok-clause-report_out
returns-in-Ok-clause-report_out g c =
    let one = one_word _ _ _ c.in-len1.len_at_least c.in-len1.len_below c.path-item.is c.as_str.ensures.value in
    let whole = whole_read _ _ _ _ _ (sym c.is_err.ensures.value ∙ c.if-is_err.false) c.read_to_end.ensures.bytes c.new-document.ensures.items c.as_slice-document.ensures.value in
    λ done. (c.as_str-in-Ok.result.now, report_of_run _ _ _ _ _ _ one whole c.in-Ok.ensures.lines c.as_str-in-Ok.ensures.value, c.print.ensures.whole done)

pub returns-in-Ok-clause-part_out : goal.returns-in-Ok-clause-part_out
returns-in-Ok-clause-part_out g c =
    let one = one_word _ _ _ c.in-len1.len_at_least c.in-len1.len_below c.path-item.is c.as_str.ensures.value in
    let whole = whole_read _ _ _ _ _ (sym c.is_err.ensures.value ∙ c.if-is_err.false) c.read_to_end.ensures.bytes c.new-document.ensures.items c.as_slice-document.ensures.value in
    λ three. inr (c.as_str-in-Ok.result.now, report_of_run _ _ _ _ _ _ one whole c.in-Ok.ensures.lines c.as_str-in-Ok.ensures.value, c.print.ensures.beginning)

pub returns-in-Ok-clause-query_reported : goal.returns-in-Ok-clause-query_reported
returns-in-Ok-clause-query_reported g c = λ three. (codes "jsonpath: output failed\n", inr refl, inl refl, c.print.ensures.reported three)

pub returns-in-Ok-clause-query_last : goal.returns-in-Ok-clause-query_last
returns-in-Ok-clause-query_last g c =
    let whole = whole_read _ _ _ _ _ (sym c.is_err.ensures.value ∙ c.if-is_err.false) c.read_to_end.ensures.bytes c.new-document.ensures.items c.as_slice-document.ensures.value in
    λ three. of_known (λ bytes. (d : Data) × ReadsAs bytes d) _ _ whole (_, c.in-Ok.ensures.lines.reads)

pub refuse-requires : goal.refuse-requires
refuse-requires g c = λ path is kind. ap position_of ((c.report_by.ensures.path_refused path (c.in-Err.is ∙ ap Err is)).memory kind)

pub returns-clause-path_reported : goal.returns-clause-path_reported
returns-clause-path_reported g c = λ one.
    let (path, is) = path_of c.in-Err.e (sym c.refuse.ensures.status ∙ one) in (
      c.as_str.result.now,
      one_word _ _ _ c.in-len1.len_at_least c.in-len1.len_below c.path-item.is c.as_str.ensures.value,
      (
        path,
        c.report_by.ensures.path_refused path (c.in-Err.is ∙ ap Err is),
        c.report_by.ensures.path_reported path (c.in-Err.is ∙ ap Err is),
        rw is at c.refuse.ensures.reported,
      ),
    )

pub returns-clause-document_reported : goal.returns-clause-document_reported
returns-clause-document_reported g c = λ two.
    let (document, is) = document_of c.in-Err.e (sym c.refuse.ensures.status ∙ two) in
    let read = whole_read _ _ _ _ _ (sym c.is_err.ensures.value ∙ c.if-is_err.false) c.read_to_end.ensures.bytes c.new-document.ensures.items c.as_slice-document.ensures.value in (
      line_of (Document document),
      inl (
        document,
        refl,
        λ not_json. of_known (λ bytes. (d : Data) → ReadsAs bytes d → ⊥) _ _ read (c.report_by.ensures.not_json (c.in-Err.is ∙ ap Err (is ∙ ap Document not_json))),
      ),
      rw is at c.refuse.ensures.reported,
    )

pub returns-clause-query_reported : goal.returns-clause-query_reported
returns-clause-query_reported g c = λ three.
    let (query, is) = query_of c.in-Err.e (sym c.refuse.ensures.status ∙ three) in
    let whole = whole_read _ _ _ _ _ (sym c.is_err.ensures.value ∙ c.if-is_err.false) c.read_to_end.ensures.bytes c.new-document.ensures.items c.as_slice-document.ensures.value in (
      line_of (Query query),
      inl (
        query,
        refl,
        λ pattern. (
          c.as_slice-document.result.now,
          c.as_str.result.now,
          one_word _ _ _ c.in-len1.len_at_least c.in-len1.len_below c.path-item.is c.as_str.ensures.value,
          whole,
          c.report_by.ensures.pattern_refused (c.in-Err.is ∙ ap Err (is ∙ ap Query pattern)),
        ),
      ),
      inr refl,
      rw is at c.refuse.ensures.reported,
    )

pub returns-clause-query_last : goal.returns-clause-query_last
returns-clause-query_last g c = λ three.
    let (query, is) = query_of c.in-Err.e (sym c.refuse.ensures.status ∙ three) in
    let whole = whole_read _ _ _ _ _ (sym c.is_err.ensures.value ∙ c.if-is_err.false) c.read_to_end.ensures.bytes c.new-document.ensures.items c.as_slice-document.ensures.value in
    of_known (λ bytes. (d : Data) × ReadsAs bytes d) _ _ whole (c.report_by.ensures.query_last query (c.in-Err.is ∙ ap Err is))

pub returns-then-is_err-clause-path_first : goal.returns-then-is_err-clause-path_first
returns-then-is_err-clause-path_first g c = λ path one no_path. inr (refl, c.write_text-then-is_err.ensures.beginning)

pub returns-in-Ok-clause-path_first : goal.returns-in-Ok-clause-path_first
returns-in-Ok-clause-path_first g c = λ path is_word no_path.
    let one = one_word _ _ _ c.in-len1.len_at_least c.in-len1.len_below c.path-item.is c.as_str.ensures.value in
    let same = same_word c.args.words.now path c.as_str.result.now is_word one in
    let (e, refused) = c.report_by.ensures.path_first (rw (← same) no_path) in
    let told = sym c.in-Ok.is ∙ refused in absurd cc

pub returns-clause-path_first : goal.returns-clause-path_first
returns-clause-path_first g c = λ path is_word no_path.
    let one = one_word _ _ _ c.in-len1.len_at_least c.in-len1.len_below c.path-item.is c.as_str.ensures.value in
    let same = same_word c.args.words.now path c.as_str.result.now is_word one in
    let (e, refused) = c.report_by.ensures.path_first (rw (← same) no_path) in
    let same_error : c.in-Err.e ≡ Path e = cc in
    inl (c.refuse.ensures.status ∙ ap status_of same_error)
