use Rattle.jsonpath_c.proofs.Words.{◌≡◌, ◌⊎◌, ℕ, Err, rules, sym, ◌∙◌, IsUtf8, builtin_functions, Pattern, CallsByPatternOn, IsNoPath, IsReportIn, NotJson, Path, Document, Query, IsRefusedWith, whole_numbers}
use Rattle.jsonpath_c.proofs.lines.lines.Goals as goal

pub returns-in-Ok-report_under : goal.returns-in-Ok-report_under
returns-in-Ok-report_under c =
    let same = c.in-Ok.ensures.cases.0 in
    let report : IsReportIn c.args.form builtin_functions c.args.path.now c.args.document.now c.as_str.result.now =
    rw c.as_str.ensures.value (rw same at c.in-Ok-report_under.ensures.lines) in
    let path_first : IsUtf8 c.args.path.now → IsNoPath builtin_functions c.args.path.now → (c.put.result ≡ 1) ⊎ (c.put.result ≡ 4) = λ utf8 none.
    let (e, told) = c.report_under.ensures.path_first (rw same none) in cc in
    search rules

pub returns-in-Err-Path : goal.returns-in-Err-Path
returns-in-Err-Path c =
    let same = c.in-Ok.ensures.cases.0 in
    let e = c.in-Err-Path.e in
    let refused : c.report_under.result ≡ Err (Path e) = search rules in
    let parse = rw same at (c.report_under.ensures.path_refused e refused) in
    let reported = rw same at (c.report_under.ensures.path_reported e refused) in
    let told : c.put_refusal.result ≡ 1 → IsRefusedWith whole_numbers c.args.path.now e = λ one. (
      record { parse = parse; reported = reported; fits = tt },
      λ memory. let no : ◌≡◌ {A = ℕ} 1 4 = sym one ∙ (c.put_refusal.ensures.memory memory).0 in cc,
    ) in
    search rules

pub returns-in-Err-Document-NotJson : goal.returns-in-Err-Document-NotJson
returns-in-Err-Document-NotJson c =
    let refused : c.report_under.result ≡ Err (Document NotJson) = search rules in
    let path_first : IsNoPath builtin_functions c.args.path.now → ⊥ = λ none.
    let (e, told) = c.report_under.ensures.path_first (rw c.in-Ok.ensures.cases.0 none) in cc in
    let not_json = c.report_under.ensures.not_json refused in
    search rules

pub returns-in-Err-Query-Pattern : goal.returns-in-Err-Query-Pattern
returns-in-Err-Query-Pattern c =
    let same = c.in-Ok.ensures.cases.0 in
    let refused : c.report_under.result ≡ Err (Query Pattern) = search rules in
    let path_first : IsNoPath builtin_functions c.args.path.now → ⊥ = λ none.
    let (e, told) = c.report_under.ensures.path_first (rw same none) in cc in
    let pattern_refused : CallsByPatternOn builtin_functions c.args.path.now c.args.document.now =
    rw same at (c.report_under.ensures.pattern_refused refused) in
    search rules
