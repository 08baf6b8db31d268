-- What the steps of a run show of its words, its input, its refusals and their lines; and what an Ok after `map_err` was before it.
use Rattle.jsonpath_program.proofs.Words.{◌≡◌, ℕ, ◌<◌, ◌≤◌, false, List, [], ◌∷◌, ◌++◌, length, get_or, codes, Option, Some, None, Result, Ok, Err, String, string_bytes, Global, refl, sym, ap, subst, ◌∙◌, arith, IfSome, OnOk, MatchResult, IsErrAnd, is_err, decimal, digits, builtin_functions, QueryError, Pattern, kind_of, position_of, message, ParseError, NoMemory, DocumentError, ReportError, Path, Document, Query, IsReportOf, status_of, line_of, IsOneWord, IsReportOfRun}

pub one_word : (words : List (String Global)) (word : String Global) (text : List ℕ) → 1 ≤ length words → length words < 2 → word ≡ get_or words 0 word → text ≡ string_bytes word → IsOneWord words text
one_word [] word text low high is e = absurd (omega arith)
one_word (w ∷ []) word text low high is e = ap (λ (x : String Global). string_bytes x ∷ []) (sym is) ∙ ap (λ (t : List ℕ). t ∷ []) (sym e)
one_word (w ∷ v ∷ words) word text low high is e = absurd (omega arith)

-- there is one such word only
pub same_word : (words : List (String Global)) (word other : List ℕ) → IsOneWord words word → IsOneWord words other → word ≡ other
same_word words word other one two = ap (λ (ws : List (List ℕ)). get_or ws 0 []) (sym one ∙ two)

-- an Ok after `map_err` was the same Ok before it
pub ok_before : {T D E : Type 0} (before : Result T E) (after : Result T D) (x : T) (post : E → D → Type 0)
    → MatchResult before (λ y. after ≡ Ok y) (λ e. IsErrAnd after (post e)) → after ≡ Ok x → before ≡ Ok x
ok_before (Ok y) after x post mapped is = cc
ok_before (Err e) after x post mapped is = absurd (rw is at mapped)

-- a pattern that is told after `map_err` was told before it
pub pattern_before : {T : Type 0} (before : Result T QueryError) (after : Result T ReportError)
    → MatchResult before (λ x. after ≡ Ok x) (λ e. IsErrAnd after (λ d. d ≡ Query e)) → after ≡ Err (Query Pattern) → before ≡ Err Pattern
pattern_before (Ok x) after mapped is = cc
pattern_before (Err e) after mapped is = let wrapped : Query Pattern ≡ Query e = rw is at mapped in cc

-- a whole read puts the known bytes into an empty buffer
pub whole_read : {T E : Type 0} (read : Result T E) (known : Option (List ℕ)) (old new document : List ℕ) → is_err read ≡ false → OnOk read (IfSome known (λ xs. new ≡ old ++ xs)) → old ≡ [] → document ≡ new
    → IfSome known (λ bytes. document ≡ bytes)
whole_read (Ok n) None old new document e h empty is = tt
whole_read (Ok n) (Some bytes) old new document e h empty is = is ∙ h ∙ ap (λ (xs : List ℕ). xs ++ bytes) empty
whole_read (Err x) known old new document e h empty is = absurd cc

-- what holds of the bytes that were read holds of what is known of the input
pub of_known : (Fact : List ℕ → Type 0) (known : Option (List ℕ)) (document : List ℕ) → IfSome known (λ bytes. document ≡ bytes) → Fact document → IfSome known Fact
of_known Fact None document is fact = tt
of_known Fact (Some bytes) document is fact = subst Fact is fact

-- the report that was made is the one that the run asks for
pub report_of_run : (words : List (String Global)) (input : Option (List ℕ)) (document path text written : List ℕ) → IsOneWord words path → IfSome input (λ bytes. document ≡ bytes)
    → IsReportOf builtin_functions path document text → written ≡ text → IsReportOfRun words input written
report_of_run words input document path text written one known report same =
    (document, path, one, known, rw (← same) at report)

-- a refusal is of what its status says
pub path_of : (e : ReportError) → status_of e ≡ 1 → (p : ParseError) × (e ≡ Path p)
path_of (Path p) s = (p, refl)
path_of _ s = absurd (omega arith)

pub document_of : (e : ReportError) → status_of e ≡ 2 → (d : DocumentError) × (e ≡ Document d)
document_of (Document d) s = (d, refl)
document_of _ s = absurd (omega arith)

pub query_of : (e : ReportError) → status_of e ≡ 3 → (q : QueryError) × (e ≡ Query q)
query_of (Query q) s = (q, refl)
query_of _ s = absurd (omega arith)

-- the line of a path that was refused for memory
pub no_memory_line : (e : ParseError) → kind_of e ≡ NoMemory → position_of e ≡ 1 → codes "jsonpath: path: at position 1, no memory\n" ≡ line_of (Path e)
unfolding digits
no_memory_line e kind position =
    λ i. codes "jsonpath: path: at position " ++ (decimal ((sym position) i) ++ (codes ", " ++ (message ((sym kind) i) e.context ++ codes "\n")))
