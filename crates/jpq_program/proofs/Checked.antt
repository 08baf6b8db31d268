-- Paths that are checked, one after the other.
use Rattle.jpq_program.proofs.Words.{◌≡◌, ◌∙◌, ◌++◌, ◌∷◌, [], List, ℕ, Option, ap, append-nil, append_assoc, codes, subst, sym, JsonPath, Options, Outcome, IsChecked, canonical_lines, path_tree, query_text, status_of}

-- the lines of some paths, and of another after them
pub canonical_further : (paths : List JsonPath) (path : JsonPath) → canonical_lines (paths ++ path ∷ []) ≡ canonical_lines paths ++ (query_text (path_tree path) ++ codes "\n")
canonical_further [] path = ap (λ (t : List ℕ). query_text (path_tree path) ++ t) (append-nil (codes "\n"))
canonical_further (first ∷ paths) path =
    ap (λ (t : List ℕ). query_text (path_tree first) ++ (codes "\n" ++ t)) (canonical_further paths path)
    ∙ ap (λ (t : List ℕ). query_text (path_tree first) ++ t) (sym (append_assoc (codes "\n") (canonical_lines paths) (query_text (path_tree path) ++ codes "\n")))
    ∙ sym (append_assoc (query_text (path_tree first)) (codes "\n" ++ canonical_lines paths) (query_text (path_tree path) ++ codes "\n"))

-- what came of such a run, as it ended
pub check_ended : {I W : Type 0} (contents : W → Option (List ℕ)) (bytes_of : List ℕ → Option (List ℕ)) (options : Options) (inputs later : I) (old start final last : W) (outcome : Outcome) (status : ℕ) → start ≡ old → last ≡ final → status ≡ status_of outcome
    → IsChecked contents bytes_of options inputs later start final (status_of outcome) → IsChecked contents bytes_of options inputs later old last status
check_ended {I} {W} contents bytes_of options inputs later old start final last outcome status begins ends is checked =
    subst (λ (o : W). IsChecked contents bytes_of options inputs later o last status) begins
    (subst (λ (o : W). IsChecked contents bytes_of options inputs later start o status) (sym ends)
    (subst (λ (n : ℕ). IsChecked contents bytes_of options inputs later start final n) (sym is) checked))
