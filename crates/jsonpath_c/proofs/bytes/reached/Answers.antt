use Rattle.jsonpath_c.proofs.Words.{[], ◌∷◌, Err, Form, IfOk, IfSome, IsReached, KeepsPlacesFor, Ok, Result, path_tree, result_ok, subst, sym, view}
use Rattle.jsonpath_c.proofs.bytes.reached.Goals as goal

some_of_ok : {A E : Type 0} (P : A → Type 0) (r : Result A E) → IfOk r P → IfSome (result_ok r) P
some_of_ok P (Ok a) h = h
some_of_ok P (Err e) h = tt

pub returns-in-Ok : goal.returns-in-Ok
returns-in-Ok c =
    let path = c.args.path.now in
    let q = path_tree path.path.value in
    let keeps : KeepsPlacesFor c.in-Ok.reader (q ∷ []) = rw c.tree.ensures.tree at c.in-Ok.ensures in
    let found = some_of_ok _ c.read.result (c.read.ensures.places (q ∷ []) keeps) in
    rw c.ok.ensures.value (subst (λ (form : Form). IfSome (result_ok c.read.result) (λ v. IsReached form path c.args.bytes.now (view v))) (sym c.in-Location.is) found)
