-- When the calls of a builder let a query be finished.
use Rattle.serde_json_path_syntax.proofs.Words.{◌≡◌, ◌≤◌, ℕ, List, Option, sym, subst, Signature, Query, root, kind_of, IsTyped, calls_of, names_of, IsIn, AreDeclared, MayFinish, deepest, names_in, signature_in, depth}
use Rattle.serde_json_path_syntax.proofs.Lists.{map_in}
use Rattle.serde_json_path_syntax.proofs.Names.Once.{declared_known}
use Rattle.serde_json_path_syntax.proofs.Typing.TypedByNames.{typed_by_names}

-- a query that is well-typed under some signatures, whose calls are the builder's, each declared by them
pub may_finish : (signature : List ℕ → Option Signature) (calls : List (List ℕ × Signature)) (q : Query) → kind_of q ≡ root → IsTyped signature q → depth q ≤ deepest
    → names_in calls ≡ names_of (calls_of q) → AreDeclared signature calls → MayFinish calls q
may_finish signature calls q rooted typed within_depth names declared = record {
  rooted = rooted;
  typed = typed_by_names signature (signature_in calls) q (λ f i s e. declared_known signature calls declared f s (subst (IsIn f) (sym names) i) e) typed;
  within_depth = within_depth;
  called = λ f. (λ i. subst (IsIn f) names i, λ i. subst (IsIn f) (sym names) i);
  agreed = λ u i. declared_known signature calls declared u.0 u.1 (map_in (λ (v : List ℕ × Signature). v.0) u calls i) (declared u i);
}
