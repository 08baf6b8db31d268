-- Hand-made trees that may be finished without signatures.
use Rattle.serde_json_path_tests.proofs.Words.{◌≡◌, ◌≤◌, ℕ, List, [], refl, sym, subst, Option, Signature, AreTypedSegments, segments_depth, calls_in_segments, names_of, IsIn, MayFinish, signature_in, deepest}
use Rattle.serde_json_path_syntax.specs.Tree as tree

-- a query that calls nothing may be finished by a builder that has made no call
pub finished_without_calls : (calls : List (List ℕ × Signature)) (segs : tree.Segments) → calls ≡ []
    → ((signature : List ℕ → Option Signature) → AreTypedSegments signature segs)
    → calls_in_segments segs ≡ []
    → segments_depth segs ≤ deepest
    → MayFinish calls (tree.query tree.root segs)
finished_without_calls calls segs none typed silent within_depth =
    let finished : MayFinish [] (tree.query tree.root segs) = record {
      rooted = refl;
      typed = typed (signature_in []);
      within_depth = within_depth;
      called = λ f. (λ i. absurd i, λ i. absurd (subst (λ (cs : List tree.Call). IsIn f (names_of cs)) silent i));
      agreed = λ u i. absurd i;
    } in
    subst (λ us. MayFinish us (tree.query tree.root segs)) (sym none) finished
