use Rattle.serde_json_path_syntax.proofs.Words.{arith, nat_tests, common_steps, ◌≡◌, ◌∙◌, sym, tree_of, same_query, Decides-same_query}
use Rattle.serde_json_path_syntax.proofs.Equality.{segments_same}
use Rattle.serde_json_path_syntax.proofs.equal.CheckedPartialEq.eq.Goals as goal

pub returns-clause-computes : goal.returns-clause-computes
returns-clause-computes c = grind (arith, nat_tests, common_steps, segments_same)

pub returns-clause-same : goal.returns-clause-same
returns-clause-same c =
    let mine = tree_of c.args.self.now in
    let theirs = tree_of c.args.other.now in
    let computes : c.same_parts.result ≡ same_query mine theirs = returns-clause-computes c in
    (λ h. (Decides-same_query mine theirs).0 (sym computes ∙ h), λ e. computes ∙ (Decides-same_query mine theirs).1 e)
