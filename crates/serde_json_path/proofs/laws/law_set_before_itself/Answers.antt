use Rattle.serde_json_path.proofs.Words.{subst, sym, Fits, before_itself}
use Rattle.serde_json_path.proofs.laws.law_set_before_itself.Goals as goal

pub returns : goal.returns
returns c = λ F used. (subst (λ G. Fits G used) (before_itself F), subst (λ G. Fits G used) (sym (before_itself F)))
