use Rattle.jpq_program.proofs.Words.{◌≡◌, ◌∙◌, Bor, List, None, Option, Some, ap, option_map, refl, unwrap_or, ℕ}
use Rattle.jpq_program.proofs.colours.field_or.Goals as goal

now_of : (field : Option (Bor (List ℕ))) (other : Bor (List ℕ)) → (unwrap_or field other).now ≡ unwrap_or (option_map (λ (f : Bor (List ℕ)). f.now) field) other.now
now_of None other = refl
now_of (Some field) other = refl

pub returns : goal.returns
returns c = ap (λ (b : Bor (List ℕ)). b.now) c.unwrap_or.ensures ∙ now_of c.field.result c.args.other ∙ ap (λ (o : Option (List ℕ)). unwrap_or o c.args.other.now) c.field.ensures
