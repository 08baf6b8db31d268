use Rattle.serde_json_path_numbers.proofs.Words.{ap, sym, ◌∙◌, to_z-of_z, pos, int_div, is_exact}
use Rattle.serde_json_path_numbers.proofs.Finite.{whole_is_exact, double_is_exact}
use Rattle.serde_json_path_numbers.proofs.exact_number.ExactNumber.of_literal.Goals as goal
use Rattle.serde_json_path_numbers.proofs.exact_number.ExactNumber.of_literal.Goals.{in-None, in-Some}

pub invariant_of-result : goal.invariant_of-result
invariant_of-result c =
    let same = to_z-of_z c.ranges.billionths in
    elim c.match-double.branch [
      | in-None w ↦ record { exact = ap is_exact w.form-is ∙ whole_is_exact c.args.billionths _ c.requires.range (w.whole_part.ensures ∙ ap (λ b. int_div b (pos 1000000000)) same) }
      | in-Some w ↦ record { exact = ap is_exact w.form-is ∙ double_is_exact c.args.billionths _ c.requires.range (sym w.in-Some.is ∙ c.requires.double) }
    ]
