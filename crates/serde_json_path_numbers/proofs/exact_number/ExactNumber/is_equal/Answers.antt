use Rattle.serde_json_path_numbers.proofs.Words.{◌∙◌}
use Rattle.serde_json_path_numbers.proofs.Forms.{mixed}
use Rattle.serde_json_path_numbers.proofs.Floats.{equal_swapped}
use Rattle.serde_json_path_numbers.proofs.exact_number.ExactNumber.is_equal.Goals as goal

pub returns-in-Integer-Double : goal.returns-in-Integer-Double
returns-in-Integer-Double c =
    let two = c.in-Integer-Double in c.is_eq.ensures ∙ (mixed c.compare.result two.is-0 two.is-1 c.args.self.exact c.compare.ensures).equal

pub returns-in-Double-Integer : goal.returns-in-Double-Integer
returns-in-Double-Integer c =
    let two = c.in-Double-Integer in
    c.is_eq-in-Double-Integer.ensures ∙ (mixed _ two.is-1 two.is-0 c.args.other.exact c.compare-in-Double-Integer.ensures).equal ∙ equal_swapped _ _
