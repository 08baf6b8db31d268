use Rattle.serde_json_path_numbers.proofs.Words.{◌∙◌}
use Rattle.serde_json_path_numbers.proofs.Forms.{mixed}
use Rattle.serde_json_path_numbers.proofs.exact_number.ExactNumber.is_less.Goals as goal

pub returns-in-Integer-Double : goal.returns-in-Integer-Double
returns-in-Integer-Double c =
    let two = c.in-Integer-Double in c.is_lt.ensures ∙ (mixed _ two.is-0 two.is-1 c.args.self.exact c.compare.ensures).less

pub returns-in-Double-Integer : goal.returns-in-Double-Integer
returns-in-Double-Integer c =
    let two = c.in-Double-Integer in c.is_gt.ensures ∙ (mixed _ two.is-1 two.is-0 c.args.other.exact c.compare-in-Double-Integer.ensures).greater
