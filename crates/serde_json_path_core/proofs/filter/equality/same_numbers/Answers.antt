use Rattle.serde_json_path_core.proofs.Words.{◌∙◌, rules, number_view, numbers_view, arith, nat_tests, common_steps}
use Rattle.serde_json_path_core.proofs.Whole.{same}
use Rattle.serde_json_path_core.proofs.filter.equality.same_numbers.Goals as goal

pub returns-in-Some-as_i64 : goal.returns-in-Some-as_i64
returns-in-Some-as_i64 c =
    search rules ∙ same (numbers_view c.args.numbers) (number_view c.args.left.now) (number_view c.args.right.now) c.in-Some.first c.in-Some-as_i64.second (search rules) (search rules)
