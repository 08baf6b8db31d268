use Rattle.serde_json_path_tests.proofs.Words.{◌≡◌, true, is_valid, num_of, N, PosInt, NegInt, pos, IsFinite, NumbersAreFinite, document_number}
use Rattle.serde_json.specs.declared.number.N.TheVariants.{Float as Double}
use Rattle.serde_json_path_tests.proofs.tests.number_laws.exactly_one_holds.Goals as goal

-- the number that a document holds is finite
finite_held : NumbersAreFinite → (x : N) → is_valid x ≡ true → IsFinite (document_number (num_of x))
finite_held law (PosInt n) valid = law.integers (pos n)
finite_held law (NegInt z) valid = law.integers z
finite_held law (Double x) valid = valid

pub returns : goal.returns
returns c =
    let finite = finite_held c.law_numbers_are_finite.ensures in
    let left = c.args.left.now in
    let right = c.args.right.now in
    c.law_order_of_numbers.ensures.total (document_number (num_of left.n)) (document_number (num_of right.n)) (finite left.n left.valid) (finite right.n right.valid)
