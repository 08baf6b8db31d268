use Rattle.serde_json_path_core.proofs.Words.{◌≡◌, sym, subst, ◌∙◌, same_Some, Data, Operand, FunctionSet, Compared, AreEqual, IsComparedAs, arith, nat_tests, common_steps}
use Rattle.serde_json_path_core.proofs.Meaning.AnswerKinds.{compared_there}
use Rattle.serde_json_path_core.proofs.Meaning.Derived.{compared_right}
use Rattle.serde_json_path_core.proofs.laws.law_not_equal_negates_equal.Goals as goal

-- a side of a comparison stands for one thing at most
compared_once : (F : FunctionSet) (top : Data) (a : Operand) (v : Data) (x y : Compared) → IsComparedAs F top a v x → IsComparedAs F top a v y → x ≡ y
compared_once F top a v x y h g = same_Some x y (sym ((compared_right F top a v x).0 h) ∙ (compared_right F top a v y).0 g)

-- each side stands for something, so that one of the two comparisons holds
pub returns : goal.returns
returns c = λ F top a b v keeps typed_a typed_b. (
  λ h g. h.4 (subst (λ x. AreEqual F.numbers x h.1) (compared_once F top a v g.0 h.0 g.2 h.2)
      (subst (AreEqual F.numbers g.0) (compared_once F top b v g.1 h.1 g.3 h.3) g.4)),
  λ never.
      let x = compared_there F top keeps a typed_a v in
      let y = compared_there F top keeps b typed_b v in
      let left = (compared_right F top a v x.0).1 x.1 in
      let right = (compared_right F top b v y.0).1 y.1 in
      (x.0, y.0, left, right, λ same. never (x.0, y.0, left, right, same)),
)
