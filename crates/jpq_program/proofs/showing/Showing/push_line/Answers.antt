use Rattle.jpq_program.proofs.Words.{Dress, IsLook, Option, located, look_with, string_bytes, subst, sym}
use Rattle.jsonpath_lines.specs.Inside as lines
use Rattle.jpq_program.proofs.Dressed.{bare_look}
use Rattle.jpq_program.proofs.Shown.{on_ok_as}
use Rattle.jpq_program.proofs.showing.Showing.push_line.Goals as goal

pub returns-in-None : goal.returns-in-None
returns-in-None c = on_ok_as c.push_line.result _ _ (bare_look c.args.self.now c.args.head.now (located c.args.node.now) (string_bytes c.args.to.now) (string_bytes c.push_line.new.text) c.in-None.is) c.push_line.ensures

pub returns-in-Some : goal.returns-in-Some
returns-in-Some c = on_ok_as c.push_line-in-Some.result _ _
    (subst (λ (dress : Option Dress). lines.Appends (IsLook (look_with c.args.self.now.output c.args.self.now.most_of_all c.args.self.now.summed dress) c.args.head.now (located c.args.node.now)) (string_bytes c.args.to.now) (string_bytes c.push_line-in-Some.new.to)) (sym c.in-Some.is))
    c.push_line-in-Some.ensures
