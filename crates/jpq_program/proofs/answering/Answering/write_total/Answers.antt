use Rattle.jpq_program.proofs.Words.{◌≡◌, ◌∙◌, ◌++◌, Bool, List, [], ℕ, ap, arith, common_steps, decimal, end_text, if◌then◌else◌, refl, string_bytes, sym, total_by}
use Rattle.jpq_program.proofs.Shown.{aside_sent, if_both}
use Rattle.jpq_program.proofs.answering.Answering.write_total.Goals as goal

pub returns-clause-sent : goal.returns-clause-sent
returns-clause-sent g c = λ empty.
    let line = decimal c.args.streams.now.total ++ end_text c.args.self.now.showing.output.end in
    let summed : total_by c.args.self.now c.args.streams.now.total ≡ line = ap (λ (b : Bool). if b then line else []) c.if-not-self.false in
    let is : string_bytes c.write.new.self ≡ string_bytes c.args.streams.now.pending ++ line = grind (arith, common_steps, c.in_ok-write.ensures.bytes, c.end_of-end.ensures) in
    if_both c.write-2.result _ _ _ c.write-2.ensures.whole c.write-2.ensures.all (λ sent none.
    aside_sent g.W.Write.contents (total_by c.args.self.now c.args.streams.now.total) c.args.streams.now (record c.args.streams.now { pending = c.write.new.self }) c.write-2.new.self refl
    (is ∙ ap (λ (own : List ℕ). string_bytes c.args.streams.now.pending ++ own) (sym summed)) c.write-2.ensures.kept sent none)
