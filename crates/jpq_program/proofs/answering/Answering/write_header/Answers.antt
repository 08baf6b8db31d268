use Rattle.jpq_program.proofs.Words.{◌≡◌, ◌∙◌, ◌++◌, List, ℕ, AppendsBeginning, Streams, ap, header_by, map, refl, string_bytes, subst, sym}
use Rattle.jpq_program.specs.Inside.{separated}
use Rattle.jpq_program.proofs.Cells.{header_is}
use Rattle.jpq_program.proofs.Shown.{aside_sent, if_both}
use Rattle.jpq_program.proofs.answering.Answering.write_header.Goals as goal

-- the row is pending
row_is : (g : _) (c : goal.After-drop-cells-2 g) → string_bytes c.push_row.new.streams.pending ≡ string_bytes c.args.streams.now.pending ++ header_by c.args.self.now c.args.is_wanted
row_is g c = c.in_ok-push_row.ensures.row
    ∙ ap (λ (cells : List (List ℕ)). string_bytes c.args.streams.now.pending ++ separated c.in-Some.separator c.args.self.now.showing.output.end cells) (ap (map string_bytes) c.as_slice.ensures.value ∙ c.in_ok-cells.ensures)
    ∙ ap (λ (row : List ℕ). string_bytes c.args.streams.now.pending ++ row) (header_is c.args.self.now c.in-Some.separator c.args.is_wanted c.if-not-is_wanted.false (sym c.in-Some.ensures))

pub returns-clause-sent : goal.returns-clause-sent
returns-clause-sent g c = λ empty. if_both c.write.result _ _ _ c.write.ensures.whole c.write.ensures.all (λ sent none.
    aside_sent g.W.Write.contents (header_by c.args.self.now c.args.is_wanted) c.args.streams.now c.push_row.new.streams c.write.new.self c.push_row.ensures.kept (row_is g c) c.write.ensures.kept sent none)

pub returns-clause-begun : goal.returns-clause-begun
returns-clause-begun g c = (
  header_by c.args.self.now c.args.is_wanted,
  0,
  (refl, refl),
  subst (λ (o : g.row.W.Denot). AppendsBeginning (g.W.Write.contents o) (g.W.Write.contents c.write.new.self.out) (string_bytes c.args.streams.now.pending ++ header_by c.args.self.now c.args.is_wanted)) (ap (λ (s : Streams g.row.W.Denot g.row.E.Denot). s.out) c.push_row.ensures.kept)
      (subst (AppendsBeginning (g.W.Write.contents c.push_row.new.streams.out) (g.W.Write.contents c.write.new.self.out)) (row_is g c) c.write.ensures.beginning),
)
