use Rattle.jpq_program.proofs.Words.{◌≡◌, ◌∙◌, ◌+◌, ◌++◌, List, ℕ, ap, append_assoc, canonical_lines, codes, map, path_tree, query_text, string_bytes, subst, sym, take, take_all, AppendsBeginning, AskedPath, Streams}
use Rattle.jpq_program.proofs.Checked.{canonical_further}
use Rattle.jpq_program.proofs.Nodes.{further_mapped, none_begun}
use Rattle.jpq_program.proofs.run.check.Goals as goal

pub loop-path-preserved : goal.loop-path-preserved
loop-path-preserved g c =
    let before = c.loop-path.invariant in
    let index = c.loop-path.path-index in
    let path = c.path-item.result in
    let done = map (λ (path : AskedPath). path.path) (take index c.args.paths.now) in
    let line = query_text (path_tree path.path) ++ codes "\n" in
    let lines : canonical_lines (map (λ (path : AskedPath). path.path) (take (index + 1) c.args.paths.now)) ≡ canonical_lines done ++ line =
    ap canonical_lines (further_mapped (λ (path : AskedPath). path.path) c.args.paths.now index path c.loop-path-test.true c.path-item.is) ∙ canonical_further done path.path in (
      ap (λ (s : Streams g.row.W.Denot g.row.E.Denot). record s { pending = c.write.new.self }) before.0,
      c.in_ok-write.ensures.bytes ∙ ap (λ (t : List ℕ). t ++ line) before.1 ∙ append_assoc (string_bytes c.args.streams.now.pending) (canonical_lines done) line
          ∙ ap (λ (t : List ℕ). string_bytes c.args.streams.now.pending ++ t) (sym lines),
    )

pub returns-clause-begun : goal.returns-clause-begun
returns-clause-begun g c = λ empty.
    let before = c.loop-path.invariant in
    let all = ap (λ (paths : List AskedPath). canonical_lines (map (λ (path : AskedPath). path.path) paths)) (take_all c.loop-path.path-index c.args.paths.now c.loop-path-test.false) in
    let waiting = before.1 ∙ ap (λ (t : List ℕ). t ++ canonical_lines (map (λ (path : AskedPath). path.path) (take c.loop-path.path-index c.args.paths.now))) empty ∙ all in
    subst (AppendsBeginning (g.W.Write.contents c.args.streams.now.out) (g.W.Write.contents c.write-2.new.self.out)) waiting
    (subst (λ (o : g.row.W.Denot). AppendsBeginning (g.W.Write.contents o) (g.W.Write.contents c.write-2.new.self.out) (string_bytes c.loop-path.streams.pending)) (ap (λ (s : Streams g.row.W.Denot g.row.E.Denot). s.out) before.0) c.write-2.ensures.beginning)

pub returns-in_err-write-clause-begun : goal.returns-in_err-write-clause-begun
returns-in_err-write-clause-begun g c = λ empty.
    let before = c.loop-path.invariant in
    subst (λ (o : g.row.W.Denot). AppendsBeginning (g.W.Write.contents c.args.streams.now.out) (g.W.Write.contents o) (canonical_lines (map (λ (path : AskedPath). path.path) c.args.paths.now))) (sym (ap (λ (s : Streams g.row.W.Denot g.row.E.Denot). s.out) before.0))
    (none_begun (g.W.Write.contents c.args.streams.now.out) (canonical_lines (map (λ (path : AskedPath). path.path) c.args.paths.now)))
