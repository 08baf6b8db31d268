use Rattle.jpq_program.proofs.Words.{◌∙◌, ◌++◌, ◌∷◌, List, [], ℕ, JsonPath, ap, append_assoc, append-nil, first_cells, map, map_push, refl, row_line, string_bytes, subst, sym, take, take_all, true, AskedPath}
use Rattle.jpq_program.proofs.Nodes.{further_mapped}
use Rattle.jpq_program.proofs.Cells.{FindsCells, cells_found, line_is, no_cells, row_answered}
use Rattle.jpq_program.proofs.Shown.{on_ok_then}
use Rattle.jpq_program.specs.Inside.{separated}
use Rattle.jpq_program.proofs.answering.Answering.answer_row.Goals as goal

pub loop-path-init : goal.loop-path-init
loop-path-init g c = (refl, λ are. ([], c.in_ok-cells.ensures ∙ sym (append-nil _), no_cells c.args.document.bytes.now c.args.streams.now))

pub loop-path-preserved : goal.loop-path-preserved
loop-path-preserved g c = (
  c.cell.ensures.unwritten.0 ∙ c.loop-path.invariant.0,
  λ are.
      let held = c.loop-path.invariant.1 are in
      let path = c.path-item.result in
      let cell = string_bytes c.in_ok-cell.field-0 in
      let firsts = first_cells c.args.self.now.heads.file c.args.self.now.heads.line c.args.document.source.name.now c.args.document.source.line in
      let one = c.in_ok-cell.ensures.found (are c.loop-path.path-index path c.loop-path-test.true c.path-item.is) in (
        held.0 ++ cell ∷ [],
        ap (map string_bytes) c.in_ok-push.ensures.items ∙ map_push string_bytes c.loop-path.cells.items c.in_ok-cell.field-0 ∙ ap (λ (cs : List (List ℕ)). cs ++ cell ∷ []) held.1 ∙ append_assoc firsts held.0 (cell ∷ []),
        subst (λ (paths : List JsonPath). FindsCells c.args.self.now.silent c.args.document.bytes.now paths (held.0 ++ cell ∷ []) c.args.streams.now c.cell.new.streams) (sym (further_mapped (λ (p : AskedPath). p.path) c.args.self.now.paths.now c.loop-path.path-index path c.loop-path-test.true c.path-item.is))
            (cells_found c.args.document.bytes.now (map (λ (p : AskedPath). p.path) (take c.loop-path.path-index c.args.self.now.paths.now)) path.path held.0 cell c.args.streams.now c.loop-path.streams c.cell.new.streams held.2 one),
      ),
)

pub returns-clause-answered : goal.returns-clause-answered
returns-clause-answered g c = on_ok_then c.push_row.result _ _ c.push_row.ensures.row (λ pushed _ is are.
    let held = c.loop-path.invariant.1 are in
    let firsts = first_cells c.args.self.now.heads.file c.args.self.now.heads.line c.args.document.source.name.now c.args.document.source.line in
    row_answered g.W.Write.contents (map (λ (p : AskedPath). p.path) c.args.self.now.paths.now) (row_line c.args.self.now.shown c.args.self.now.showing.output.end) firsts held.0 c.args.document.bytes.now c.args.streams.now c.loop-path.streams c.push_row.new.streams
    (subst (λ (paths : List AskedPath). FindsCells c.args.self.now.silent c.args.document.bytes.now (map (λ (p : AskedPath). p.path) paths) held.0 c.args.streams.now c.loop-path.streams) (take_all c.loop-path.path-index c.args.self.now.paths.now c.loop-path-test.false) held.2)
    c.push_row.ensures.kept (pushed ∙ ap (λ (cells : List (List ℕ)). string_bytes c.loop-path.streams.pending ++ separated c.args.separator c.args.self.now.showing.output.end cells) (ap (map string_bytes) c.as_slice.ensures.value ∙ held.1)
    ∙ ap (λ (row : List ℕ). string_bytes c.loop-path.streams.pending ++ row) (line_is c.args.self.now.shown c.args.separator c.args.self.now.showing.output.end (firsts ++ held.0) is)))
