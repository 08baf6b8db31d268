use Rattle.jpq_program.proofs.Words.{◌≡◌, ◌∙◌, ◌||◌, ◌+◌, List, None, Some, Streams, IsCellOf, IsFirstOf, ℕ, ap, nat_lt, string_bytes, subst, sym, view}
use Rattle.jpq_program.proofs.Cells.{cell_found, cell_refused, no_node, some_cell}
use Rattle.jpq_program.proofs.Nodes.{plus_zero}
use Rattle.jpq_program.proofs.Shown.{or_false}
use Rattle.jpq_program.proofs.answering.Answering.cell.Goals as goal

pub returns-in-Some-clause-found : goal.returns-in-Some-clause-found
returns-in-Some-clause-found g c = λ shows.
    let found = c.in-Ok.ensures in
    let told = c.tell_several.ensures.told in
    let kept = c.in_ok-keep_count-in-Some.ensures.kept in
    let first : c.in-Ok.first.cell ≡ Some c.in-Some.cell = sym c.in-Some.ensures.value in
    cell_found c.args.document.bytes.now (view c.args.document.value.now) found.0 c.args.path.now.path found.1 (string_bytes c.in-Some.cell) 1 c.args.streams.now c.keep_count.new.streams shows found.2 found.3
    (some_cell found.1 c.in-Some.cell (subst (IsFirstOf found.1) first found.4))
    (ap (λ (s : Streams g.row.W.Denot g.row.E.Denot). s.out) kept ∙ ap (λ (s : Streams g.row.W.Denot g.row.E.Denot). s.out) told)
    (ap (λ (s : Streams g.row.W.Denot g.row.E.Denot). s.pending) kept ∙ ap (λ (s : Streams g.row.W.Denot g.row.E.Denot). s.pending) told)
    (ap (λ (s : Streams g.row.W.Denot g.row.E.Denot). s.outcome) kept ∙ ap (λ (s : Streams g.row.W.Denot g.row.E.Denot). record s.outcome { selected = s.outcome.selected || nat_lt 0 1 }) told)
    (ap (λ (s : Streams g.row.W.Denot g.row.E.Denot). s.total) kept ∙ ap (λ (s : Streams g.row.W.Denot g.row.E.Denot). s.total + 1) told)
    (λ silent. ap (λ (s : Streams g.row.W.Denot g.row.E.Denot). s.err) kept ∙ c.tell_several.ensures.quiet silent)

pub returns-clause-found : goal.returns-clause-found
returns-clause-found g c = λ shows.
    let found = c.in-Ok.ensures in
    let told = c.tell_several.ensures.told in
    let first : c.in-Ok.first.cell ≡ None = sym c.in-None.ensures.value in
    cell_found c.args.document.bytes.now (view c.args.document.value.now) found.0 c.args.path.now.path found.1 (string_bytes c.new-in-None.result) 0 c.args.streams.now _ shows found.2 found.3
    (subst (λ (cell : List ℕ). IsCellOf found.1 cell 0) (sym c.new-in-None.ensures.bytes) (no_node found.1 (subst (IsFirstOf found.1) first found.4)))
    (ap (λ (s : Streams g.row.W.Denot g.row.E.Denot). s.out) told)
    (ap (λ (s : Streams g.row.W.Denot g.row.E.Denot). s.pending) told)
    (ap (λ (s : Streams g.row.W.Denot g.row.E.Denot). s.outcome) told ∙ ap (λ (b : _). record c.args.streams.now.outcome { selected = b }) (or_false c.args.streams.now.outcome.selected))
    (ap (λ (s : Streams g.row.W.Denot g.row.E.Denot). s.total) told ∙ plus_zero c.args.streams.now.total)
    (λ silent. c.tell_several.ensures.quiet silent)

pub returns-in-Err-clause-found : goal.returns-in-Err-clause-found
returns-in-Err-clause-found g c = λ shows.
    cell_refused c.args.document.bytes.now c.args.path.now.path (string_bytes c.new.result) c.args.streams.now c.refuse_query.new.streams c.new.ensures.bytes c.refuse_query.ensures.kept c.in_ok-refuse_query-in-Err.ensures.refused
