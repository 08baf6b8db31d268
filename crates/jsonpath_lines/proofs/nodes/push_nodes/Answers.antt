use Rattle.jsonpath_lines.proofs.Words.{◌≡◌, ◌+◌, [], ◌∷◌, ◌++◌, length, map, take, string_bytes, arith, ap, sym, subst, ◌∙◌, length-map, length-take-le, map_push, take_more, located, Appends, ArePieces}
use Rattle.jsonpath_lines.proofs.Pieces.{appended_pushed}
use Rattle.jsonpath_lines.proofs.nodes.push_nodes.Goals as goal

pub loop-index-preserved : goal.loop-index-preserved
loop-index-preserved c =
    let nodes = c.args.nodes.now in
    let index = c.loop-index.index in
    let node = c.index-nodes-index.result in
    let done = map located (take index nodes) in
    let many : index ≡ length done = sym (length-map (take index nodes) located ∙ length-take-le index nodes (omega arith)) in
    let further : map located (take (index + 1) nodes) ≡ done ++ located node ∷ [] =
    ap (map located) (take_more nodes index node (omega arith) ∙ ap (λ node. take index nodes ++ node ∷ []) (sym c.index-nodes-index.is))
    ∙ map_push located (take index nodes) node in
    subst (λ ns. Appends (ArePieces c.args.writer.output c.args.writer.head.now ns) (string_bytes c.args.text.now) (string_bytes c.push_node.new.text)) (sym further)
    (appended_pushed c.args.writer.output c.args.writer.head.now done (located node) index _ _ _ many c.loop-index.invariant c.in_ok-push_node.ensures)
