use Rattle.serde_json_path_syntax.proofs.Words.{◌↔◌, drop, Fits, calls_among}
use Rattle.serde_json_path_syntax.proofs.checked.Checked.fits.Given as goal

abbrev pub invariant-loop-node : goal.invariant-loop-node
invariant-loop-node g l =
    let set = g.F.Functions.set l.functions in
    Fits set (calls_among l.node-items) ↔ Fits set (calls_among (drop l.node-index l.node-items))
