use Rattle.std.proofs.Common.{◌≡◌, take, length}
use Rattle.serde_json_path_functions.proofs.signature.Signature.new.Given as goal

abbrev pub invariant-loop-index : goal.invariant-loop-index
invariant-loop-index l = (take l.index l.types ≡ take l.index l.params) × (length l.types ≡ 8)
