use Rattle.serde_json_path_nodes.proofs.Words.{map, take, HasWritten, IsPlainFormatter, normal, step_view}
use Rattle.serde_json_path_nodes.proofs.normalized_path.NormalizedPathDisplay.fmt.Given as goal

-- what is written is the text of the steps so far
abbrev pub invariant-loop-element : goal.invariant-loop-element
invariant-loop-element g l = IsPlainFormatter l.fn.f
    → HasWritten g.W.Write.write_str_gives l.fn.f (normal (map step_view (take l.element-index l.element-items))) l.f
