use Rattle.serde_json_path_core.proofs.Words.{◌≡◌, [], map, drop, step_view, stack_path, frames_view}
use Rattle.serde_json_path_core.proofs.evaluation.stack.located_at.Given as goal

abbrev pub invariant-loop-frame : goal.invariant-loop-frame
invariant-loop-frame l = stack_path [] (frames_view l.frames) ≡ stack_path (map step_view l.steps.items) (frames_view (drop l.frame-index l.frames))
