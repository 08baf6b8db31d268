use Rattle.jpq_program.proofs.Words.{◌≡◌, map, take, AskedPath, path_tree}
use Rattle.serde_json_path_reach.specs.Alike.{trees_of}
use Rattle.jpq_program.proofs.run.trees_of.Given as goal

abbrev pub invariant-loop-path : goal.invariant-loop-path
invariant-loop-path l = trees_of l.trees.items ≡ map (λ (path : AskedPath). path_tree path.path) (take l.path-index l.paths)
