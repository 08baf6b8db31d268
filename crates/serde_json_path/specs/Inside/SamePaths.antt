-- The test of two paths is that of their trees, so it is an equivalence.
use Rattle.std.specs.Cmp.{IsEquivalence}
use Rattle.std.proofs.lemmas.Cmp.{on_equiv}
use Rattle.serde_json_path_syntax.specs.SameTree.{same_query}
use Rattle.serde_json_path_syntax.specs.Inside.SameLaws.{same_query-equiv}
use Rattle.serde_json_path.specs.Paths.{path_tree}
use Rattle.serde_json_path.specs.declared.path.JsonPath.{JsonPath}

pub same_paths-equiv : IsEquivalence (λ (mine theirs : JsonPath). same_query (path_tree mine) (path_tree theirs))
same_paths-equiv = on_equiv path_tree same_query-equiv
