use Rattle.serde_json_path_core.proofs.Walks.Heights.{height, computed_height, same_height}
use Rattle.serde_json_path_core.proofs.laws.law_each_document_has_a_height.Goals as goal

pub returns : goal.returns
returns c = λ document. (height document, computed_height document, λ m is. same_height document m (height document) is (computed_height document))
