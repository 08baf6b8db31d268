use Rattle.serde_json_path.proofs.Words.{None, one_tree_at_most, tree_to}
use Rattle.serde_json_path.proofs.NormalTexts.{segments_plain, node_selected, normal_accepted}
use Rattle.serde_json_path.proofs.laws.law_normal.Goals as goal

pub returns : goal.returns
returns c = λ location proper written. record {
  accepted = λ rule signature. normal_accepted rule signature location proper written;
  only = λ rule signature q read. one_tree_at_most rule signature _ q (tree_to location) read (normal_accepted rule signature location proper written);
  no_calls = (segments_plain (λ name. None) location).2;
  flat = (segments_plain (λ name. None) location).1;
  selects = λ F top v there. node_selected F top (record { location = location; value = v }) there;
}
