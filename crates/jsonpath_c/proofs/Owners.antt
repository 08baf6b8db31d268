-- The structs by which C holds and lends, as structs of one pointer and what that owns or shows.
use Rattle.jsonpath_c.proofs.Words.{refl, Owner, held, lent}
use Rattle.jsonpath_c.specs.contracts.handle.path.PathHandle as path_handle
use Rattle.jsonpath_c.specs.contracts.handle.path.PathRef as path_ref
use Rattle.jsonpath_c.specs.contracts.compiled.Compiled as path
use Rattle.jsonpath_c.specs.contracts.handle.document.DocumentHandle as document_handle
use Rattle.jsonpath_c.specs.contracts.handle.document.DocumentRef as document_ref
use Rattle.jsonpath_c.specs.contracts.handle.document.Document as document
use Rattle.jsonpath_c.specs.contracts.handle.nodes.NodesHandle as nodes_handle
use Rattle.jsonpath_c.specs.contracts.handle.nodes.NodesRef as nodes_ref
use Rattle.jsonpath_c.specs.contracts.handle.nodes.Nodes as nodes
use Rattle.jsonpath_c.specs.contracts.handle.walk.WalkHandle as walk_handle
use Rattle.jsonpath_c.specs.contracts.handle.walk.HeldWalk as walk

abbrev pub path_owner : Owner (held path.the_row)
path_owner = record {
  name = path_handle.the_type.name;
  row = path_handle.the_row;
  at = λ h. h.at;
  value = λ h. h.value;
  make = λ p v. record { at = p; value = v };
  owned = λ h vs. refl;
  made = λ p v vs. refl;
  valued = λ p v. refl;
  silent = λ h f. refl;
}

abbrev pub path_lender : Owner (lent path.the_row)
path_lender = record {
  name = path_ref.the_type.name;
  row = path_ref.the_row;
  at = λ h. h.at;
  value = λ h. h.value;
  make = λ p v. record { at = p; value = v };
  owned = λ h vs. refl;
  made = λ p v vs. refl;
  valued = λ p v. refl;
  silent = λ h f. refl;
}

abbrev pub document_owner : Owner (held document.the_row)
document_owner = record {
  name = document_handle.the_type.name;
  row = document_handle.the_row;
  at = λ h. h.at;
  value = λ h. h.value;
  make = λ p v. record { at = p; value = v };
  owned = λ h vs. refl;
  made = λ p v vs. refl;
  valued = λ p v. refl;
  silent = λ h f. refl;
}

abbrev pub document_lender : Owner (lent document.the_row)
document_lender = record {
  name = document_ref.the_type.name;
  row = document_ref.the_row;
  at = λ h. h.at;
  value = λ h. h.value;
  make = λ p v. record { at = p; value = v };
  owned = λ h vs. refl;
  made = λ p v vs. refl;
  valued = λ p v. refl;
  silent = λ h f. refl;
}

abbrev pub nodes_owner : Owner (held nodes.the_row)
nodes_owner = record {
  name = nodes_handle.the_type.name;
  row = nodes_handle.the_row;
  at = λ h. h.at;
  value = λ h. h.value;
  make = λ p v. record { at = p; value = v };
  owned = λ h vs. refl;
  made = λ p v vs. refl;
  valued = λ p v. refl;
  silent = λ h f. refl;
}

abbrev pub nodes_lender : Owner (lent nodes.the_row)
nodes_lender = record {
  name = nodes_ref.the_type.name;
  row = nodes_ref.the_row;
  at = λ h. h.at;
  value = λ h. h.value;
  make = λ p v. record { at = p; value = v };
  owned = λ h vs. refl;
  made = λ p v vs. refl;
  valued = λ p v. refl;
  silent = λ h f. refl;
}

abbrev pub walk_owner : Owner (held walk.the_row)
walk_owner = record {
  name = walk_handle.the_type.name;
  row = walk_handle.the_row;
  at = λ h. h.at;
  value = λ h. h.value;
  make = λ p v. record { at = p; value = v };
  owned = λ h vs. refl;
  made = λ p v vs. refl;
  valued = λ p v. refl;
  silent = λ h f. refl;
}
