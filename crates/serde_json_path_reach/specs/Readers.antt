-- What contracts see of a reader of documents.
use Rattle.std.specs.Prelude.{List, Bool, true, false}
use Rattle.serde_json_path_syntax.specs.Tree.{Query}
use Rattle.serde_json_path_reach.specs.Inside.Rows.{AreRight, AsksAll}
use Rattle.serde_json_path_reach.specs.declared.document.DocumentReader.{DocumentReader}

-- what these queries can reach is kept: the nodes, or their places alone
pub record Keeps (reader : DocumentReader) (places : Bool) (queries : List Query) : Type 0 where
  pub right : AreRight reader.plan.rows.items
  pub asks : AsksAll reader.plan places queries

-- what these queries can reach is kept
abbrev pub KeepsFor : DocumentReader → List Query → Type 0
KeepsFor reader queries = Keeps reader false queries

-- the places that these queries can reach are kept
abbrev pub KeepsPlacesFor : DocumentReader → List Query → Type 0
KeepsPlacesFor reader queries = Keeps reader true queries
