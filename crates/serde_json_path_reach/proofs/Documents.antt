-- From a value that shows what a plan's queries ask of a document the queries select the same.
use Rattle.serde_json_path_reach.proofs.Words.{Data, Includes, List, Query, SelectAlike, SelectPlacesAlike, Shows, Some}
use Rattle.serde_json_path_reach.specs.Readers.{KeepsFor, KeepsPlacesFor}
use Rattle.serde_json_path_reach.specs.declared.document.DocumentReader.{DocumentReader}
use Rattle.serde_json_path_reach.proofs.Same.{selects_places, selects_shown}

module _ (reader : DocumentReader) (queries : List Query) (document reached : Data) (shown : Shows (Includes reader.plan.rows.items reader.plan.at_root) (Some document) (Some reached)) where
  pub alike : KeepsFor reader queries → SelectAlike queries document reached
  alike k F q nodes i = selects_shown F document reached (Includes reader.plan.rows.items reader.plan.at_root) shown q nodes (k.asks.themselves q i) (λ segs j. k.asks.inside q segs i j)

  pub places_alike : KeepsPlacesFor reader queries → SelectPlacesAlike queries document reached
  places_alike k F q places i = selects_places F document reached (Includes reader.plan.rows.items reader.plan.at_root) shown q places (k.asks.themselves q i) (λ segs j. k.asks.inside q segs i j)
